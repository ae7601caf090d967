-- What a slip does: it hands out one line, and writes what is printed.
use Rattle.std.specs.Prelude.{ℕ, Bool, true, false, Option, List, [], ◌∷◌, ◌++◌, ◌≡◌}
use Rattle.std.specs.List.{concat, flat_map}
use Rattle.hpx_journal.specs.Pool.{prints_of}
use Rattle.hpx_part.specs.Data.{Entry}
use Rattle.hpx_ports.specs.Told.{followed}
use Rattle.hpx_member.specs.Talks.{Talk, Handed, Over, Shown}
use Rattle.hpx_member.specs.declared.lines.LineFault.{LineFault}
use Rattle.hpx_member.specs.declared.lines.LineFault.TheVariants.{OutOfMemory, Write}
use Rattle.hpx_process.specs.Deeds.{Wrote}

-- the lines that were handed out
abbrev pub handed_by : Talk → List (List ℕ)
handed_by (Handed line) = line ∷ []
handed_by _ = []

abbrev pub handed_in : List Talk → List (List ℕ)
handed_in talk = flat_map handed_by talk

-- the entries that were shown
abbrev pub shown_by : Talk → List Entry
shown_by (Shown entries) = entries
shown_by _ = []

abbrev pub shown_in : List Talk → List Entry
shown_in talk = flat_map shown_by talk

-- whether its line was handed out, and what was written
pub record Note : Type 0 where
  pub asked : Bool
  pub text : Option (List ℕ)

abbrev pub note : Bool → Option (List ℕ) → Note
note asked text = record { asked = asked; text = text }

-- the line, while it is to be handed out
abbrev pub unasked : Bool → List ℕ → List (List ℕ)
unasked true line = []
unasked false line = line ∷ []

-- it was said that the lines are over only where none is left
abbrev pub IfOver : List Talk → Type 0 → Type 0
IfOver [] P = Unit {0}
IfOver (Over ∷ talk) P = P
IfOver (_ ∷ talk) P = IfOver talk P

-- this was said, and what was shown is written
pub record HasPassed (line : List ℕ) (x z : Note) (talk : List Talk) : Type 0 where
  pub handed : unasked x.asked line ≡ handed_in talk ++ unasked z.asked line
  pub over : IfOver talk (z.asked ≡ true)
  pub text : z.text ≡ followed x.text (concat (prints_of (shown_in talk)))

-- it is broken off where memory is wanted for the line, which is not handed out then, or where what is shown is not written
abbrev pub Sticks : LineFault → Bool → List Talk → Type 0
Sticks OutOfMemory asked tried = (asked ≡ false) × (tried ≡ [])
Sticks Write asked tried = (entries : List Entry) × (tried ≡ Shown entries ∷ [])
Sticks _ asked tried = ⊥

-- this was said, and a fault broke off what was to be handed out or shown
pub record HasStuck (line : List ℕ) (x z : Note) (fault : LineFault) (talk tried : List Talk) : Type 0 where
  pub breaks : Sticks fault z.asked tried
  pub handed : unasked x.asked line ≡ handed_in talk ++ unasked z.asked line
  pub over : IfOver talk (z.asked ≡ true)
  pub text : Wrote fault (concat (prints_of (shown_in tried))) (followed x.text (concat (prints_of (shown_in talk)))) z.text
