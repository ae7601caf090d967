-- What is said between a console and those who hand it lines.
use Rattle.std.specs.Prelude.{ℕ, Bool, true, List, [], ◌∷◌, ◌≡◌, Option, Some, None}
use Rattle.hpx_part.specs.Data.{Entry}
use Rattle.hpx_ports.specs.Faults.{Rose}
use Rattle.hpx_member.specs.declared.lines.LineFault.{LineFault}
use Rattle.hpx_member.specs.declared.lines.LineFault.TheVariants.{Read, Write, OutOfMemory, InputFull}

-- a line was handed out; there are no more; or these entries were shown
pub data Talk : Type 0 where
  Handed : (line : List ℕ) → Talk
  Over : Talk
  Shown : (entries : List Entry) → Talk

-- what is said by the answer to a question for the next line
abbrev pub talk_of : Option (List ℕ) → List Talk
talk_of None = Over ∷ []
talk_of (Some line) = Handed line ∷ []

-- why there is no next line, or entries were not shown, by the counts of faults before and after: one rises at a fault of its own alone
abbrev pub IsLineCause : (reads reads' writes writes' : ℕ) (full : Bool) → LineFault → Type 0
IsLineCause reads reads' writes writes' full Read = Rose reads reads' × (writes' ≡ writes)
IsLineCause reads reads' writes writes' full Write = Rose writes writes' × (reads' ≡ reads)
IsLineCause reads reads' writes writes' full OutOfMemory = (reads' ≡ reads) × (writes' ≡ writes)
IsLineCause reads reads' writes writes' full InputFull = (full ≡ true) × (reads' ≡ reads) × (writes' ≡ writes)

-- what was said, whatever was to be said behind it
abbrev pub Only : (List Talk → Type 0) → List Talk → List Talk → Type 0
Only Went talk tried = Went talk
