-- A patient console: it feeds a line where its own locality is idle and its session awaits no answer, whatever is still on its
-- way elsewhere.
use Rattle.std.specs.Prelude.{ℕ, false, List, [], ◌∷◌, ◌++◌, ◌≡◌}
use Rattle.std.specs.List.{AllByRecursion}
use Rattle.hpx_journal.specs.Data.{Message}
use Rattle.hpx_journal.specs.Entries.{Rules}
use Rattle.hpx_journal.specs.Local.{after, boot}
use Rattle.hpx_journal.specs.Roots.{roots}
use Rattle.hpx_journal.specs.Whole.{IsLegal, replayed, run_local}
use Rattle.hpx_journal.specs.Pool.{Pool, fed}
use Rattle.hpx_journal.specs.Sessions.{BeginsWith, Steps, at_rest, entries_of}
use Rattle.hpx_patient.specs.Data.{Event, Line, Entry, Local}
use Rattle.hpx_patient.specs.Claims.{session_claims, awaited_at}
use Rattle.hpx_patient.specs.Lines.{is_line}

-- nothing waits, is fired or due here, and the session awaits no answer
pub record IsReady (s : Local) : Type 0 where
  pub waiting : s.waiting ≡ []
  pub fired : s.fired ≡ []
  pub due : s.due ≡ []
  pub answered : awaited_at s ≡ 0

-- a block, behind the entries before it: one line, what follows from it, and then the console is ready for the next
pub record IsPatientBlock (r : Rules) (before : List Entry) (line : List ℕ) (es : List Entry) : Type 0 where
  pub legal : IsLegal r (before ++ es)
  pub begins : BeginsWith line es
  pub ready : IsReady ((replayed r (before ++ es)).places 0)

-- lines with their blocks, one behind the other
abbrev pub IsPatientSession : Rules → List Entry → List (List ℕ) → List (List Entry) → Type 0
IsPatientSession r before [] [] = Unit {0}
IsPatientSession r before (line ∷ lines) (es ∷ blocks) = IsPatientBlock r before line es × IsPatientSession r (before ++ es) lines blocks
IsPatientSession r before _ _ = ⊥

-- ---- what a console knows of its own part

-- where an event is a line
abbrev pub IfLine : Event → Type 0 → Type 0
IfLine (Line a bytes) P = P
IfLine _ P = Unit {0}

-- each line is fed where the console is ready
abbrev pub FeedsReady : Rules → Local → List Entry → Type 0
FeedsReady r s [] = Unit {0}
FeedsReady r s (e ∷ es) = IfLine e.event (IsReady s) × FeedsReady r (after r s e.event) es

-- each block begins with its line
abbrev pub AreBlocks : List (List ℕ) → List (List Entry) → Type 0
AreBlocks [] [] = Unit {0}
AreBlocks (line ∷ lines) (es ∷ blocks) = BeginsWith line es × AreBlocks lines blocks
AreBlocks _ _ = ⊥

-- the part of locality 0 is blocks and then the last entries; each line was fed where the console was ready, and so it was behind
-- the blocks
pub record IsPatientPart (r : Rules) (own : List Entry) (lines : List (List ℕ)) (blocks : List (List Entry)) (last : List Entry) : Type 0 where
  pub begin : AreBlocks lines blocks
  pub is : own ≡ entries_of blocks ++ last
  pub feeds : FeedsReady r (boot (roots r.localities 0) 0) own
  pub ready : IsReady (run_local r (boot (roots r.localities 0) 0) (entries_of blocks))

-- ---- the same over the plain pool

-- the session has nothing to do with a message: it is no line, and claims no slot of the session
pub record IsAside (m : Message) : Type 0 where
  pub line : is_line m ≡ false
  pub claims : session_claims m ≡ 0

-- nor with any of these
abbrev pub AreAside : List Message → Type 0
AreAside ms = AllByRecursion IsAside ms

-- a line is fed where nothing is pending for the session, and steps follow until it is so again: what is printed then, and the
-- pool at rest
pub record IsPatientPlainBlock (r : Rules) (p : Pool) (line : List ℕ) (text : List (List ℕ)) (p' : Pool) : Type 0 where
  pub ready : AreAside p.pending
  pub steps : ℕ
  pub end : Pool
  pub acts : Steps r steps (fed (at_rest p) line) end
  pub idle : AreAside end.pending
  pub printed : text ≡ end.printed
  pub keeps : p' ≡ at_rest end

-- lines, each with what is printed until nothing is pending for the session
abbrev pub IsPatientPlainSession : Rules → Pool → List (List ℕ) → List (List (List ℕ)) → Type 0
IsPatientPlainSession r p [] [] = Unit {0}
IsPatientPlainSession r p (line ∷ lines) (text ∷ texts) =
    (p' : Pool) × IsPatientPlainBlock r p line text p' × IsPatientPlainSession r p' lines texts
IsPatientPlainSession r p _ _ = ⊥

-- a line is fed where nothing is pending for the session, and some steps follow: the text begins what they print
pub record IsPatientPlainFront (r : Rules) (p : Pool) (line : List ℕ) (text : List (List ℕ)) : Type 0 where
  pub ready : AreAside p.pending
  pub steps : ℕ
  pub end : Pool
  pub acts : Steps r steps (fed (at_rest p) line) end
  pub later : List (List ℕ)
  pub printed : text ++ later ≡ end.printed

-- a session, and then a line that is broken off
abbrev pub IsPatientPlainBrokenOff : Rules → Pool → List (List ℕ) → List (List (List ℕ)) → List ℕ → List (List ℕ) → Type 0
IsPatientPlainBrokenOff r p [] [] line text = IsPatientPlainFront r p line text
IsPatientPlainBrokenOff r p (l ∷ lines) (t ∷ texts) line text =
    (p' : Pool) × IsPatientPlainBlock r p l t p' × IsPatientPlainBrokenOff r p' lines texts line text
IsPatientPlainBrokenOff r p _ _ line text = ⊥
