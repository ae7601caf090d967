-- The lines that a member is fed, and where.
use Rattle.std.specs.Prelude.{ℕ, List, [], ◌∷◌, ◌≡◌, ◌++◌, ◌⊎◌}
use Rattle.std.specs.List.{AllByRecursion}
use Rattle.hpx_journal.specs.Entries.{Rules}
use Rattle.hpx_journal.specs.Foreign.{IsForeign}
use Rattle.hpx_journal.specs.Local.{after}
use Rattle.hpx_journal.specs.Sessions.{BeginsWith, FeedsNothing}
use Rattle.hpx_journal.specs.Whole.{IsQuietAt}
use Rattle.hpx_part.specs.Data.{Entry, Event, Line, Local}
use Rattle.hpx_tables.specs.Awaited.{awaited_at}

-- entries were added, and no line is among them
pub record AddsNoLine (es es' : List Entry) : Type 0 where
  pub later : List Entry
  pub is : es' ≡ es ++ later
  pub unfed : AllByRecursion (λ e. FeedsNothing e.event) later

-- entries were added, of which the first feeds this line, and no other feeds one
pub record FeedsLine (line : List ℕ) (es es' : List Entry) : Type 0 where
  pub later : List Entry
  pub is : es' ≡ es ++ later
  pub begins : BeginsWith line later

-- they were, or none
abbrev pub FeedsAtMost : List ℕ → List Entry → List Entry → Type 0
FeedsAtMost line es es' = (es' ≡ es) ⊎ FeedsLine line es es'

-- nothing is under way at a locality, and its session waits for no answer
pub record IsIdle (s : Local) : Type 0 where
  pub quiet : IsQuietAt s
  pub answered : awaited_at s ≡ 0

-- where an event is a line
abbrev pub IfLine : Event → Type 0 → Type 0
IfLine (Line a bytes) P = P
IfLine _ P = Unit {0}

-- up to a foreign arrival each line is fed where nothing is under way, and no answer is awaited
abbrev pub FeedsIdle : Rules → Local → List Entry → Type 0
FeedsIdle r s [] = Unit {0}
FeedsIdle r s (e ∷ es) = IfLine e.event (IsIdle s) × ((IsForeign r s e.event → ⊥) → FeedsIdle r (after r s e.event) es)
