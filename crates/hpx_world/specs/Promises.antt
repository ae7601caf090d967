-- What is promised of the journal, after each of its entries: of each front of it.
use Rattle.std.specs.Prelude.{ℕ, true, false, List, [], ◌∷◌, ◌++◌, ◌≡◌, ◌≤◌, ◌<◌, ◌+◌, ◌^◌, ◌↔◌}
use Rattle.hpx_value.specs.Hands.{Slot}
use Rattle.hpx_journal.specs.Data.{Id}
use Rattle.hpx_journal.specs.Entries.{Rules}
use Rattle.hpx_journal.specs.Foreign.{kept}
use Rattle.hpx_journal.specs.Laws.{IsBornIn, entry_at, begun, fires, fires_at, fired_here, dones, dones_at, freeds, held_in, owed_in, asking_in, asked_in, given_in, travelling_in, count_events, is_failed, is_refused_count, Commits, Fails, TargetsStand}
use Rattle.hpx_journal.specs.Local.{recorded}
use Rattle.hpx_journal.specs.Names.{IsBacked}
use Rattle.hpx_journal.specs.Slots.{claims_in}
use Rattle.hpx_journal.specs.Whole.{IsLegal, replayed, credit_sum, recorded_in, IsDeadIn, names_in}
use Rattle.hpx_part.specs.Data.{Name, Entry, Done, Freed, Count, Granted, Refused}

-- the ledger: the journal is legal, and the credits of each object are always what its home has recorded; it dies exactly where
-- it was born and no credit of it is left
pub record KeepsLedger (r : Rules) (es : List Entry) : Type 0 where
  pub legal : IsLegal r es
  pub sums : (front later : List Entry) → es ≡ front ++ later → (o : Id) → credit_sum r o (replayed r front) ≡ recorded_in o (replayed r front)
  pub dies : (front later : List Entry) → es ≡ front ++ later → (o : Id)
      → IsDeadIn o (replayed r front) ↔ (IsBornIn o (replayed r front) × (credit_sum r o (replayed r front) ≡ 0))

-- life: each name of a managed object has a token that is held, or was asked for, and each ask that is not answered has one that is
-- owed, in all and at each locality; once it is dead nothing names it, now or later; it is freed only then, once, and is nowhere
-- after that
pub record KeepsLife (r : Rules) (es : List Entry) : Type 0 where
  pub named : (front later : List Entry) → es ≡ front ++ later → (o : Id) → 16 ≤ o.kind
      → names_in r o (replayed r front) + given_in r o (replayed r front) ≤ held_in r o (replayed r front) + asked_in r o (replayed r front)
  pub asked : (front later : List Entry) → es ≡ front ++ later → (o : Id) → 16 ≤ o.kind
      → asked_in r o (replayed r front) ≤ owed_in r o (replayed r front) + asking_in r o (replayed r front) + given_in r o (replayed r front)
  pub backed : (front later : List Entry) → es ≡ front ++ later → (k : ℕ) → k < r.localities → IsBacked ((replayed r front).places k)
  pub unnamed : (front more later : List Entry) → es ≡ front ++ (more ++ later) → (o : Id) → 16 ≤ o.kind → IsDeadIn o (replayed r front)
      → names_in r o (replayed r (front ++ more)) ≡ 0
  pub freed : (front later : List Entry) (k : ℕ) (o : Id) → es ≡ front ++ entry_at k (Freed o) ∷ later → IsDeadIn o (replayed r front)
  pub once : (o : Id) → freeds o es ≤ 1
  pub gone : (o : Id) (k : ℕ) → k < r.localities → 1 ≤ freeds o es → kept o ((replayed r es).places k) ≡ 0
  pub away : (o : Id) → 1 ≤ freeds o es → travelling_in r o (replayed r es) ≡ 0

-- actions once: each is fed or sent, fired and done at most once, and done where it was fired; from its Fire to its Done it is fired
-- there, where its target stands; what a Done leaves is the outcome of its action, or its failure
pub record RunsOnce (r : Rules) (es : List Entry) : Type 0 where
  pub begun_once : (a : Name) → begun a es ≤ 1
  pub fired_once : (a : Name) → fires a es ≤ begun a es
  pub done_once : (a : Name) → dones a es ≤ 1
  pub done_where : (a : Name) (k : ℕ) → dones_at k a es ≤ fires_at k a es
  pub runs : (front later : List Entry) → es ≡ front ++ later → (k : ℕ) (a : Name)
      → fired_here a ((replayed r front).places k) + dones_at k a front ≡ fires_at k a front
  pub stands : (front later : List Entry) → es ≡ front ++ later → (k : ℕ) → TargetsStand ((replayed r front).places k)
  pub committed : (front later : List Entry) (k : ℕ) (a : Name) → es ≡ front ++ entry_at k (Done a false) ∷ later
      → Commits r a ((replayed r front).places k) ((replayed r (front ++ entry_at k (Done a false) ∷ [])).places k)
  pub failed : (front later : List Entry) (k : ℕ) (a : Name) → es ≡ front ++ entry_at k (Done a true) ∷ later
      → Fails a ((replayed r front).places k) ((replayed r (front ++ entry_at k (Done a true) ∷ [])).places k)

-- continuations once: each slot is claimed at most once, by a continuation that names it, or by an answer
pub record AnswersOnce (r : Rules) (es : List Entry) : Type 0 where
  pub claimed : (front later : List Entry) → es ≡ front ++ later → (x : Slot) → claims_in r x (replayed r front) ≤ 1

-- the limit: more credit is granted only where the count stays within it, and refused only where the count would pass it; no more
-- actions fail than asks were refused
pub record KeepsLimit (r : Rules) (es : List Entry) : Type 0 where
  pub granted : (front later : List Entry) (k : ℕ) (o : Id) (count : ℕ) → es ≡ front ++ entry_at k (Count o count Granted) ∷ later
      → (count + 1 ≡ recorded o ((replayed r front).places k) + 2 ^ r.credit_log) × (count ≤ r.credit_limit)
  pub refused : (front later : List Entry) (k : ℕ) (o : Id) (count : ℕ) → es ≡ front ++ entry_at k (Count o count Refused) ∷ later
      → (count ≡ recorded o ((replayed r front).places k)) × (r.credit_limit + 1 < count + 2 ^ r.credit_log)
  pub failures : count_events is_failed es ≤ count_events is_refused_count es

-- all of these
pub record KeepsPromises (r : Rules) (es : List Entry) : Type 0 where
  pub ledger : KeepsLedger r es
  pub life : KeepsLife r es
  pub actions : RunsOnce r es
  pub continuations : AnswersOnce r es
  pub limit : KeepsLimit r es
