-- What comes over the road names only what there is: localities, roots, and objects that have credit.
use Rattle.std.specs.Prelude.{ℕ, true, List, ◌≡◌, ◌<◌}
use Rattle.std.specs.List.{list_any, AllByRecursion}
use Rattle.hpx_value.specs.Laws.{IsRoot}
use Rattle.hpx_journal.specs.Data.{Id, Act}
use Rattle.hpx_journal.specs.Entries.{Entry, Rules}
use Rattle.hpx_journal.specs.Frames.{acts_in, travels_in}
use Rattle.hpx_journal.specs.Local.{is_standing}
use Rattle.hpx_journal.specs.Names.{due_ids}
use Rattle.hpx_journal.specs.Whole.{Space, IsDeadIn, replayed}
use Rattle.hpx_journal.specs.Laws.{IsBornIn, freeds}

-- ---- everywhere

-- each action that waits, is fired or is on the road is as wanted
pub record EachAct (r : Rules) (P : Act → Type 0) (w : Space) : Type 0 where
  pub waiting : (k : ℕ) → k < r.localities → AllByRecursion P (w.places k).waiting
  pub fired : (k : ℕ) → k < r.localities → AllByRecursion P (w.places k).fired
  pub road : AllByRecursion (λ f. AllByRecursion P (acts_in (r.parcel_of f.1))) w.road

-- each id is as wanted: in actions that are not done, in what is due, and in states of objects, here and on the road
pub record EachName (r : Rules) (P : Id → Type 0) (w : Space) : Type 0 where
  pub acts : EachAct r (λ act. AllByRecursion P act.ids) w
  pub due : (k : ℕ) → k < r.localities → AllByRecursion (λ x. AllByRecursion P (due_ids x)) (w.places k).due
  pub objects : (k : ℕ) → k < r.localities → AllByRecursion (λ x. AllByRecursion P x.state.ids) (w.places k).objects
  pub travels : (k : ℕ) → k < r.localities → AllByRecursion (λ x. AllByRecursion P x.state.ids) (w.places k).travels
  pub road : AllByRecursion (λ f. AllByRecursion (λ x. AllByRecursion P x.state.ids) (travels_in (r.parcel_of f.1))) w.road

-- ---- roots

-- the id of a root that there is, at n localities
pub record IsRootId (n : ℕ) (o : Id) : Type 0 where
  pub root : IsRoot n o.kind o.home
  pub number : o.number ≡ 1

-- an id of a kind below 16 is that of a root
abbrev pub IsRootIfSmall : ℕ → Id → Type 0
IsRootIfSmall n o = o.kind < 16 → IsRootId n o

-- ---- objects

-- a root or an object stands at its home, which is one of n localities
pub record StandsAtHome (n : ℕ) (w : Space) (o : Id) : Type 0 where
  pub home : o.home < n
  pub stands : list_any (is_standing o) (w.places o.home).objects ≡ true

-- an object was born, and neither died nor was freed
pub record IsAlive (r : Rules) (es : List Entry) (o : Id) : Type 0 where
  pub born : IsBornIn o (replayed r es)
  pub alive : IsDeadIn o (replayed r es) → ⊥
  pub kept : freeds o es ≡ 0
