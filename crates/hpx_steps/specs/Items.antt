-- Everything that a locality has in the middle of a turn: what it weighs, and what holds of it.
use Rattle.std.specs.Prelude.{ℕ, ◌+◌, ◌≡◌, ◌⊎◌, List, [], ◌∷◌}
use Rattle.std.specs.List.{sum_by}
use Rattle.hpx_journal.specs.Data.{Id, Act, Parcel, Due}
use Rattle.hpx_part.specs.Data.{Standing}
use Rattle.hpx_agas.specs.declared.record.Waiting.{Waiting}
use Rattle.hpx_tables.specs.declared.kept.Arrival.{Arrival}
use Rattle.hpx_tables.specs.declared.kept.Outgoing.{Outgoing}
use Rattle.hpx_tables.specs.Pending.{Waits}
use Rattle.hpx_steps.specs.Turn.{Turn}

-- one thing of it
pub data Item : Type 0 where
  Came : Parcel → Item
  Mailed : Parcel → Item
  OnDesk : Parcel → Item
  Going : Outgoing → Item
  Queued : Waiting Parcel → Item
  Leaving : Parcel → Item
  Stray : Parcel → Item
  Brought : Arrival → Item
  Accepted : Act → Item
  Running : Act → Item
  Pending : Waits → Item
  Working : Waits → Item
  StandsHere : Standing → Item
  IsDue : Due → Item
  Loose : Id → Item
  Untold : Id → Item

-- x is one of these
abbrev pub Among : {X : Type 0} → X → List X → Type 0
Among x [] = ⊥
Among x (y ∷ ys) = (y ≡ x) ⊎ Among x ys

-- it is there
abbrev pub Has : Turn → Item → Type 0
Has s (Came p) = Among p s.came
Has s (Mailed p) = Among p s.mailed
Has s (OnDesk p) = Among p s.tables.desk
Has s (Going x) = Among x s.tables.outgoing
Has s (Queued x) = Among x s.tables.queued
Has s (Leaving p) = Among p s.tables.leaving
Has s (Stray p) = Among p s.tables.stray
Has s (Brought a) = Among a s.tables.came
Has s (Accepted act) = Among act s.tables.accepted
Has s (Running act) = Among act s.tables.running
Has s (Pending w) = Among w s.tables.pending
Has s (Working w) = Among w s.working
Has s (StandsHere x) = Among x s.tables.objects
Has s (IsDue d) = Among d s.due
Has s (Loose id) = Among id s.loose
Has s (Untold o) = Among o s.untold

-- this holds of all that is there
abbrev pub Holds : (Item → Type 0) → Turn → Type 0
Holds P s = (i : Item) → Has s i → P i

-- what all of it weighs
abbrev pub weigh : (Item → ℕ) → Turn → ℕ
weigh w s =
    sum_by (λ x. w (Came x)) s.came
    + sum_by (λ x. w (Mailed x)) s.mailed
    + sum_by (λ x. w (OnDesk x)) s.tables.desk
    + sum_by (λ x. w (Going x)) s.tables.outgoing
    + sum_by (λ x. w (Queued x)) s.tables.queued
    + sum_by (λ x. w (Leaving x)) s.tables.leaving
    + sum_by (λ x. w (Stray x)) s.tables.stray
    + sum_by (λ x. w (Brought x)) s.tables.came
    + sum_by (λ x. w (Accepted x)) s.tables.accepted
    + sum_by (λ x. w (Running x)) s.tables.running
    + sum_by (λ x. w (Pending x)) s.tables.pending
    + sum_by (λ x. w (Working x)) s.working
    + sum_by (λ x. w (StandsHere x)) s.tables.objects
    + sum_by (λ x. w (IsDue x)) s.due
    + sum_by (λ x. w (Loose x)) s.loose
    + sum_by (λ x. w (Untold x)) s.untold
