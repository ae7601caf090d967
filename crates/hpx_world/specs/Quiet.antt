-- When nothing is to be done.
use Rattle.std.specs.Prelude.{ℕ, List, [], ◌≡◌, ◌≤◌, ◌<◌, Option, Some, None, sum_by, map}
use Rattle.std.specs.List.{count_by, AllByRecursion}
use Rattle.hpx_journal.specs.Data.{Id, Act}
use Rattle.hpx_journal.specs.Entries.{Frame, Rules}
use Rattle.hpx_journal.specs.Names.{names}
use Rattle.hpx_journal.specs.Tokens.{is_held}
use Rattle.hpx_journal.specs.Whole.{Space, IsQuiet as IsQuietIn}
use Rattle.hpx_node.specs.Handled.{HasNothingToTend}
use Rattle.hpx_tables.specs.Free.{NoneIsFree}
use Rattle.hpx_tables.specs.Tables.{Tables, IsPassive, fired_acts}

-- nothing is to be done anywhere: each node is passive, no frame is in hand, and as many were accepted as sent
pub record IsQuiet (nodes : List Tables) (hand : Option Frame) : Type 0 where
  pub passive : AllByRecursion IsPassive nodes
  pub empty : hand ≡ None
  pub taken : sum_by (λ t. t.taken) nodes ≡ sum_by (λ t. t.sent) nodes

-- the journal is quiet: nothing is under way anywhere, and what is dead is gone; and at each locality as many credits of an object
-- are held as it has names
pub record IsAtRest (r : Rules) (w : Space) : Type 0 where
  pub quiet : IsQuietIn r w
  pub held : (o : Id) (k : ℕ) → 16 ≤ o.kind → k < r.localities → count_by (is_held o) (w.places k).tokens ≡ names o (w.places k)

-- no accepted action may be fired
abbrev pub IsStuck : Tables → Type 0
IsStuck t = NoneIsFree (fired_acts t) t.objects t.accepted

-- no message waits to be sent
abbrev pub SendsNothing : Tables → Type 0
SendsNothing t = t.outgoing ≡ []

-- no turn but a Feed or a Finish can do anything, on a fabric that tells: nothing may be fired, dealt with, sent or accepted
pub record NothingApplies (nodes : List Tables) (held : Option Frame) (frames : Option (List Frame)) : Type 0 where
  pub fire : AllByRecursion IsStuck nodes
  pub desk : AllByRecursion HasNothingToTend nodes
  pub pump : AllByRecursion SendsNothing nodes
  pub hand : held ≡ None
  pub flight : (xs : List Frame) → frames ≡ Some xs → xs ≡ []

-- ---- jobs

-- the actions that run, at each locality
abbrev pub running_in : List Tables → List (List Act)
running_in nodes = map (λ t. t.running) nodes

-- no job is out
abbrev pub NoneRuns : List Tables → Type 0
NoneRuns nodes = AllByRecursion (λ (acts : List Act). acts ≡ []) (running_in nodes)
