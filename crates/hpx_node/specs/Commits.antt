-- What a commit writes.
use Rattle.std.specs.Prelude.{Bool, List, None, Option, Some, [], false, is_some, not, true, ◌==◌, ◌&&◌, length, map, set, ℕ, ◌++◌, ◌+◌, ◌∷◌, ◌≡◌, ◌≤◌}
use Rattle.std.specs.Option.{option_to_list}
use Rattle.std.specs.List.{AllByRecursion, find, remove, slice_get}
use Rattle.hpx_node.specs.Names.{Done, Act, Due, Event, Id, IsAt, IsFitDue, Job, MayDeal, Outcome, Prepared, Remains, Standing, State, Stock, Tables, answered_by, at_all, dealt, due_with, filled, filled_due, hand_ids, is_standing, name_of, places_named, plain, rider_events, rider_of, splits_from, state_after, target_of, total_weight, unnamed, unused, ups, with_done, with_done_told, written_due}
use Rattle.hpx_value.specs.Ids.{bare, same_object}
use Rattle.hpx_part.specs.Data.{Name}
use Rattle.hpx_parcel.specs.Parcels.{HasCredit, HasRightCredit}
use Rattle.hpx_tables.specs.declared.births.Birth.{Birth}
use Rattle.hpx_tables.specs.declared.kept.Arrival.{Arrival}
pub use Rattle.hpx_steps.specs.Sound.{arrival_of}
use Rattle.hpx_tables.specs.Births.{IsBirth, birth_of, births_of, objects_of, records_of, ids_of}

-- ---- a commit

-- a job as its outcome and its hand are of it: with its plain action
abbrev pub seen : Job → Job
seen job = record { at = job.at; kind = job.kind; state = job.state; action = plain job.action }

-- the ids of the objects that are made
abbrev pub made_of : Tables → Outcome → List Id
made_of t out = ids_of t.here t.births t.profile.credit_log (map birth_of out.makes)

-- the ids of the hand, those of made objects with it
abbrev pub hand_of : Tables → Job → Outcome → List Id
hand_of t job out = hand_ids job.state job.action (made_of t out)

-- the places of managed objects that the outcome names
abbrev pub places_in_hand : Tables → Job → Outcome → List ℕ
places_in_hand t job out = places_named job.state job.action (made_of t out) out

-- the stock of the hand: its ids, and the places that are named there
abbrev pub own_stock : Tables → Job → Outcome → Stock
own_stock t job out = record { hand = hand_of t job out; places = places_in_hand t job out }

-- the new state of the object, where this stock is dealt: each mention has its share
abbrev pub state_dealt : Tables → Job → Outcome → Stock → State
state_dealt t job out s = record (state_after job.state job.action (made_of t out) out) {
  ids = filled (state_after job.state job.action (made_of t out) out).ids (dealt s.hand s.places);
}

-- what is due then, each mention with the next share
abbrev pub due_dealt : Tables → Job → Outcome → Stock → List Due
due_dealt t job out s = filled_due (due_with job.state job.action (made_of t out) out)
    (unused (state_after job.state job.action (made_of t out) out).ids (dealt s.hand s.places))

-- what is left then
abbrev pub remains : Tables → Job → Outcome → Stock → Remains
remains t job out s = record { state = state_dealt t job out s; due = due_dealt t job out s; loose = unnamed s.hand s.places }

-- what is written where this stock is dealt: births, splits, the Done, what is due, the rider, and what nobody names
abbrev pub committed_from : Tables → Job → Outcome → Stock → List Event
committed_from t job out s =
    births_of t.here t.births (map birth_of out.makes)
    ++ (splits_from 0 s.hand s.places
    ++ (Done (name_of job.action) false
    ∷ (written_due t.here t.serial (due_with job.state (plain job.action) (made_of t out) out)
    ++ (rider_events t.profile.credit_log (state_dealt t (seen job) out s).ids (rider_of job.action)
    ++ ups (unnamed s.hand s.places)))))

-- where that is the stock of the hand
abbrev pub committed : Tables → Job → Outcome → List Event
committed t job out = committed_from t job out (own_stock t (seen job) out)

-- a stock that may be dealt in place of that of the hand, with the right credits
abbrev pub IsStock : Tables → Job → Outcome → Stock → Type 0
IsStock t job out s = MayDeal HasRightCredit (own_stock t job out) s

-- what it makes is well formed, and so is what it leaves, and they are few; all that it writes, at k, is few, and light
pub record IsLimited (k : ℕ) (wrote : List Event) (p : Prepared) : Type 0 where
  pub fit : AllByRecursion IsBirth p.births.items
  pub due_fit : AllByRecursion IsFitDue p.plan.due.items
  pub ups_fit : AllByRecursion HasCredit p.plan.ups.items
  pub births : length p.births.items ≤ 32
  pub cuts : length (splits_from 0 p.stock.hand p.stock.places) ≤ 193
  pub due : length p.plan.due.items ≤ 177
  pub ups : length p.plan.ups.items ≤ 194
  pub entries : length wrote ≤ 598
  pub light : total_weight (at_all k wrote) ≤ 2380416

-- before the first change: what is made, a stock in place of one, what is left where it is dealt, and what is written then, at k
pub record IsReadyToWrite (k : ℕ) (made : List Birth) (own : Stock) (left : Stock → Remains) (wrote : Stock → List Event) (p : Prepared) : Type 0 where
  pub births : p.births.items ≡ made
  pub stock : MayDeal HasRightCredit own p.stock
  pub state_left : p.plan.state ≡ (left p.stock).state
  pub due_left : p.plan.due.items ≡ (left p.stock).due
  pub ups_left : p.plan.ups.items ≡ (left p.stock).loose
  pub limits : IsLimited k (wrote p.stock) p

-- so is a commit
abbrev pub IsPrepared : Tables → Job → Outcome → Prepared → Type 0
IsPrepared t job out p = IsReadyToWrite t.here (map birth_of out.makes) (own_stock t (seen job) out) (remains t (seen job) out) (committed_from t job out) p

-- ---- where a commit leads

-- its object, which is x, with the new state
abbrev pub new_standing : Tables → Job → Outcome → Stock → Standing → Standing
new_standing t job out s x = record { object = x.object; state = state_dealt t (seen job) out s }

-- what it makes stands here and lives, its object, x at j, has the new state, and an answer of the session counts as had
abbrev pub with_settled : Job → Outcome → Stock → ℕ → Standing → Tables → Tables
with_settled job out s j x t = record t {
  births = t.births + length out.makes;
  records = t.records ++ records_of t.here t.births t.profile.credit_log (map birth_of out.makes);
  objects = set (t.objects ++ objects_of t.here t.births (map birth_of out.makes)) j (new_standing t job out s x);
  answered = t.answered + answered_by (Some job.action);
}

-- and what is due is on its way; then the rider is merged into that state or given up, and what nobody names is given up
abbrev pub committed_to : Job → Outcome → Stock → ℕ → Standing → Tables → Tables
committed_to job out s j x t = with_done j (new_standing t job out s x) (due_dealt t (seen job) out s) (rider_of job.action) (unnamed s.hand s.places)
    (with_settled job out s j x t)

-- the same, where the first of what nobody names tells the homes of these objects
abbrev pub committed_told : List Id → Job → Outcome → Stock → ℕ → Standing → Tables → Tables
committed_told told job out s j x t = with_done_told told j (new_standing t job out s x) (due_dealt t (seen job) out s) (rider_of job.action) (unnamed s.hand s.places)
    (with_settled job out s j x t)

-- a job commits with this stock, where its action runs and waits no more; its object stands at j. Nothing else changes
pub record Commits (job : Job) (out : Outcome) (s : Stock) (j : ℕ) (t t' : Tables) : Type 0 where
  pub standing : Standing
  pub stands : slice_get t.objects j ≡ Some standing
  pub found : find (is_standing (target_of job.action)) t.objects ≡ Some standing
  pub goes : t' ≡ committed_to job out s j standing t

-- it is that of this name with which this object came
abbrev pub is_arrival : Name → Id → Arrival → Bool
is_arrival name o a = ((a.name.origin == name.origin) && (a.name.serial == name.serial)) && (not (is_some a.object.log) && same_object a.object o)

-- an action is a MOVE, and the first of these ids is of its object
abbrev pub tells : Act → List Id → Bool
tells act [] = false
tells act (id ∷ ids) = (act.code == 1) && same_object (target_of act) id

-- a MOVE with which its object came, and whose first id that nobody names is of that, is known no more: the home of its object is told
abbrev pub Notes : Act → List Id → List Arrival → List Arrival → Option Id → Type 0
Notes act loose came came' None = (came' ≡ came) × (tells act loose ≡ true → (i : ℕ) → slice_get came i ≡ Some (arrival_of act) → ⊥)
Notes act loose came came' (Some o) =
    (o ≡ bare (target_of act)) × (tells act loose ≡ true) × ((i : ℕ) × (slice_get came i ≡ Some (arrival_of act)) × (came' ≡ remove came i))

-- the job, whose action runs at i, is no longer among those that run: it commits with the stock of its hand; where its action is the MOVE
-- with which its object came, the home of that is told
pub record Ends (t t' : Tables) (job : Job) (out : Outcome) : Type 0 where
  pub i : ℕ
  pub j : ℕ
  pub at : IsAt t i j job
  pub running : t'.running ≡ remove t.running i
  pub told : Option Id
  pub notes : Notes job.action (unnamed (hand_of t (seen job) out) (places_in_hand t (seen job) out)) t.came t'.came told
  pub goes : t' ≡ committed_told (option_to_list told) job out (own_stock t (seen job) out) j at.standing (record t { running = remove t.running i; came = t'.came })
