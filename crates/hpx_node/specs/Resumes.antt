-- A commit that waited and goes on, once all that it asked for has come.
use Rattle.std.specs.Prelude.{Bool, List, None, Option, Some, false, length, not, take, true, ℕ, ◌&&◌, ◌==◌, ◌≡◌, ◌≤◌}
use Rattle.std.specs.List.{find, remove, slice_get}
use Rattle.hpx_node.specs.Names.{Act, AreDrawn, Event, Give, Gives, Id, IsFitJob, IsKept, Job, Outcome, Parcel, Prepared, Standing, State, Stock, Tables, Waits, awaits, bare_state, hand_with, ids_named, is_standing, log_of, plain, replaced_from, target_of, waits_for_one}
use Rattle.hpx_value.specs.Laws.{KeepsLaws}
use Rattle.hpx_node.specs.declared.node.resume.Ready.{Ready}
use Rattle.hpx_node.specs.Commits.{made_of, committed_from, IsPrepared, Commits}

-- ---- a commit for which all has come

-- what it deals with these ids in its hand: what it makes has its credit
abbrev pub stock_with : Tables → Waits → List Id → Stock
stock_with t w hand = replaced_from (length (ids_named w)) (made_of t w.outcome) (record { hand = hand; places = w.places })

-- what it deals
abbrev pub full_stock : Tables → Waits → Stock
full_stock t w = stock_with t w w.hand

-- the object of a job stands at j among these, as the job found it, but without credits; the job is of locality k of m
pub record IsKeptFor (k m : ℕ) (objects : List Standing) (of : Job) (n j : ℕ) : Type 0 where
  pub job : IsFitJob of
  pub here : of.at ≡ k
  pub localities : n ≡ m
  pub few : m ≤ 64
  pub standing : Standing
  pub stands : slice_get objects j ≡ Some standing
  pub found : find (is_standing (target_of of.action)) objects ≡ Some standing
  pub kept : IsKept standing
  pub kind : standing.object.kind ≡ of.kind
  pub state : standing.state ≡ bare_state of.state

-- so does that of a commit
abbrev pub IsInPlace : Tables → Waits → ℕ → Type 0
IsInPlace t w j = IsKeptFor t.here t.localities t.objects w.job w.localities j

-- it is prepared to go on
pub record MayResume (t : Tables) (w : Waits) (j : ℕ) (p : Prepared) : Type 0 where
  pub drawn : AreDrawn t
  pub place : IsInPlace t w j
  pub kept : IsKept (record { object = place.standing.object; state = p.plan.state })
  pub prepared : IsPrepared t w.job w.outcome p
  pub stock : p.stock ≡ full_stock t w

-- the commit at i goes on: these events are written, and it waits no more; its object stands at j
pub record GoesOn (i : ℕ) (w : Waits) (t t' : Tables) (events : List Event) : Type 0 where
  pub j : ℕ
  pub what : events ≡ committed_from t w.job w.outcome (full_stock t w)
  pub pending : t'.pending ≡ remove t.pending i
  pub running : t'.running ≡ t.running
  pub commits : Commits w.job w.outcome (full_stock t w) j (record t { pending = remove t.pending i }) t'

-- ---- a message that brings the last credit

-- an id is the last that a commit waits for, and none was refused
abbrev pub is_last : Id → Option Waits → Bool
is_last id None = false
is_last id (Some w) = not (log_of id.log == 0) && waits_for_one w

-- a message brings a commit the last credit
abbrev pub completes : Tables → Parcel → Bool
completes t (Give id entry) = is_last id (find (awaits id entry) t.pending)
completes t _ = false

-- a commit that goes on once this is given is prepared; its outcome is what its action says
pub record IsReady (act_of : ℕ → ℕ → ℕ → State → Act → Outcome) (t : Tables) (id : Id) (entry : ℕ) (y : Ready) : Type 0 where
  pub before : Waits
  pub there : slice_get t.pending y.i ≡ Some before
  pub first : find (awaits id entry) (take y.i t.pending) ≡ None
  pub for : awaits id entry before ≡ true
  pub last : is_last id (Some before) ≡ true
  pub drawn : AreDrawn t
  pub place : IsInPlace t before y.j
  pub laws : KeepsLaws t.localities before.job.kind before.job.at before.job.state (plain before.job.action) before.outcome
  pub right : before.outcome ≡ act_of t.localities before.job.kind before.job.at before.job.state (plain before.job.action)
  pub kept : IsKept (record { object = place.standing.object; state = y.prepared.plan.state })
  pub prepared : IsPrepared t before.job before.outcome y.prepared
  pub stock : y.prepared.stock ≡ stock_with t before (hand_with id entry before)

-- by the message
abbrev pub IsReadyFor : (ℕ → ℕ → ℕ → State → Act → Outcome) → Tables → Parcel → Ready → Type 0
IsReadyFor act_of t (Give id entry) y = IsReady act_of t id entry y
IsReadyFor act_of t _ y = ⊥

-- ---- a message is dealt with, and a commit may go on with it

-- the commit that gets the last credit goes on
pub record GoesWithLast (id : Id) (entry : ℕ) (t mid t' : Tables) (more : List Event) : Type 0 where
  pub gives : Gives id entry t mid
  pub goes : GoesOn gives.i gives.after mid t' more

-- so it is with a Give, and with no other message
abbrev pub GoesWith : Parcel → Tables → Tables → Tables → List Event → Type 0
GoesWith (Give id entry) t mid t' more = GoesWithLast id entry t mid t' more
GoesWith _ t mid t' more = ⊥
