-- What a turn does at its locality, and what it writes.
use Rattle.std.specs.Prelude.{ℕ, List, [], ◌∷◌, ◌≡◌, ◌≢◌, ◌≤◌, ◌+◌, ◌⊎◌, Some, None, Option, length, sum_by}
use Rattle.std.specs.List.{slice_get}
use Rattle.hpx_value.specs.declared.acts.Job.{Job}
use Rattle.hpx_parcel.specs.Reading.{parcel_of, IsRefused}
use Rattle.hpx_parcel.specs.declared.parcel.Why.{Why}
use Rattle.hpx_journal.specs.Data.{Id, Outcome, Parcel}
use Rattle.hpx_journal.specs.Entries.{Frame, name_of, line_act}
use Rattle.hpx_part.specs.Data.{Name, Entry, Line, Fire, Out}
use Rattle.hpx_commit.specs.Deals.{AllLast}
use Rattle.hpx_node.specs.Asks.{Begins}
use Rattle.hpx_node.specs.Changes.{Writes}
use Rattle.hpx_node.specs.Commits.{seen, committed, hand_of, places_in_hand, Ends}
use Rattle.hpx_tables.specs.Jobs.{IsRunning, Starts}
use Rattle.hpx_steps.specs.Ways.{with_act}
use Rattle.hpx_node.specs.Handled.{Takes, Tends, HasNothingToTend, NotTaken, NotTended}
use Rattle.hpx_tables.specs.Strange.{object_of}
use Rattle.hpx_tables.specs.Tables.{Tables}
use Rattle.hpx_tables.specs.declared.kept.Outgoing.{Outgoing}
use Rattle.hpx_node.specs.declared.parts.Finished.TheVariants.{Committed, Asking, NotRunning}
use Rattle.hpx_node.specs.declared.parts.DeskFault.TheVariants as desk_faults
use Rattle.hpx_node.specs.declared.parts.TakeFault.{TakeFault}
use Rattle.hpx_node.specs.declared.parts.TakeFault.TheVariants as take_faults
use Rattle.hpx_world.specs.declared.turns.Turned.{Turned}
use Rattle.hpx_world.specs.declared.turns.Turned.TheVariants as turned
use Rattle.hpx_world.specs.Sound.{DoneAt, IsSame}
use Rattle.hpx_world.specs.Quiet.{IsStuck, SendsNothing}

-- the name that is drawn next
abbrev pub next_name : Tables → Name
next_name t = record { origin = t.here; serial = t.serial + 1 }

-- a line is accepted, as an action on the session
pub record Feeds (line : List ℕ) (entries entries' : List Entry) (t t' : Tables) : Type 0 where
  pub writes : Writes (Line (next_name t) line ∷ []) t t' entries entries'
  pub waits : t' ≡ with_act (line_act (next_name t) line) (record t { serial = t.serial + 1 })

-- the first accepted action that is free is fired
pub record Fires (job : Job) (entries entries' : List Entry) (t t' : Tables) : Type 0 where
  pub starts : Starts t t' job
  pub writes : Writes (Fire (name_of job.action) ∷ []) t t' entries entries'

-- a job that runs is committed: each id of its hand lasts for all who name it
pub record Commits (job : Job) (out : Outcome) (entries entries' : List Entry) (t t' : Tables) : Type 0 where
  pub runs : IsRunning t job
  pub lasts : AllLast (hand_of t (seen job) out) (places_in_hand t (seen job) out)
  pub writes : Writes (committed t job out) t t' entries entries'
  pub ends : Ends t t' job out

-- a job that runs begins to wait: some id of its hand does not last, and is asked for
pub record Asks (job : Job) (out : Outcome) (entries entries' : List Entry) (t t' : Tables) : Type 0 where
  pub runs : IsRunning t job
  pub short : AllLast (hand_of t (seen job) out) (places_in_hand t (seen job) out) → ⊥
  pub begins : Begins t t' job out entries entries'

-- the message that has waited longest on its way to another locality goes there in this frame, which spells it
pub record Sends (frame : Frame) (entries entries' : List Entry) (t t' : Tables) : Type 0 where
  pub first : Outgoing
  pub rest : List Outgoing
  pub is : t.outgoing ≡ first ∷ rest
  pub place : frame.0 ≡ first.to
  pub spelled : parcel_of frame.1 ≡ Some first.parcel
  pub writes : Writes (Out frame.0 frame.1 ∷ []) t t' entries entries'
  pub leaves : t' ≡ record t { outgoing = rest; sent = t.sent + 1 }

-- ---- turns, by what they answer

-- a Feed
abbrev pub DidFeed : List ℕ → Turned → List Tables → List Tables → List Entry → List Entry → Type 0
DidFeed line turned.Fed nodes nodes' es es' = DoneAt 0 (Feeds line es es') nodes nodes'
DidFeed line _ nodes nodes' es es' = ⊥

-- a Fire at k: a job is handed out, or no accepted action there may be fired
abbrev pub DidFire : ℕ → Turned → List Tables → List Tables → List Entry → List Entry → Type 0
DidFire k (turned.Fired job) nodes nodes' es es' = DoneAt k (Fires job es es') nodes nodes'
DidFire k turned.Idle nodes nodes' es es' = IsSame nodes nodes' es es' × ((t : Tables) → slice_get nodes k ≡ Some t → IsStuck t)
DidFire k _ nodes nodes' es es' = ⊥

-- a Finish of a job that was run at n localities: it is committed, or waits for credit, or is none that runs here
abbrev pub DidFinish : ℕ → Job → Outcome → Turned → List Tables → List Tables → List Entry → List Entry → Type 0
DidFinish n job out (turned.Finished Committed) nodes nodes' es es' = (n ≡ length nodes) × DoneAt job.at (Commits job out es es') nodes nodes'
DidFinish n job out (turned.Finished Asking) nodes nodes' es es' = (n ≡ length nodes) × DoneAt job.at (Asks job out es es') nodes nodes'
DidFinish n job out (turned.Finished NotRunning) nodes nodes' es es' =
    IsSame nodes nodes' es es' × ((t : Tables) → n ≡ length nodes → slice_get nodes job.at ≡ Some t → IsRunning t job → ⊥)
DidFinish n job out _ nodes nodes' es es' = ⊥

-- a job is out at its locality
abbrev pub HasJob : List Tables → ℕ → Job → Type 0
HasJob nodes n job = (n ≡ length nodes) × ((t : Tables) × (slice_get nodes job.at ≡ Some t) × IsRunning t job)

-- a Desk at k: an object leaves from there that is to leave, or else the oldest message to its own locality is dealt with; or there is none
abbrev pub DidDesk : ℕ → Turned → List Tables → List Tables → List Entry → List Entry → Type 0
DidDesk k turned.Moved nodes nodes' es es' = DoneAt k (λ t t'. Tends t t' es es') nodes nodes'
DidDesk k turned.Empty nodes nodes' es es' = IsSame nodes nodes' es es' × ((t : Tables) → slice_get nodes k ≡ Some t → HasNothingToTend t)
DidDesk k _ nodes nodes' es es' = ⊥

-- a Pump of k: its oldest message to another locality is sent in a frame that the fabric takes, or there is none
abbrev pub DidPump : (Option Frame → Type 0) → ℕ → Turned → List Tables → List Tables → List Entry → List Entry → Type 0
DidPump Put k turned.Moved nodes nodes' es es' =
    (frame : Frame) × Put (Some frame) × DoneAt k (Sends frame es es') nodes nodes'
DidPump Put k turned.Empty nodes nodes' es es' =
    Put None × IsSame nodes nodes' es es' × ((t : Tables) → slice_get nodes k ≡ Some t → SendsNothing t)
DidPump Put k _ nodes nodes' es es' = ⊥

-- a Take: the frame in hand, or one that is delivered, is accepted where it goes, or there is none while as many were taken as sent
abbrev pub DidTake : (Option Frame → Type 0) → Turned → List Tables → List Tables → List Entry → List Entry → Type 0
DidTake Got turned.Moved nodes nodes' es es' =
    (frame : Frame) × Got (Some frame) × DoneAt frame.0 (λ t t'. Takes frame.1 t t' es es') nodes nodes'
DidTake Got turned.Empty nodes nodes' es es' =
    Got None × (sum_by (λ t. t.taken) nodes ≡ sum_by (λ t. t.sent) nodes) × IsSame nodes nodes' es es'
DidTake Got _ nodes nodes' es es' = ⊥

-- ---- refusals

-- a frame spells no parcel
abbrev pub IsBadFrame : List ℕ → ℕ → Why → Type 0
IsBadFrame bytes at why = IsRefused bytes (record { at = at; why = why })

-- the parcel of a frame breaks a rule at its locality, or goes to none of n: that is rule 9
abbrev pub IsStrangeFrame : List Tables → ℕ → List ℕ → ℕ → Id → ℕ → Type 0
IsStrangeFrame nodes to bytes rule object kept =
    ((t : Tables) × (slice_get nodes to ≡ Some t) × NotTaken t bytes (take_faults.Strange rule object kept))
    ⊎ ((length nodes ≤ to) × ((p : Parcel) × (parcel_of bytes ≡ Some p) × (object ≡ object_of p)) × (rule ≡ 9) × (kept ≡ length nodes))

-- the frame in hand goes to this locality, and spells no parcel
abbrev pub HoldsBadFrame : Option Frame → ℕ → ℕ → Why → Type 0
HoldsBadFrame hand to at why = (bytes : List ℕ) × (hand ≡ Some (to, bytes)) × IsBadFrame bytes at why

-- the frame in hand goes to this locality, and breaks a rule
abbrev pub HoldsStrangeFrame : List Tables → Option Frame → ℕ → ℕ → Id → ℕ → Type 0
HoldsStrangeFrame nodes hand to rule object kept = (bytes : List ℕ) × (hand ≡ Some (to, bytes)) × IsStrangeFrame nodes to bytes rule object kept

-- a frame spells a parcel that breaks no rule where it goes
abbrev pub IsRightFrame : List Tables → Frame → Type 0
IsRightFrame nodes frame = (t : Tables) × (slice_get nodes frame.0 ≡ Some t) × NotTaken t frame.1 take_faults.OutOfMemory

-- the frame in hand does; where there is none, one may be in flight
abbrev pub HoldsRightFrame : List Tables → Option Frame → Option (List Frame) → Type 0
HoldsRightFrame nodes None flight = flight ≢ Some []
HoldsRightFrame nodes (Some frame) flight = IsRightFrame nodes frame

-- the oldest message to the own locality of k breaks a rule
abbrev pub IsStrangeMail : List Tables → ℕ → ℕ → Id → ℕ → Type 0
IsStrangeMail nodes k rule object kept =
    (t : Tables) × (slice_get nodes k ≡ Some t) × NotTended t (desk_faults.Strange rule object kept)

-- an object may leave from k, or the oldest message to its own locality breaks none
abbrev pub HasToTend : List Tables → ℕ → Type 0
HasToTend nodes k = (t : Tables) × (slice_get nodes k ≡ Some t) × NotTended t desk_faults.OutOfMemory

-- an action may be fired at k
abbrev pub HasToFire : List Tables → ℕ → Type 0
HasToFire nodes k = (t : Tables) × (slice_get nodes k ≡ Some t) × (IsStuck t → ⊥)

-- a message to another locality waits at k
abbrev pub HasToSend : List Tables → ℕ → Type 0
HasToSend nodes k = (t : Tables) × (slice_get nodes k ≡ Some t) × (SendsNothing t → ⊥)

-- why a frame to none of n localities is refused: it spells no parcel, or rule 9
abbrev pub IsFarFault : ℕ → List ℕ → TakeFault → Type 0
IsFarFault n bytes (take_faults.BadFrame at why) = IsBadFrame bytes at why
IsFarFault n bytes (take_faults.Strange rule object kept) =
    ((p : Parcel) × (parcel_of bytes ≡ Some p) × (object ≡ object_of p)) × (rule ≡ 9) × (kept ≡ n)
IsFarFault n bytes take_faults.OutOfMemory = ⊥
