-- Why a member ends.
use Rattle.std.specs.Prelude.{ℕ, true, List, Option, Some, None, Result, Ok, Err, [], ◌∷◌, ◌≡◌, ◌≤◌, ◌⊎◌}
use Rattle.hpx_journal.specs.Entries.{Frame}
use Rattle.hpx_journal.specs.Weights.{HasRoom}
use Rattle.hpx_part.specs.Data.{Entry}
use Rattle.hpx_tables.specs.Tables.{IsPassive, Tables}
use Rattle.hpx_node.specs.Handled.{NotTaken, NotTended}
use Rattle.hpx_node.specs.declared.parts.TakeFault.{TakeFault}
use Rattle.hpx_node.specs.declared.parts.DeskFault.{DeskFault}
use Rattle.hpx_node.specs.declared.parts.TakeFault.TheVariants as take_faults
use Rattle.hpx_node.specs.declared.parts.DeskFault.TheVariants as desk_faults
use Rattle.hpx_ports.specs.Faults.{Rose}
use Rattle.hpx_ports.specs.declared.link.Latest.{Latest}
use Rattle.hpx_ports.specs.declared.link.Latest.TheVariants.{Got}
use Rattle.hpx_ports.specs.declared.link.LinkFault.{LinkFault}
use Rattle.hpx_ports.specs.declared.link.LinkFault.TheVariants as link_faults
use Rattle.hpx_ports.specs.declared.link.Post.{Post}
use Rattle.hpx_member.specs.Bodies.{IsOutOfPlace, counts_of, is_frame}
use Rattle.hpx_member.specs.declared.bodies.Told.{Told}
use Rattle.hpx_member.specs.Seats.{Meaning, Sits}
use Rattle.hpx_member.specs.declared.stop.MemberFault.{MemberFault}
use Rattle.hpx_member.specs.declared.stop.MemberFault.TheVariants.{BadFrame, Strange, OutOfPlace, Waves}
use Rattle.hpx_member.specs.declared.stop.Stop.{Stop}
use Rattle.hpx_member.specs.declared.stop.Stop.TheVariants.{Link, JournalFull, OutOfMemory, Fault}

-- ---- statuses

-- the status of what came and was not accepted: 7 for what spells no parcel, 8 for the rest
abbrev pub status_of_fault : MemberFault → ℕ
status_of_fault (BadFrame from at why) = 7
status_of_fault (Strange from rule object kept) = 8
status_of_fault (OutOfPlace from) = 8
status_of_fault Waves = 8

-- the status of an early end
abbrev pub status_of : Stop → ℕ
status_of Link = 4
status_of JournalFull = 5
status_of OutOfMemory = 6
status_of (Fault fault) = status_of_fault fault

-- what came that was not accepted
abbrev pub fault_of : Stop → Option MemberFault
fault_of (Fault fault) = Some fault
fault_of _ = None

-- the status of an end: 0 where it was told to
abbrev pub end_status : Result (Unit {0}) Stop → ℕ
end_status (Ok x) = 0
end_status (Err stop) = status_of stop

-- the statuses of a worker: 0, or 4 to 8
abbrev pub IsWorkersStatus : ℕ → Type 0
IsWorkersStatus status = (status ≡ 0) ⊎ ((4 ≤ status) × (status ≤ 8))

abbrev pub end_fault : Result (Unit {0}) Stop → Option MemberFault
end_fault (Ok x) = None
end_fault (Err stop) = fault_of stop

-- ---- causes

-- the last word is an answer to the last wave that has a number
pub record IsLastCounts (latest : Latest) : Type 0 where
  pub from : ℕ
  pub body : List ℕ
  pub told : Told
  pub got : latest ≡ Got from body
  pub counts : counts_of body ≡ Some told
  pub wave : told.wave ≡ 4294967294

-- what these tables refuse of the body that came last, or of a message of the node to itself; a word that is odd by this; or at the console the answer
-- behind which no wave is left
abbrev pub IsFaultBy : (ℕ → List ℕ → Type 0) → Tables → Latest → MemberFault → Type 0
IsFaultBy Odd t latest (BadFrame from at why) = (bytes : List ℕ) × (latest ≡ Got from bytes) × NotTaken t bytes (take_faults.BadFrame at why)
IsFaultBy Odd t latest (Strange from rule object kept) =
    ((bytes : List ℕ) × (latest ≡ Got from bytes) × NotTaken t bytes (take_faults.Strange rule object kept))
    ⊎ ((from ≡ t.here) × NotTended t (desk_faults.Strange rule object kept))
IsFaultBy Odd t latest (OutOfPlace from) = (bytes : List ℕ) × (latest ≡ Got from bytes) × Odd from bytes
IsFaultBy Odd t latest Waves = (t.here ≡ 0) × IsLastCounts latest

-- the same of a worker: a word is odd that no worker is told
abbrev pub IsFault : Tables → Latest → MemberFault → Type 0
IsFault t latest fault = IsFaultBy IsOutOfPlace t latest fault

-- a frame came last
pub record IsFrameLast (latest : Latest) : Type 0 where
  pub from : ℕ
  pub frame : List ℕ
  pub got : latest ≡ Got from frame
  pub framed : is_frame frame ≡ true

-- a turn is due: something is under way at the node, or a frame came that is to be accepted
abbrev pub IsTurnDue : Tables → Latest → Type 0
IsTurnDue t latest = (IsPassive t → ⊥) ⊎ IsFrameLast latest

-- why a node stops by itself: there is no room for what is under way, or its first message to itself is strange
abbrev pub MayStop : Tables → List Entry → Stop → Type 0
MayStop t es Link = ⊥
MayStop t es JournalFull = (HasRoom es → ⊥) × (IsPassive t → ⊥)
MayStop t es OutOfMemory = Unit {0}
MayStop t es (Fault (BadFrame from at why)) = ⊥
MayStop t es (Fault (Strange from rule object kept)) = (from ≡ t.here) × NotTended t (desk_faults.Strange rule object kept)
MayStop t es (Fault (OutOfPlace from)) = ⊥
MayStop t es (Fault Waves) = ⊥

-- why a member stops, with the body that came last, and the count of the link's faults before and after: it rises at a fault of the link alone. There
-- is no room only where a turn is due, of the node or another.
abbrev pub IsCauseBy : (ℕ → List ℕ → Type 0) → Type 0 → Tables → List Entry → Latest → ℕ → ℕ → Stop → Type 0
IsCauseBy Odd Other t es latest before after Link = Rose before after
IsCauseBy Odd Other t es latest before after JournalFull = (HasRoom es → ⊥) × (after ≡ before) × (IsTurnDue t latest ⊎ Other)
IsCauseBy Odd Other t es latest before after OutOfMemory = after ≡ before
IsCauseBy Odd Other t es latest before after (Fault fault) = IsFaultBy Odd t latest fault × (after ≡ before)

abbrev pub IsCause : Tables → List Entry → Latest → ℕ → ℕ → Stop → Type 0
IsCause t es latest before after stop = IsCauseBy IsOutOfPlace ⊥ t es latest before after stop

-- a stop for another cause than a word out of place, or that no wave is left
abbrev pub IsOther : Stop → Type 0
IsOther Link = Unit {0}
IsOther JournalFull = Unit {0}
IsOther OutOfMemory = Unit {0}
IsOther (Fault (BadFrame from at why)) = Unit {0}
IsOther (Fault (Strange from rule object kept)) = Unit {0}
IsOther (Fault (OutOfPlace from)) = ⊥
IsOther (Fault Waves) = ⊥

-- what a fault of the link stops
abbrev pub stop_of_link : LinkFault → Stop
stop_of_link link_faults.Failed = Link
stop_of_link link_faults.OutOfMemory = OutOfMemory

-- what a refusal of a frame that came from there stops
abbrev pub stop_of_take : ℕ → TakeFault → Stop
stop_of_take from (take_faults.BadFrame at why) = Fault (BadFrame from at why)
stop_of_take from (take_faults.Strange rule object kept) = Fault (Strange from rule object kept)
stop_of_take from take_faults.OutOfMemory = OutOfMemory

-- what a refusal of a message of a node to itself stops
abbrev pub stop_of_desk : ℕ → DeskFault → Stop
stop_of_desk here (desk_faults.Strange rule object kept) = Fault (Strange here rule object kept)
stop_of_desk here desk_faults.OutOfMemory = OutOfMemory

-- ---- what is left

-- a frame may have come that was not accepted where room or memory was wanted, or what came was refused
abbrev pub MayLeave : Stop → Type 0
MayLeave Link = ⊥
MayLeave JournalFull = Unit {0}
MayLeave OutOfMemory = Unit {0}
MayLeave (Fault fault) = Unit {0}

-- a member that stops agrees with its link, with at most one such frame
abbrev pub SitsLeft : Meaning → Stop → Tables → List Entry → Option (List Post) → Type 0
SitsLeft act_of stop t es trace = Sits act_of t es [] trace ⊎ (MayLeave stop × ((frame : Frame) × Sits act_of t es (frame ∷ []) trace))
