-- The way of an action: it is accepted, waits for an object that moves, goes on, or begins a move.
use Rattle.std.specs.Prelude.{ℕ, not, nat_lt, cond, List, [], ◌∷◌, ◌++◌, ◌==◌, ◌&&◌, ◌||◌, if◌then◌else◌, is_some, Option, Some, None}
use Rattle.hpx_journal.specs.Data.{Id, Act, Parcel, Go}
use Rattle.hpx_journal.specs.Entries.{target_of, move_to}
use Rattle.hpx_agas.specs.Queues.{waits, with_last}
use Rattle.hpx_agas.specs.Records.{remade}
use Rattle.hpx_agas.specs.declared.record.Record.{Record}
use Rattle.hpx_agas.specs.declared.record.Waiting.{Waiting}
use Rattle.hpx_tables.specs.declared.kept.Outgoing.{Outgoing}
use Rattle.hpx_tables.specs.Fit.{parcel_for}
use Rattle.hpx_tables.specs.Kept.{stays_here, record_here}
use Rattle.hpx_tables.specs.Tables.{Tables}
use Rattle.hpx_steps.specs.Mail.{is_other, going}
use Rattle.hpx_steps.specs.Turn.{Turn}

-- what is done with an action: it is accepted; it waits until a move is over; it goes to a locality; or its object, which is at this place,
-- begins to move
pub data Way : Type 0 where
  Accept : Way
  Queue : Way
  To : ℕ → Way
  Begin : ℕ → Way

-- at the home of its object, by the record: where there is none, it goes to the own desk
abbrev pub way_by : ℕ → Option Record → Way
way_by here None = To here
way_by here (Some x) = cond (is_some x.moving) Queue (To x.place)

-- that of an action on an object, a MOVE aside
abbrev pub way_of : Tables → Id → Way
way_of t o =
    if stays_here t o
    then Accept
    else (if nat_lt o.kind 16 || not (o.home == t.here) then To o.home else way_by t.here (record_here t o))

-- that of a MOVE at the home of its object, by the record
abbrev pub move_by : ℕ → ℕ → Option Record → Way
move_by here to None = To here
move_by here to (Some x) = cond (is_some x.moving) Queue (cond (x.place == to) (To to) (Begin x.place))

-- that of a MOVE of an object
abbrev pub move_way : Tables → Id → ℕ → Way
move_way t o to =
    if stays_here t o && (to == t.here) then Accept else (if not (o.home == t.here) then To o.home else move_by t.here to (record_here t o))

-- that of an action on an object that moves it to here, if it moves it
abbrev pub way_to : Tables → Id → Option ℕ → Way
way_to t o None = way_of t o
way_to t o (Some to) = move_way t o to

-- that of any action
abbrev pub way : Tables → Act → Way
way t act = way_to t (target_of act) (move_to act)

-- ---- with one more action

-- what is accepted then
abbrev pub accepts : Way → Act → List Act
accepts Accept act = act ∷ []
accepts _ act = []

-- where a message goes, and which: the action, or the grant of the move that it begins
abbrev pub sends : Way → Act → Option (ℕ × Parcel)
sends (To to) act = Some (to, parcel_for act)
sends (Begin place) act = Some (place, Go act)
sends _ act = None

-- what comes onto the own desk, and what is on its way to others
abbrev pub comes_home : Tables → Option (ℕ × Parcel) → List Parcel
comes_home t None = []
comes_home t (Some m) = cond (is_other t m.0) [] (m.1 ∷ [])

abbrev pub goes_away : Tables → Option (ℕ × Parcel) → List Outgoing
goes_away t None = []
goes_away t (Some m) = cond (is_other t m.0) (going m.0 m.1 ∷ []) []

-- what waits then for objects that move
abbrev pub queues : Way → Act → List (Waiting Parcel) → List (Waiting Parcel)
queues Queue act queued = with_last (waits (target_of act).number (parcel_for act)) queued
queues _ act queued = queued

-- the records then: that of an object that begins to move says where to
abbrev pub begins : Way → Act → List Record → List Record
begins (Begin place) act records = remade (target_of act) (λ r. record r { moving = move_to act }) records
begins _ act records = records

-- with one more action that goes this way
abbrev pub with_way : Way → Act → Tables → Tables
with_way w act t = record t {
  accepted = t.accepted ++ accepts w act;
  desk = t.desk ++ comes_home t (sends w act);
  outgoing = t.outgoing ++ goes_away t (sends w act);
  queued = queues w act t.queued;
  records = begins w act t.records;
}

-- with one more action, which goes its own way
abbrev pub with_act : Act → Tables → Tables
with_act act t = with_way (way t act) act t

-- the same in a turn
abbrev pub posts : Act → Turn → Turn
posts act s = record s { tables = with_act act s.tables }
