-- Entries, and what a journal is judged by.
use Rattle.std.specs.Prelude.{ℕ, pos, Bool, nat_le, nat_lt, cond, List, [], ◌∷◌, ◌==◌, ◌&&◌, Option, Some, None}
use Rattle.std.specs.Str.{bytes_eq}
use Rattle.hpx_value.specs.Values.{named}
use Rattle.hpx_value.specs.Hands.{session, id_at}
use Rattle.hpx_journal.specs.Data.{Id, Value, Int, Text, State, Act, Message, Outcome, Parcel}
pub use Rattle.hpx_journal.specs.declared.entry.Name.{Name}
pub use Rattle.hpx_journal.specs.declared.entry.Reason.{Reason}
pub use Rattle.hpx_journal.specs.declared.entry.Reason.TheVariants.{Returned, Granted, Refused}
pub use Rattle.hpx_journal.specs.declared.entry.Event.{Event}
pub use Rattle.hpx_journal.specs.declared.entry.Event.TheVariants.{Line, Fire, Split, Born, Done, Sent, Print, Merge, Up, Asked, Given, Count, Freed, Left, Landed, Looked, Mail, Out, In}
pub use Rattle.hpx_journal.specs.declared.entry.Entry.{Entry}
pub use Rattle.hpx_journal.specs.declared.entry.Standing.{Standing}
pub use Rattle.hpx_journal.specs.declared.entry.Travel.{Travel}

-- the number of localities, the log of a new object's credit, the greatest count, what bytes spell, and what actions mean:
-- by kind, locality, state and action
pub record Rules : Type 0 where
  pub localities : ℕ
  pub credit_log : ℕ
  pub credit_limit : ℕ
  pub parcel_of : List ℕ → Option Parcel
  pub outcome_of : ℕ → ℕ → State → Act → Outcome

-- two names of one action
abbrev pub same_name : Name → Name → Bool
same_name a b = (a.origin == b.origin) && (a.serial == b.serial)

-- the name of an action
abbrev pub name_of : Act → Name
name_of act = record { origin = act.origin; serial = act.serial }

-- the object that an action is for
abbrev pub target_of : Act → Id
target_of act = id_at act.ids 0

-- the message that a line is: code 4, LINE, to the session
abbrev pub line_message : List ℕ → Message
line_message bytes = record { code = 4; args = Text bytes ∷ []; cont = None; ids = session ∷ [] }

-- the action that it is
abbrev pub line_act : Name → List ℕ → Act
line_act a bytes = named a.origin a.serial (line_message bytes)

-- the place in the arguments of a MOVE, if they are those of one: one number below 64
abbrev pub place_in : List Value → Option ℕ
place_in (Int (pos t) ∷ []) = cond (nat_lt t 64) (Some t) None
place_in _ = None

-- whether a kind is movable
abbrev pub is_movable : ℕ → Bool
is_movable kind = nat_le 16 kind && nat_le kind 31

-- where a MOVE, code 1, moves its target; any other action moves nothing
abbrev pub move_to : Act → Option ℕ
move_to act = cond ((act.code == 1) && is_movable (target_of act).kind) (place_in act.args) None

-- a frame on the road: where it goes, and its bytes
abbrev pub Frame : Type 0
Frame = ℕ × List ℕ

-- two frames are the same
abbrev pub same_frame : Frame → Frame → Bool
same_frame a b = (a.0 == b.0) && bytes_eq a.1 b.1
