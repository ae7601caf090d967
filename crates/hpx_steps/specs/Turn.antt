-- A locality in the middle of a turn, and what is seen of it.
use Rattle.std.specs.Prelude.{List, [], ◌∷◌, ◌++◌, map, flat_map, length, Option, Some, None}
use Rattle.hpx_value.specs.Ids.{bare}
use Rattle.hpx_value.specs.Values.{bare_act, bare_state, bare_message}
use Rattle.hpx_value.specs.declared.outcome.Due.{Due}
use Rattle.hpx_value.specs.declared.outcome.Due.TheVariants.{Message as MessageDue, Print as PrintDue}
use Rattle.hpx_parcel.specs.Credits.{credits_of}
use Rattle.hpx_journal.specs.Data.{Id, Act, Parcel, Free}
use Rattle.hpx_journal.specs.Tokens.{held}
use Rattle.hpx_journal.specs.Frames.{acts_in, travels_in, tokens_in, asks_in}
use Rattle.hpx_journal.specs.Names.{due_ids}
use Rattle.hpx_part.specs.Data.{Event, Standing, Travel, Token, Recorded}
use Rattle.hpx_part.specs.View.{View}
use Rattle.hpx_agas.specs.declared.record.Record.{Record}
use Rattle.hpx_tables.specs.Pending.{Waits, asking_of, fired_of, ids_kept, refusals_of}
use Rattle.hpx_tables.specs.Tables.{Tables, messages}

-- what a locality keeps, and what has no place there while a turn goes on
pub record Turn : Type 0 where
  pub tables : Tables
  pub came : List Parcel  -- a message that came in a frame and is not dealt with
  pub mailed : List Parcel  -- one that came from the own desk
  pub working : List Waits  -- commits that are in work: those of actions that end now, or are about to wait
  pub fresh : List Id  -- objects that were made since the last Done
  pub due : List Due  -- what the last Done leaves due
  pub loose : List Id  -- ids that are named nowhere
  pub untold : List Id  -- objects that came with a MOVE that is done, of which their homes are not told yet
  pub landed : Option Id  -- an object that has landed by its record now, while what waits for it is released
  pub last : Option Event  -- the last entry, where it is known

-- between turns
abbrev pub at_rest : Tables → Turn
at_rest t = record { tables = t; came = []; mailed = []; working = []; fresh = []; due = []; loose = []; untold = []; landed = None; last = None }

-- the same while what waits for an object that landed is released, if one did
abbrev pub in_release : Option Id → Tables → Turn
in_release landed t = record (at_rest t) { landed = landed }

-- the commits, in work or waiting
abbrev pub commits : Turn → List Waits
commits s = s.working ++ s.tables.pending

-- the messages that are kept, in hand or not; and all that are here
abbrev pub own_parcels : Turn → List Parcel
own_parcels s = s.mailed ++ messages s.tables

abbrev pub parcels : Turn → List Parcel
parcels s = s.came ++ own_parcels s

-- ---- what is seen

-- ids are seen without credits
abbrev pub bare_standing : Standing → Standing
bare_standing x = record { object = bare x.object; state = bare_state x.state }

abbrev pub bare_due : Due → Due
bare_due (MessageDue m) = MessageDue (bare_message m)
bare_due (PrintDue bytes) = PrintDue bytes

-- the tokens of these ids, which are held
abbrev pub tokens_of : List Id → List Token
tokens_of ids = map held (credits_of ids)

-- the tokens, the actions, the object on its way and the objects of asks in a message, and the object that it says is to be freed
abbrev pub parcel_tokens : Parcel → List Token
parcel_tokens p = tokens_in (Some p)

abbrev pub parcel_acts : Parcel → List Act
parcel_acts p = acts_in (Some p)

abbrev pub parcel_travels : Parcel → List Travel
parcel_travels p = travels_in (Some p)

abbrev pub parcel_asks : Parcel → List Id
parcel_asks p = asks_in (Some p)

abbrev pub parcel_frees : Parcel → List Id
parcel_frees (Free o) = o ∷ []
parcel_frees _ = []

-- the ids that are named, or loose
abbrev pub ids_here : Turn → List Id
ids_here s =
    flat_map (λ x. x.state.ids) s.tables.objects
    ++ (flat_map (λ act. act.ids) s.tables.accepted
    ++ (flat_map (λ act. act.ids) s.tables.running
    ++ (flat_map ids_kept (commits s) ++ (flat_map due_ids s.due ++ s.loose))))

-- the tokens of what is kept, due or loose, and of messages
abbrev pub tokens : Turn → List Token
tokens s = tokens_of (ids_here s) ++ flat_map parcel_tokens (parcels s)

-- the actions that wait: accepted, or in messages
abbrev pub waiting : Turn → List Act
waiting s = map bare_act s.tables.accepted ++ flat_map parcel_acts (parcels s)

-- the count in a record
abbrev pub counted : Record → Recorded
counted x = record { object = x.gid; count = x.count }

-- what is seen of a locality in the middle of a turn
abbrev pub view : Turn → View
view s = record {
  here = s.tables.here;
  serial = s.tables.serial;
  number = s.tables.births;
  waiting = waiting s;
  fired = map bare_act (fired_of s.tables.running (commits s));
  objects = map bare_standing s.tables.objects;
  travels = flat_map parcel_travels (parcels s);
  fresh = s.fresh;
  due = map bare_due s.due;
  tokens = tokens s;
  asking = asking_of (commits s);
  asks = flat_map parcel_asks (parcels s);
  live = map counted s.tables.records;
  dead = flat_map parcel_frees (own_parcels s);
  refusals = refusals_of (commits s);
  failing = length (refusals_of (commits s));
  last = s.last;
}
