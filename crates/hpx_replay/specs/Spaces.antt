-- How the space of a replay shows the space of the definitions.
use Rattle.std.specs.Prelude.{ℕ, Bool, false, List, [], ◌∷◌, ◌≡◌, ◌<◌, length, ◌&&◌, ◌++◌, take, Option, Some, None}
use Rattle.std.specs.List.{find, list_any, slice_get, AllByRecursion}
use Rattle.hpx_value.specs.Ids.{same_object}
use Rattle.hpx_value.specs.declared.profile.Profile.{Profile}
use Rattle.hpx_parcel.specs.Reading.{parcel_of}
use Rattle.hpx_journal.specs.Data.{Act, State, Outcome}
use Rattle.hpx_journal.specs.Entries.{Rules, same_name, target_of}
use Rattle.hpx_journal.specs.declared.entry.Event.{Event}
use Rattle.hpx_journal.specs.declared.entry.Entry.{Entry}
use Rattle.hpx_journal.specs.declared.entry.Event.TheVariants.{Done}
use Rattle.hpx_journal.specs.declared.entry.Standing.{Standing}
use Rattle.hpx_journal.specs.declared.entry.Travel.{Travel}
use Rattle.hpx_journal.specs.Tokens.{same_token}
use Rattle.hpx_journal.specs.Local.{is_act, is_standing, is_travel, outcome, waiting_after, fired_after, done_after, objects_after, travels_after, fresh_after, due_after, serial_after, number_after, counts_after, asked_by, given_by, asks_come_by, asks_gone_by, refusals_by, failures_after, takes}
use Rattle.hpx_journal.specs.declared.local.Local.{Local}
use Rattle.hpx_journal.specs.declared.entry.Refusal.{Refusal}
use Rattle.hpx_journal.specs.Frames.{cargo_of, parcel_in}
use Rattle.hpx_replay.specs.declared.act_rows.Blame.{Blame}
use Rattle.hpx_replay.specs.declared.entries.Reading.{Reading}
use Rattle.hpx_replay.specs.declared.space.Space.{Space as Placed}
use Rattle.hpx_replay.specs.declared.replay.ReplayFault.{ReplayFault}
use Rattle.hpx_replay.specs.declared.replay.ReplayFault.TheVariants.{Illegal, OutOfMemory}
use Rattle.hpx_journal.specs.Bags.{Covers}
use Rattle.hpx_journal.specs.Rows.{TurnAllows, Row, objects_in}
use Rattle.hpx_journal.specs.Whole.{Space, MayStand, IsLegal, replayed}

-- what actions mean: by the number of localities, a kind, a locality, a state and an action
abbrev pub Meaning : Type 0
Meaning = ℕ → ℕ → ℕ → State → Act → Outcome

-- the rules at n localities, by a profile and a meaning of actions
abbrev pub rules_of : ℕ → Profile → Meaning → Rules
rules_of n profile act_of = record {
  localities = n;
  credit_log = profile.credit_log;
  credit_limit = profile.credit_limit;
  parcel_of = parcel_of;
  outcome_of = act_of n;
}

-- what an action does where its object stands, if it does
abbrev pub outcome_at : Rules → Local → Act → Option Standing → Option Outcome
outcome_at r s act None = None
outcome_at r s act (Some x) = Some (outcome r s act x)

-- the same for an action that may be fired
abbrev pub outcome_by : Rules → Local → Option Act → Option Outcome
outcome_by r s None = None
outcome_by r s (Some act) = outcome_at r s act (find (is_standing (target_of act)) s.objects)

-- what a Done that does not fail does, where its action is fired and its object stands
abbrev pub outcome_in : Rules → Local → Event → Option Outcome
outcome_in r s (Done a false) = outcome_by r s (find (is_act a) s.fired)
outcome_in r s _ = None

-- an id of o came back with no more credit since this action was fired, and o is among these
abbrev pub is_blamed : Blame → Refusal → Bool
is_blamed b x = same_name b.action x.action && list_any (same_object x.object) b.ids

-- the one object that is shipped leaves from here to a place
abbrev pub IsLeaving : Local → ℕ → List Travel → Type 0
IsLeaving s to [] = ⊥
IsLeaving s to (x ∷ []) = (x.to ≡ to) × (find (is_travel x.object) s.travels ≡ Some x)
IsLeaving s to (x ∷ y ∷ xs) = ⊥

-- what an entry means where it is written
abbrev pub reading_of : Rules → Local → Event → Reading
reading_of r s e = record { parcel = parcel_in e; cargo = cargo_of (parcel_in e); outcome = outcome_in r s e }

-- what an entry leaves, the tokens and the memory of the last entry aside
abbrev pub besides : Rules → Local → Event → Local
besides r s e = record s {
  waiting = waiting_after r s e;
  fired = fired_after s e;
  done = done_after s e;
  objects = objects_after r s e;
  travels = travels_after r s e;
  fresh = fresh_after s e;
  due = due_after r s e;
  serial = serial_after s e;
  number = number_after s e;
  counts = counts_after r s e;
  asked = asked_by e ++ s.asked;
  given = given_by e ++ s.given;
  asks_come = asks_come_by r e ++ s.asks_come;
  asks_gone = asks_gone_by r e ++ s.asks_gone;
  refusals = refusals_by s e ++ s.refusals;
  failures = failures_after s e;
}

-- an entry is in its turn, names bare objects, and keeps its row
pub record MayWrite (r : Rules) (s : Local) (e : Event) : Type 0 where
  pub turn : TurnAllows s e
  pub bare : AllByRecursion (λ o. o.log ≡ None) (objects_in e)
  pub row : Row r s e

-- besides, it finds the tokens that it takes
pub record MayEnter (r : Rules) (s : Local) (e : Event) : Type 0 where
  pub write : MayWrite r s e
  pub tokens : Covers same_token s.tokens (takes r e)

-- the localities in order, and the road
pub record Shows (r : Rules) (s : Placed) (w : Space) : Type 0 where
  pub count : length s.places.items ≡ r.localities
  pub places : (k : ℕ) → k < r.localities → slice_get s.places.items k ≡ Some (w.places k)
  pub road : s.road ≡ w.road

-- the journal is legal, and this is the space that it leads to
pub record Replays (r : Rules) (es : List Entry) (s : Placed) : Type 0 where
  pub legal : IsLegal r es
  pub shows : Shows r s (replayed r es)

-- the first entry that is not allowed is at a place
pub record IsRefusedAt (r : Rules) (es : List Entry) (at : ℕ) : Type 0 where
  pub before : IsLegal r (take at es)
  pub entry : Entry
  pub there : slice_get es at ≡ Some entry
  pub refused : MayStand r (replayed r (take at es)) entry → ⊥

-- why a journal is not replayed: an entry is not allowed, or memory is wanting
abbrev pub IsFault : Rules → List Entry → ReplayFault → Type 0
IsFault r es (Illegal at) = IsRefusedAt r es at
IsFault r es OutOfMemory = Unit {0}
