-- One locality: what it has, and what it has after an entry. Nothing here looks beyond the locality.
use Rattle.std.specs.Prelude.{ℕ, Bool, true, false, cond, List, [], ◌∷◌, ◌++◌, ◌+◌, ◌-◌, ◌^◌, ◌==◌, Option, Some, None, map}
use Rattle.std.specs.Prelude.{codes}
use Rattle.std.specs.List.{list_any, find}
use Rattle.std.specs.Option.{option_to_list}
use Rattle.hpx_value.specs.Ids.{same_object}
use Rattle.hpx_value.specs.Values.{named}
use Rattle.hpx_value.specs.Hands.{own_slot, answer, state_after}
use Rattle.hpx_value.specs.Riders.{plain, due_with}
use Rattle.hpx_parcel.specs.Credits.{Credit}
use Rattle.hpx_journal.specs.Data.{Id, Fault, Act, Outcome, Due, MessageDue, PrintDue}
use Rattle.hpx_journal.specs.Bags.{without, minus}
use Rattle.hpx_journal.specs.Entries.{Name, Returned, Granted, Refused, Event, Line, Fire, Split, Born, Done, Sent, Print, Merge, Up, Asked, Given, Count, Freed, Left, Landed, Out, In, Standing, Travel, Rules, same_name, name_of, target_of, line_act}
use Rattle.hpx_journal.specs.Tokens.{Token, held_token, owed_token, same_token}
use Rattle.hpx_journal.specs.Frames.{acts_in, travels_in, tokens_in, asks_in}
-- a number that was written in the record of an object
pub use Rattle.hpx_journal.specs.declared.entry.Recorded.{Recorded}
-- an id came back with no more credit while an action was fired
pub use Rattle.hpx_journal.specs.declared.entry.Refusal.{Refusal}
-- what one locality has
pub use Rattle.hpx_journal.specs.declared.local.Local.{Local}

-- ---- tests

-- an action of this name
abbrev pub is_act : Name → Act → Bool
is_act a x = same_name a (name_of x)

-- where an object stands
abbrev pub is_standing : Id → Standing → Bool
is_standing o x = same_object o x.object

-- where an object travels
abbrev pub is_travel : Id → Travel → Bool
is_travel o x = same_object o x.object

-- a number of an object
abbrev pub is_recorded : Id → Recorded → Bool
is_recorded o x = same_object o x.object

-- an id of an object that was given
abbrev pub is_given : Id → Credit → Bool
is_given o x = same_object o x.object

-- one that was given with the least credit
abbrev pub is_given_none : Credit → Bool
is_given_none x = x.log == 0

-- an action on an object
abbrev pub acts_on : Id → Act → Bool
acts_on o x = same_object o (target_of x)

-- a fired action keeps its object busy, unless that is of kind Plain
abbrev pub is_busy : Id → List Act → Bool
is_busy o fired = cond (o.kind == 7) false (list_any (acts_on o) fired)

-- the name that is drawn next
abbrev pub next_name : Local → Name
next_name s = record { origin = s.here; serial = s.serial + 1 }

-- ---- credit

-- the tokens that an entry takes
abbrev pub takes : Rules → Event → List Token
takes r (Split o log) = held_token o log ∷ []
takes r (Merge o log) = held_token o log ∷ held_token o log ∷ []
takes r (Up o log) = held_token o log ∷ []
takes r (Asked o) = held_token o 0 ∷ []
takes r (Given o log) = owed_token o log ∷ []
takes r (Count o count (Returned log)) = owed_token o log ∷ []
takes r (Count o count why) = owed_token o 0 ∷ []
takes r (Out to bytes) = tokens_in (r.parcel_of bytes)
takes r _ = []

-- the tokens that it gives
abbrev pub gives : Rules → Event → List Token
gives r (Split o log) = held_token o (log - 1) ∷ held_token o (log - 1) ∷ []
gives r (Born o state) = held_token o r.credit_log ∷ []
gives r (Merge o log) = held_token o (log + 1) ∷ []
gives r (Up o log) = owed_token o log ∷ []
gives r (Asked o) = owed_token o 0 ∷ []
gives r (Given o log) = held_token o log ∷ []
gives r (Count o count Granted) = owed_token o r.credit_log ∷ []
gives r (Count o count Refused) = owed_token o 0 ∷ []
gives r (In bytes) = tokens_in (r.parcel_of bytes)
gives r _ = []

-- the tokens after an entry
abbrev pub tokens_after : Rules → Local → Event → List Token
tokens_after r s e = gives r e ++ minus same_token s.tokens (takes r e)

-- the recorded numbers after it, the newest first
abbrev pub counts_after : Rules → Local → Event → List Recorded
counts_after r s (Born o state) = record { object = o; count = 2 ^ r.credit_log } ∷ s.counts
counts_after r s (Count o count why) = record { object = o; count = count } ∷ s.counts
counts_after r s _ = s.counts

-- the number, or 0 where there is none
abbrev pub count_in : Option Recorded → ℕ
count_in None = 0
count_in (Some x) = x.count

-- the last number that was written for o, or 0
abbrev pub recorded : Id → Local → ℕ
recorded o s = count_in (find (is_recorded o) s.counts)

-- ---- actions

-- the action that the first of what is due becomes
abbrev pub due_act : Name → List Due → List Act
due_act a (MessageDue m ∷ rest) = named a.origin a.serial m ∷ []
due_act a _ = []

-- the actions that an entry makes Waiting here
abbrev pub comes : Rules → Local → Event → List Act
comes r s (Line a bytes) = line_act a bytes ∷ []
comes r s (Sent a) = due_act a s.due
comes r s (In bytes) = acts_in (r.parcel_of bytes)
comes r s _ = []

-- the actions that it takes from those Waiting
abbrev pub leaves : Rules → Event → List Name
leaves r (Fire a) = a ∷ []
leaves r (Out to bytes) = map name_of (acts_in (r.parcel_of bytes))
leaves r _ = []

-- the actions that wait after an entry
abbrev pub waiting_after : Rules → Local → Event → List Act
waiting_after r s e = comes r s e ++ minus is_act s.waiting (leaves r e)

-- the fired actions after it
abbrev pub fired_after : Local → Event → List Act
fired_after s (Fire a) = option_to_list (find (is_act a) s.waiting) ++ s.fired
fired_after s (Done a failed) = without (is_act a) s.fired
fired_after s _ = s.fired

-- the done actions after it
abbrev pub done_after : Local → Event → List Act
done_after s (Done a failed) = option_to_list (find (is_act a) s.fired) ++ s.done
done_after s _ = s.done

-- the last serial that was drawn
abbrev pub serial_after : Local → Event → ℕ
serial_after s (Line a bytes) = s.serial + 1
serial_after s (Sent a) = s.serial + 1
serial_after s _ = s.serial

-- ---- outcomes

-- what an action, without its rider, does where its object is in this state
abbrev pub outcome : Rules → Local → Act → Standing → Outcome
outcome r s act x = r.outcome_of x.object.kind s.here x.state (plain act)

-- what a failed action leaves due: its own continuation is answered Fault 5, and the session prints
abbrev pub failure : Act → List Due
failure act =
    map (λ x. MessageDue (answer [] x (Fault 5))) (own_slot act.ids act.cont)
    ++ cond ((target_of act).kind == 1) (PrintDue (codes "error: credit limit\n") ∷ []) []

-- what an action leaves due where its object stands
abbrev pub due_at : Rules → Local → Act → Option Standing → List Due
due_at r s act None = []
due_at r s act (Some x) = due_with x.state (plain act) s.fresh (outcome r s act x)

-- what a Done leaves due
abbrev pub due_left : Rules → Local → Bool → Option Act → List Due
due_left r s failed None = []
due_left r s true (Some act) = failure act
due_left r s false (Some act) = due_at r s act (find (is_standing (target_of act)) s.objects)

-- what is behind the first
abbrev pub tail : List Due → List Due
tail [] = []
tail (x ∷ xs) = xs

-- what is due after an entry
abbrev pub due_after : Rules → Local → Event → List Due
due_after r s (Done a failed) = due_left r s failed (find (is_act a) s.fired)
due_after r s (Sent a) = tail s.due
due_after r s (Print bytes) = tail s.due
due_after r s _ = s.due

-- how many actions have failed
abbrev pub failures_after : Local → Event → ℕ
failures_after s (Done a true) = s.failures + 1
failures_after s _ = s.failures

-- ---- objects

-- the target has its new state, where it stands
abbrev pub settled_at : Rules → Local → Act → Option Standing → List Standing
settled_at r s act None = s.objects
settled_at r s act (Some x) =
    record { object = x.object; state = state_after x.state (plain act) s.fresh (outcome r s act x) } ∷ without (is_standing x.object) s.objects

-- the target of an action has the state that it leaves
abbrev pub settled : Rules → Local → Option Act → List Standing
settled r s None = s.objects
settled r s (Some act) = settled_at r s act (find (is_standing (target_of act)) s.objects)

-- what stood here, on its way
abbrev pub leaving : ℕ → Standing → Travel
leaving to x = record { object = x.object; state = x.state; to = to }

-- what travelled here, standing
abbrev pub stood : Travel → Standing
stood x = record { object = x.object; state = x.state }

-- the objects that stand here after an entry
abbrev pub objects_after : Rules → Local → Event → List Standing
objects_after r s (Born o state) = record { object = o; state = state } ∷ s.objects
objects_after r s (Done a false) = settled r s (find (is_act a) s.fired)
objects_after r s (Freed o) = without (is_standing o) s.objects
objects_after r s (Left o to) = without (is_standing o) s.objects
objects_after r s (Landed o) = map stood (option_to_list (find (is_travel o) s.travels)) ++ s.objects
objects_after r s _ = s.objects

-- the objects born since the last Done, in order
abbrev pub fresh_after : Local → Event → List Id
fresh_after s (Born o state) = s.fresh ++ o ∷ []
fresh_after s (Done a failed) = []
fresh_after s _ = s.fresh

-- the last number that was drawn for an object
abbrev pub number_after : Local → Event → ℕ
number_after s (Born o state) = s.number + 1
number_after s _ = s.number

-- the objects that begin to travel here
abbrev pub sets_off : Rules → Local → Event → List Travel
sets_off r s (Left o to) = map (leaving to) (option_to_list (find (is_standing o) s.objects))
sets_off r s (In bytes) = travels_in (r.parcel_of bytes)
sets_off r s _ = []

-- those that travel here no more
abbrev pub stops : Rules → Event → List Id
stops r (Landed o) = o ∷ []
stops r (Out to bytes) = map (λ x. x.object) (travels_in (r.parcel_of bytes))
stops r _ = []

-- the objects that travel here after an entry
abbrev pub travels_after : Rules → Local → Event → List Travel
travels_after r s e = sets_off r s e ++ minus is_travel s.travels (stops r e)

-- ---- asks

-- what an entry asks for
abbrev pub asked_by : Event → List Id
asked_by (Asked o) = o ∷ []
asked_by _ = []

-- what it gives
abbrev pub given_by : Event → List Credit
given_by (Given o log) = record { object = o; log = log } ∷ []
given_by _ = []

-- what comes by it in an Ask or a Give
abbrev pub asks_come_by : Rules → Event → List Id
asks_come_by r (In bytes) = asks_in (r.parcel_of bytes)
asks_come_by r _ = []

-- what goes by it in one
abbrev pub asks_gone_by : Rules → Event → List Id
asks_gone_by r (Out to bytes) = asks_in (r.parcel_of bytes)
asks_gone_by r _ = []

-- an id given with log 0 may fail each action that is fired
abbrev pub refusals_by : Local → Event → List Refusal
refusals_by s (Given o log) = cond (log == 0) (map (λ act. record { action = name_of act; object = o }) s.fired) []
refusals_by s _ = []

-- ---- the locality after an entry

-- what an entry leaves at its locality
unfoldable pub after : Rules → Local → Event → Local
after r s e = record {
  here = s.here;
  waiting = waiting_after r s e;
  fired = fired_after s e;
  done = done_after s e;
  objects = objects_after r s e;
  travels = travels_after r s e;
  fresh = fresh_after s e;
  due = due_after r s e;
  tokens = tokens_after r s e;
  serial = serial_after s e;
  number = number_after s e;
  counts = counts_after r s e;
  last = Some e;
  asked = asked_by e ++ s.asked;
  given = given_by e ++ s.given;
  asks_come = asks_come_by r e ++ s.asks_come;
  asks_gone = asks_gone_by r e ++ s.asks_gone;
  refusals = refusals_by s e ++ s.refusals;
  failures = failures_after s e;
}

-- at boot
abbrev pub boot : List Standing → ℕ → Local
boot roots k = record {
  here = k;
  waiting = [];
  fired = [];
  done = [];
  objects = roots;
  travels = [];
  fresh = [];
  due = [];
  tokens = [];
  serial = 0;
  number = 0;
  counts = [];
  last = None;
  asked = [];
  given = [];
  asks_come = [];
  asks_gone = [];
  refusals = [];
  failures = 0;
}
