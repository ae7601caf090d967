-- The plain space: names, objects with plain contents and places, and who waits there; lines are applied one after another.
use Rattle.std.specs.Prelude.{ℕ, suc, Bool, true, false, List, [], ◌∷◌, ◌++◌, ◌+◌, ◌-◌, ◌==◌, ◌&&◌, Option, Some, None, length, codes, map, if◌then◌else◌}
use Rattle.hpx_calls.specs.Values.{Value, Ref, plain}
use Rattle.hpx_calls.specs.declared.request.Request.{Request}
use Rattle.hpx_calls.specs.declared.request.Request.TheVariants.{Move}
use Rattle.hpx_calls.specs.Requests.{request_of}
use Rattle.hpx_calls.specs.declared.content.Content.{Content}
use Rattle.hpx_calls.specs.declared.content.Content.TheVariants.{Table, Maker, Size}
use Rattle.hpx_calls.specs.Tables.{is_movable}
use Rattle.hpx_calls.specs.declared.effect.Effect.{Effect}
use Rattle.hpx_calls.specs.declared.effect.Effect.TheVariants.{Makes}
use Rattle.hpx_calls.specs.Outcomes.{kind_of}
use Rattle.hpx_calls.specs.Histories.{Call, Object as Held, Setting, Told, Answered, Begun, called_on, next, tells}
use Rattle.app_console.specs.Types.{Naming, What, Console, Own, Goal, Named, RootAt, Plan, DoesNothing, ShowsHelp, Refuses, GivesUp, Calls}
use Rattle.app_console.specs.Commands.{Sight, help_of, refusal_text, plan_of, answer_text}
use Rattle.app_console.specs.Desks.{seek, status_in, without, answered}
use Rattle.app_console.specs.Session.{given}

-- an object: a root by its kind and place, or the one that was made as the n-th
pub data Who : Type 0 where
  RootOf : (kind : ℕ) → (at : ℕ) → Who
  Thing : (number : ℕ) → Who

abbrev pub same_who : Who → Who → Bool
same_who (RootOf kind at) (RootOf kind' at') = (kind == kind') && (at == at')
same_who (Thing n) (Thing m) = n == m
same_who _ _ = false

-- values of the plain space
abbrev pub Datum : Type 0
Datum = Value Who

-- an object: its kind and place, its content, and what is done with the answers of those that wait there, who longest first
pub record Item : Type 0 where
  pub kind : ℕ
  pub place : ℕ
  pub held : Held Datum What

pub record Plain : Type 0 where
  pub names : List (Naming Datum)
  pub items : Who → Item
  pub count : ℕ
  pub awaited : ℕ

-- ---- one call

abbrev pub setting : Item → ℕ → Setting Datum
setting x made = record { sort = plain Who; here = x.place; kind = x.kind; made = Ref (Thing made) }

-- the call of an action that is sent: its answer is waited for
abbrev pub call_by : ℕ → List Datum → What → Call Datum What
call_by code args what = record { request = request_of (plain Who) code true args; waiter = Some what }

-- a MOVE is acted on where it moves its object
abbrev pub moved : {V : Type 0} → Request V → ℕ → ℕ
moved (Move to) place = to
moved _ place = place

-- what is told: names are bound, and texts printed
abbrev pub names_told : List (Told Datum What) → List (Naming Datum) → List (Naming Datum)
names_told [] names = names
names_told (Answered what v ∷ ts) names = names_told ts (answered (plain Who) what v names)
names_told (Begun what code args ∷ ts) names = names_told ts names

abbrev pub text_told : List (Told Datum What) → List ℕ
text_told [] = []
text_told (Answered what v ∷ ts) = answer_text what v ++ text_told ts
text_told (Begun what code args ∷ ts) = text_told ts

abbrev pub count_told : List (Told Datum What) → ℕ
count_told [] = 0
count_told (Answered what v ∷ ts) = suc (count_told ts)
count_told (Begun what code args ∷ ts) = count_told ts

abbrev pub set_item : (Who → Item) → Who → Item → Who → Item
set_item items who x u = if same_who u who then x else items u

-- what is made is there
abbrev pub with_made : (Who → Item) → ℕ → ℕ → Effect Datum → Who → Item
with_made items count place (Makes x) = set_item items (Thing count) (record { kind = kind_of x; place = place; held = record { content = x; waiting = [] } })
with_made items count place _ = items

abbrev pub count_made : Effect Datum → ℕ
count_made (Makes x) = 1
count_made _ = 0

pub record End : Type 0 where
  pub plain : Plain
  pub text : List ℕ

-- a movable object stands where a MOVE moves it
abbrev pub place_at : Item → Call Datum What → ℕ
place_at x c = if is_movable x.kind then moved c.request x.place else x.place

-- the object as it stands where it is called
abbrev pub at_call : Item → Call Datum What → Item
at_call x c = record { kind = x.kind; place = place_at x c; held = x.held }

-- what an object does at a call, and who is told
abbrev pub called_end : Plain → Who → Item → Call Datum What → Effect Datum → List (Told Datum What) → End
called_end v who x c e ts = record {
  plain = record {
    names = names_told ts v.names;
    items = with_made (set_item v.items who (record { kind = x.kind; place = x.place; held = next (setting x v.count) x.held c })) v.count x.place e;
    count = v.count + count_made e;
    awaited = v.awaited + 1 - count_told ts;
  };
  text = text_told ts;
}

abbrev pub call_on : Plain → Who → Item → Call Datum What → End
call_on v who x c = called_end v who x c (called_on (setting x v.count) x.held c).effect
    (tells (setting x v.count) (called_on (setting x v.count) x.held c).effect x.held.waiting c.waiter)

abbrev pub call_end : Plain → Who → Call Datum What → End
call_end v who c = call_on v who (at_call (v.items who) c) c

-- ---- one line

-- what a value stands for
abbrev pub who_by : Option Datum → Option Who
who_by (Some (Ref who)) = Some who
who_by _ = None

abbrev pub who_of : List (Naming Datum) → Goal → Option Who
who_of names (Named name) = who_by (seek name names)
who_of names (RootAt kind at) = Some (RootOf kind at)

abbrev pub goal_end : Plain → Option Who → Call Datum What → End
goal_end v (Some who) c = call_end v who c
goal_end v None c = record { plain = v; text = [] }

abbrev pub plan_end : Console → Plain → Plan → End
plan_end c v DoesNothing = record { plain = v; text = [] }
plan_end c v ShowsHelp = record { plain = v; text = help_of c }
plan_end c v (Refuses r) = record { plain = v; text = refusal_text r }
plan_end c v (GivesUp name) = record { plain = record { names = without name v.names; items = v.items; count = v.count; awaited = v.awaited }; text = [] }
plan_end c v (Calls goal code args what) = goal_end v (who_of v.names goal) (call_by code (map (given (plain Who) v.names) args) what)

abbrev pub kind_by : (Who → Item) → Datum → ℕ
kind_by items (Ref who) = (items who).kind
kind_by items _ = 0

-- what a line is judged by
abbrev pub sight_of : ℕ → Plain → Sight
sight_of n v = record { localities = n; status = status_in (kind_by v.items) v.names; names = length v.names; awaited = v.awaited }

-- what is left after a line, and what it prints
abbrev pub line_end : Console → ℕ → Plain → List ℕ → End
line_end c n v line = plan_end c v (plan_of c (sight_of n v) line)

-- ---- the space at boot

-- what each kind of root holds: 2 Symbols, 3 Components, 4 Localities, 5 Shelf
abbrev pub root_content : ℕ → ℕ → Content Datum
root_content n kind = if kind == 3 then Maker else if kind == 4 then Size n else Table []

abbrev pub first_item : ℕ → Who → Item
first_item n (RootOf kind at) = record { kind = kind; place = at; held = record { content = root_content n kind; waiting = [] } }
first_item n (Thing number) = record { kind = 0; place = 0; held = record { content = Maker; waiting = [] } }

abbrev pub at_boot : ℕ → Plain
at_boot n = record { names = []; items = first_item n; count = 0; awaited = 0 }

-- what each of some lines prints
abbrev pub texts_of : Console → ℕ → Plain → List (List ℕ) → List (List ℕ)
texts_of c n v [] = []
texts_of c n v (line ∷ lines) = (line_end c n v line).text ∷ texts_of c n (line_end c n v line).plain lines

-- the one line that the top call feeds an accumulator's session first
abbrev pub opened : ℕ → Plain
opened n = (line_end Own n (at_boot n) (codes "open")).plain
