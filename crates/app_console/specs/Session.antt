-- What actions on the session do, and what actions do on any kind but the plain one.
use Rattle.std.specs.Prelude.{ℕ, pos, nat_le, List, [], ◌∷◌, ◌+◌, ◌==◌, ◌&&◌, Option, Some, None, length, map, if◌then◌else◌}
use Rattle.hpx_value.specs.Kept.{stays}
use Rattle.hpx_value.specs.Hands.{id_at}
use Rattle.hpx_calls.specs.Values.{Sort, spelled, shifted}
use Rattle.hpx_calls.specs.Outcomes.{outcome_of}
use Rattle.app_console.specs.Types.{Spelled, SpelledInt, SpelledText, SpelledRef, SpelledFault, Cont, State, Act, Target, Place, Root, Here, Sending, Outcome, Naming, What, Desk, Console, Space, AccumulatorConsole, Own, Argument, GivenWord, GivenObject, GivenNumber, Goal, Named, RootAt, Plan, DoesNothing, ShowsHelp, Refuses, GivesUp, Calls}
use Rattle.app_console.specs.Commands.{Sight, help_of, plan_of, refusal_text, answer_text}
use Rattle.app_console.specs.Desks.{seek, status_in, without, opened, answered, held_at, erased, desk_out, desk_shown}

-- the console of a mark: `a` accumulator, `s` space, `o` the top call's own
abbrev pub console_of : ℕ → Option Console
console_of mark = if mark == 97 then Some AccumulatorConsole else if mark == 115 then Some Space else if mark == 111 then Some Own else None

-- no text is not printed
abbrev pub printed : List ℕ → List (List ℕ)
printed [] = []
printed (b ∷ bs) = (b ∷ bs) ∷ []

-- what the session keeps then, and what it sends and prints
abbrev pub spoken : ℕ → Desk Spelled → List Sending → List (List ℕ) → Outcome
spoken drawn d sends texts =
    record { state = record { drawn = drawn; values = desk_out spelled d; conts = [] }; makes = []; sends = sends; replies = []; prints = texts }

-- what a name stands for, or Unit
abbrev pub or_nothing : {V : Type 0} → Sort V → Option V → V
or_nothing k None = k.nothing
or_nothing k (Some v) = v

-- the value that is sent
abbrev pub given : {V : Type 0} → Sort V → List (Naming V) → Argument → V
given k names (GivenWord word) = k.text word
given k names (GivenObject name) = or_nothing k (seek name names)
given k names (GivenNumber number) = k.int number

-- the place of a Ref
abbrev pub place_of : Spelled → ℕ
place_of (SpelledRef place) = place
place_of _ = 0

abbrev pub place_in : Option Spelled → ℕ
place_in (Some v) = place_of v
place_in None = 0

abbrev pub target_of : List (Naming Spelled) → Goal → Target
target_of names (Named name) = Place (place_in (seek name names))
target_of names (RootAt kind at) = Root kind at

-- the action, whose answer goes to a slot of the session
abbrev pub call_to : List (Naming Spelled) → ℕ → Goal → ℕ → List Argument → Sending
call_to names slot goal code args = record { target = target_of names goal; code = code; args = map (given spelled names) args; cont = Here slot }

-- one answer more is awaited, in a slot
abbrev pub awaiting : {V : Type 0} → Desk V → ℕ → What → Desk V
awaiting d slot what = record { names = opened what d.names; awaits = record { slot = slot; what = what } ∷ d.awaits }

-- what a line that does this comes to
abbrev pub planned : Console → ℕ → Desk Spelled → Plan → Outcome
planned c drawn d DoesNothing = spoken drawn d [] []
planned c drawn d ShowsHelp = spoken drawn d [] (printed (help_of c))
planned c drawn d (Refuses r) = spoken drawn d [] (printed (refusal_text r))
planned c drawn d (GivesUp name) = spoken drawn (record { names = without name d.names; awaits = d.awaits }) [] []
planned c drawn d (Calls goal code args what) = spoken (drawn + 1) (awaiting d drawn what) (call_to d.names drawn goal code args ∷ []) []

-- the kind of the object at a Ref's place in the state
abbrev pub kind_of : State → Spelled → ℕ
kind_of s v = (id_at s.ids (place_of v)).kind

-- what a line is judged by
abbrev pub sight : {V : Type 0} → ℕ → (V → ℕ) → Desk V → Sight
sight n kind d = record { localities = n; status = status_in kind d.names; names = length d.names; awaited = length d.awaits }

-- a line of a console
abbrev pub line_of : ℕ → State → Act → Desk Spelled → List ℕ → Option Console → Outcome
line_of n s a d line (Some c) = planned c s.drawn d (plan_of c (sight n (kind_of s) d) line)
line_of n s a d line None = stays s a (SpelledFault 11)

-- an answer: its name is bound, it is awaited no more, and it is printed; so many places are those of the state
abbrev pub taken_by : ℕ → Desk Spelled → ℕ → Spelled → What → ℕ → Outcome
taken_by drawn d slot v what places =
    spoken drawn (record { names = answered spelled what (shifted places v) d.names; awaits = erased slot d.awaits }) []
    (printed (answer_text what (spelled.look v)))

-- the answer to what is awaited in a slot, if anything is
abbrev pub taken : State → Act → Desk Spelled → ℕ → Spelled → Option What → Outcome
taken s a d slot v (Some what) = taken_by s.drawn d slot v what (length s.ids)
taken s a d slot v None = stays s a (SpelledFault 11)

-- code 4 is LINE, code 3 SET
abbrev pub session_args : ℕ → State → Act → Desk Spelled → ℕ → List Spelled → Outcome
session_args n s a d code (SpelledText (mark ∷ line) ∷ []) = if code == 4 then line_of n s a d line (console_of mark) else stays s a (SpelledFault 11)
session_args n s a d code (SpelledInt (pos slot) ∷ v ∷ []) = if code == 3 then taken s a d slot v (held_at slot d.awaits) else stays s a (SpelledFault 11)
session_args n s a d code _ = stays s a (SpelledFault 11)

-- neither carries a continuation
abbrev pub session_cont : ℕ → State → Act → Desk Spelled → Option Cont → Outcome
session_cont n s a d None = session_args n s a d a.code a.args
session_cont n s a d (Some k) = stays s a (SpelledFault 11)

-- the desk that a state shows: it keeps no continuations, and another slot can be drawn
abbrev pub desk_at : State → Option (Desk Spelled)
desk_at s = if (length s.conts == 0) && nat_le s.drawn 4000000000 then desk_shown spelled s.values else None

abbrev pub session_by : ℕ → State → Act → Option (Desk Spelled) → Outcome
session_by n s a (Some d) = session_cont n s a d a.cont
session_by n s a None = stays s a (SpelledFault 11)

-- what an action on the session does
unfoldable pub session_outcome : ℕ → State → Act → Outcome
session_outcome n s a = session_by n s a (desk_at s)

-- what an action does at n localities, on the session, kind 1, or on an object of any other kind but the plain one, 7
unfoldable pub act_of : ℕ → ℕ → ℕ → State → Act → Outcome
act_of n kind here s a = if kind == 1 then session_outcome n s a else outcome_of n kind here s a
