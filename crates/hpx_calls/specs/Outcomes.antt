-- What a call comes to: the outcome on a state, over the continuations that it keeps.
use Rattle.std.specs.Prelude.{ℕ, zero, suc, pos, Bool, true, false, List, [], ◌∷◌, ◌++◌, ◌+◌, ◌-◌, Option, Some, None, length, map}
use Rattle.hpx_value.specs.declared.value.Value.{Value as Spelled}
use Rattle.hpx_value.specs.declared.value.Value.TheVariants.{Int as SpelledInt, Ref as SpelledRef}
use Rattle.hpx_value.specs.declared.value.Cont.{Cont}
use Rattle.hpx_value.specs.declared.value.State.{State}
use Rattle.hpx_value.specs.declared.value.Act.{Act}
use Rattle.hpx_value.specs.declared.outcome.Target.TheVariants.{Root}
use Rattle.hpx_value.specs.declared.outcome.SendCont.TheVariants.{Own}
use Rattle.hpx_value.specs.declared.outcome.Make.{Make}
use Rattle.hpx_value.specs.declared.outcome.Sending.{Sending}
use Rattle.hpx_value.specs.declared.outcome.Reply.{Reply}
use Rattle.hpx_value.specs.declared.outcome.Outcome.{Outcome}
use Rattle.hpx_calls.specs.Values.{spelled, shifted}
use Rattle.hpx_calls.specs.Requests.{Request, request_of}
use Rattle.hpx_calls.specs.Contents.{Content, Table, Maker, Size, Number, Row, Promise, Dataflow, Started, Channel, Latch, Barrier, Unreadable, layout, content_of}
use Rattle.hpx_calls.specs.Effects.{Effect, Silent, Answers, Waits, Frees, Starts, Hands, Moves, Makes, Called}
use Rattle.hpx_calls.specs.Tables.{called}

-- so many numbers from one on
abbrev pub numbers : ℕ → ℕ → List ℕ
numbers n zero = []
numbers n (suc count) = n ∷ numbers (n + 1) count

-- whether an action has a continuation of its own
abbrev pub has_cont : Option Cont → Bool
has_cont None = false
has_cont (Some c) = true

-- how many continuations an action has of its own
abbrev pub cont_count : Option Cont → ℕ
cont_count None = 0
cont_count (Some c) = 1

-- the answer to the action's own continuation, the last of the hand
abbrev pub own_reply : State → Option Cont → Spelled → List Reply
own_reply s None v = []
own_reply s (Some c) v = record { cont = length s.conts; value = v } ∷ []

-- the answers to so many of the kept continuations, in order
abbrev pub freed : Spelled → ℕ → ℕ → List Reply
freed v n zero = []
freed v n (suc count) = record { cont = n; value = v } ∷ freed v (n + 1) count

-- the kind of an object with a content
abbrev pub kind_of : {V : Type 0} → Content V → ℕ
kind_of (Table pairs) = 2
kind_of Maker = 3
kind_of (Size n) = 4
kind_of (Number z) = 16
kind_of (Row numbers) = 17
kind_of (Promise value) = 32
kind_of (Dataflow code inputs given) = 33
kind_of (Started code inputs) = 33
kind_of (Channel closed kept) = 34
kind_of (Latch left) = 35
kind_of (Barrier n) = 36
kind_of (Unreadable values) = 0

-- an object with this content
abbrev pub make_of : Content Spelled → Make
make_of x = record { kind = kind_of x; values = layout spelled x }

-- an action for the plain object of a place, which hands a continuation on
abbrev pub started : ℕ → ℕ → List Spelled → ℕ → Sending
started here code args cont = record { target = Root 7 here; code = code; args = args; cont = Own cont }

-- the place of the first object that is made
abbrev pub made_place : State → Act → ℕ
made_place s a = length s.ids + length a.ids

-- values, the kept continuations by their numbers, and what is made, sent and answered
abbrev pub outcome : State → List Spelled → List ℕ → List Make → List Sending → List Reply → Outcome
outcome s values conts makes sends replies =
    record { state = record { drawn = s.drawn; values = values; conts = conts }; makes = makes; sends = sends; replies = replies; prints = [] }

-- what an effect comes to, over new values
abbrev pub comes_to : ℕ → State → Act → List Spelled → Effect Spelled → Outcome
comes_to here s a values Silent = outcome s values (numbers 0 (length s.conts)) [] [] []
comes_to here s a values (Answers v) = outcome s values (numbers 0 (length s.conts)) [] [] (own_reply s a.cont v)
comes_to here s a values Waits = outcome s values (numbers 0 (length s.conts + cont_count a.cont)) [] [] []
comes_to here s a values (Frees count v own) =
    outcome s values (numbers count (length s.conts - count)) [] [] (freed v 0 count ++ own_reply s a.cont own)
comes_to here s a values (Starts code args) =
    outcome s values (numbers 0 (length s.conts)) [] (started here code args (length s.conts) ∷ []) []
comes_to here s a values (Hands code args own) =
    outcome s values (numbers 1 (length s.conts - 1)) [] (started here code args 0 ∷ []) (own_reply s a.cont own)
comes_to here s a values (Moves to) = outcome s values (numbers 0 (length s.conts)) [] [] (own_reply s a.cont (SpelledInt (pos here)))
comes_to here s a values (Makes x) =
    outcome s values (numbers 0 (length s.conts)) (make_of x ∷ []) [] (own_reply s a.cont (SpelledRef (made_place s a)))

-- what a state of a kind shows, at n localities
abbrev pub content_in : ℕ → ℕ → State → Content Spelled
content_in n kind s = content_of spelled n kind (length s.conts) s.values

-- what an action asks; its Refs are places of the hand, after those of the state
abbrev pub request_in : State → Act → Request Spelled
request_in s a = request_of spelled a.code (has_cont a.cont) (map (shifted (length s.ids)) a.args)

-- what an action does
abbrev pub called_in : ℕ → ℕ → ℕ → State → Act → Called Spelled
called_in n kind here s a = called spelled here kind (length s.conts) (has_cont a.cont) (content_in n kind s) (request_in s a)

-- the outcome at n localities of an action on an object of a kind, at a place, in a state
unfoldable pub outcome_of : ℕ → ℕ → ℕ → State → Act → Outcome
outcome_of n kind here s a =
    comes_to here s a (layout spelled (called_in n kind here s a).content) (called_in n kind here s a).effect
