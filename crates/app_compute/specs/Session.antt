-- What the session does with the lines of the top call that ask for numbers, and with the answers.
use Rattle.std.specs.Prelude.{ℕ, pos, Bool, true, false, nat_le, List, [], ◌∷◌, ◌+◌, ◌==◌, ◌&&◌, Option, Some, None, if◌then◌else◌}
use Rattle.hpx_calls.specs.Contents.{count_in}
use Rattle.app_compute.specs.Types.{Value, Flag, Int, Text, Cont, State, Act, Root, Here, Sending, Outcome}
use Rattle.app_compute.specs.Acts.{refused, is_empty}
use Rattle.app_compute.specs.Texts.{answer_texts}
use Rattle.app_compute.specs.Lines.{question_of}
use Rattle.app_compute.specs.declared.line.Question.{Question}
use Rattle.app_compute.specs.declared.session.Awaited.{Awaited}

-- what the session keeps and does
abbrev pub spoken : ℕ → List Value → List Sending → List (List ℕ) → Outcome
spoken drawn values sends texts =
    record { state = record { drawn = drawn; values = values; conts = [] }; makes = []; sends = sends; replies = []; prints = texts }

-- the number whose Fibonacci number is awaited, and the slot; a Flag stands before it, as before no name of a console
abbrev pub awaited_out : Awaited → List Value
awaited_out x = Flag false ∷ Int (pos x.number) ∷ Int (pos x.slot) ∷ []

abbrev pub awaited_by : Option ℕ → Option ℕ → Option Awaited
awaited_by (Some n) (Some slot) = Some (record { number = n; slot = slot })
awaited_by _ _ = None

-- a number up to 92, and a slot of 32 bits
abbrev pub awaited_in : List Value → Option Awaited
awaited_in (Flag false ∷ Int n ∷ Int slot ∷ []) = awaited_by (count_in 92 n) (count_in 4294967295 slot)
awaited_in _ = None

-- FIB, code 48, for the plain object of locality 0
abbrev pub first_call : Question → ℕ → Sending
first_call q slot =
    record { target = Root 7 0; code = 48; args = Int (pos q.number) ∷ Int (pos q.threshold) ∷ []; cont = Here slot }

-- the question is sent, and its answer awaited
abbrev pub asks : State → Act → Option Question → Outcome
asks s a (Some q) = spoken (s.drawn + 1) (awaited_out (record { number = q.number; slot = s.drawn })) (first_call q s.drawn ∷ []) []
asks s a None = refused s a

-- the answer that is awaited in this slot is printed
abbrev pub answers : State → Act → ℕ → Value → Option Awaited → Outcome
answers s a slot v (Some x) = if slot == x.slot then spoken s.drawn [] [] (answer_texts x.number v) else refused s a
answers s a slot v None = refused s a

-- code 4 is LINE, where nothing is awaited and after the mark `c`; code 3 is SET
abbrev pub session_args : State → Act → List Value → Outcome
session_args s a (Text (mark ∷ line) ∷ []) =
    if (a.code == 4) && ((mark == 99) && is_empty s.values) then asks s a (question_of line) else refused s a
session_args s a (Int (pos slot) ∷ v ∷ []) = if a.code == 3 then answers s a slot v (awaited_in s.values) else refused s a
session_args s a _ = refused s a

-- neither carries a continuation
abbrev pub session_cont : State → Act → Option Cont → Outcome
session_cont s a None = session_args s a a.args
session_cont s a (Some c) = refused s a

-- the session keeps no continuations, and can draw another slot
unfoldable pub session_outcome : State → Act → Outcome
session_outcome s a = if is_empty s.conts && nat_le s.drawn 4000000000 then session_cont s a a.cont else refused s a

-- whether an action on the session is one of these: a line after the mark `c`, or an answer where one is awaited
abbrev pub is_marked : List Value → Bool
is_marked (Text (mark ∷ line) ∷ []) = mark == 99
is_marked _ = false

abbrev pub is_awaiting : List Value → Bool
is_awaiting (Flag b ∷ vs) = true
is_awaiting _ = false

abbrev pub computes : State → Act → Bool
computes s a = if is_marked a.args then true else is_awaiting s.values
