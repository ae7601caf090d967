-- What actions do on the plain objects of places, and on parts of a ring.
use Rattle.std.specs.Prelude.{ℕ, ℤ, pos, Bool, true, false, nat_lt, List, [], ◌∷◌, ◌+◌, ◌-◌, ◌%◌, ◌+ℤ◌, ◌==◌, ◌&&◌, Option, Some, None, length, if◌then◌else◌}
use Rattle.hpx_value.specs.Kept.{stays}
use Rattle.hpx_calls.specs.Contents.{count_in}
use Rattle.hpx_calls.specs.Tables.{fits}
use Rattle.hpx_calls.specs.Outcomes.{outcome_of}
use Rattle.app_compute.specs.Types.{Value, Int, Fault, Cont, State, Act, Place, Root, SendCont, NoCont, Own, Made, Make, Sending, Outcome}
use Rattle.app_compute.specs.Numbers.{fibonacci, is_direct}

-- the action is not listed: nothing changes, and its answer says so
abbrev pub refused : State → Act → Outcome
refused s a = stays s a (Fault 11)

-- ---- SUM

-- a sum of 64 bits with a sign, or Overflow
abbrev pub sum_of : ℤ → ℤ → Value
sum_of x y = if fits (x +ℤ y) then Int (x +ℤ y) else Fault 1

-- ---- FIB

-- a dataflow that sends SUM, code 49, once its two inputs are there and somebody waits
abbrev pub sum_of_two : Make
sum_of_two = record { kind = 33; values = Int (pos 49) ∷ Int (pos 2) ∷ [] }

-- FIB, code 48, for a plain object; its answer is an input of the dataflow
abbrev pub fib_call : ℕ → ℕ → ℕ → ℕ → Sending
fib_call threshold n at slot =
    record { target = Root 7 at; code = 48; args = Int (pos n) ∷ Int (pos threshold) ∷ []; cont = Made 0 slot }

-- the action's own continuation is handed on
abbrev pub handed : Option Cont → SendCont
handed None = NoCont
handed (Some c) = Own 0

-- GET, code 32, for an object of the hand
abbrev pub get_call : ℕ → SendCont → Sending
get_call place cont = record { target = Place place; code = 32; args = []; cont = cont }

-- the number before is computed at the next locality and the one before that here, and their sum is the answer
abbrev pub splits : ℕ → ℕ → State → Act → ℕ → ℕ → Outcome
splits localities here s a threshold n = record {
  state = record { drawn = s.drawn; values = []; conts = [] };
  makes = sum_of_two ∷ [];
  sends = fib_call threshold (n - 1) ((here + 1) % localities) 0
      ∷ fib_call threshold (n - 2) here 1
      ∷ get_call (length s.ids + length a.ids) (handed a.cont)
      ∷ [];
  replies = [];
  prints = [];
}

-- a number up to 92, by a threshold from 2 to 92
abbrev pub fib_outcome : ℕ → ℕ → State → Act → Option ℕ → Option ℕ → Outcome
fib_outcome localities here s a (Some n) (Some threshold) =
    if nat_lt threshold 2 then refused s a
    else if is_direct threshold n then stays s a (Int (pos (fibonacci n)))
    else splits localities here s a threshold n
fib_outcome localities here s a _ _ = refused s a

-- ---- plain objects

-- both actions take two numbers
abbrev pub plain_args : ℕ → ℕ → State → Act → List Value → Outcome
plain_args localities here s a (Int x ∷ Int y ∷ []) =
    if a.code == 48 then fib_outcome localities here s a (count_in 92 x) (count_in 92 y)
    else if a.code == 49 then stays s a (sum_of x y)
    else refused s a
plain_args localities here s a _ = refused s a

-- no elements
abbrev pub is_empty : {X : Type 0} → List X → Bool
is_empty [] = true
is_empty (x ∷ xs) = false

-- a plain object has no state
unfoldable pub plain_outcome : ℕ → ℕ → State → Act → Outcome
plain_outcome localities here s a =
    if is_empty s.values && is_empty s.conts then plain_args localities here s a a.args else refused s a

-- kind 7 is a plain object, kind 17 a part of a ring
unfoldable pub compute_outcome : ℕ → ℕ → ℕ → State → Act → Outcome
compute_outcome localities kind here s a =
    if kind == 7 then plain_outcome localities here s a else outcome_of localities kind here s a
