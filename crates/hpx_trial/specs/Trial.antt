-- Acts for tests that keep the laws of actions: a session that has a number made, adds to it, asks for it, moves it and drops
-- it. Every other action keeps the state, and is answered the place.
use Rattle.std.specs.Prelude.{ℕ, ℤ, pos, Bool, false, cond, nat_lt, List, [], ◌∷◌, ◌++◌, ◌+◌, ◌-◌, ◌==◌, ◌&&◌, Option, Some, None, codes}
use Rattle.std.specs.Int.{w64, int_wrapping_add}
use Rattle.std.specs.Fmt.{signed_decimal}
use Rattle.hpx_value.specs.Kept.{stays}
use Rattle.hpx_value.specs.declared.value.Cont.{Cont}
use Rattle.hpx_value.specs.declared.outcome.Target.{Target}
use Rattle.hpx_value.specs.declared.outcome.Target.TheVariants.{Place, Root}
use Rattle.hpx_value.specs.declared.outcome.SendCont.{SendCont}
use Rattle.hpx_value.specs.declared.outcome.SendCont.TheVariants.{Nothing as NoCont, Here}
use Rattle.hpx_value.specs.declared.outcome.Sending.{Sending}
use Rattle.hpx_trial.specs.Data.{Id, Value, Nothing, Int, Text, Ref, State, Act, Outcome, Make}

-- the session keeps these values, sends this, and prints
abbrev pub said : ℕ → List Value → List Sending → List (List ℕ) → Outcome
said drawn values sends prints =
    record { state = record { drawn = drawn; values = values; conts = [] }; makes = []; sends = sends; replies = []; prints = prints }

-- an object keeps these values, makes this, and answers
abbrev pub told : ℕ → List Value → List Make → Value → Outcome
told drawn values makes value = record {
  state = record { drawn = drawn; values = values; conts = [] };
  makes = makes;
  sends = [];
  replies = record { cont = 0; value = value } ∷ [];
  prints = [];
}

-- one message
abbrev pub one_send : Target → ℕ → List Value → SendCont → List Sending
one_send target code args cont = record { target = target; code = code; args = args; cont = cont } ∷ []

-- n: a number is to be made at the last locality
abbrev pub first_line : ℕ → ℕ → ℕ → Option Outcome
first_line n drawn byte = cond (byte == 110) (Some (said (drawn + 1) [] (one_send (Root 3 (n - 1)) 5 [] (Here drawn)) [])) None

-- a: 5 is added to it; q: it is asked for; m: it is moved to locality 0; d: it is dropped
abbrev pub later_line : ℕ → Bool → ℕ → Option Outcome
later_line drawn movable byte =
    cond (byte == 97) (Some (said (drawn + 1) (Ref 0 ∷ []) (one_send (Place 0) 16 (Int (pos 5) ∷ []) (Here drawn)) []))
    (cond (byte == 113) (Some (said (drawn + 1) (Ref 0 ∷ []) (one_send (Place 0) 17 [] (Here drawn)) []))
    (cond ((byte == 109) && movable) (Some (said drawn (Ref 0 ∷ []) (one_send (Place 0) 1 (Int (pos 0) ∷ []) NoCont) []))
    (cond (byte == 100) (Some (said drawn [] [] [])) None)))

-- a line, where the session keeps nothing, or one id
abbrev pub line_outcome : ℕ → ℕ → Bool → List Value → ℕ → Option Outcome
line_outcome n drawn movable [] byte = first_line n drawn byte
line_outcome n drawn movable (Ref place ∷ []) byte = later_line drawn movable byte
line_outcome n drawn movable _ byte = None

-- the byte of a line of one byte
abbrev pub byte_in : List Value → ℕ
byte_in (Text (byte ∷ []) ∷ []) = byte
byte_in _ = 0

-- a number, in digits
abbrev pub number_text : ℤ → List ℕ
number_text number = signed_decimal number ++ codes "\n"

-- an answer that is an id is kept, where nothing is; one that is a number is printed, where an id is kept
abbrev pub set_outcome : ℕ → List Value → List Value → Option Outcome
set_outcome drawn [] (Int slot ∷ Ref place ∷ []) = Some (said drawn (Ref 1 ∷ []) [] [])
set_outcome drawn (Ref kept ∷ []) (Int slot ∷ Int number ∷ []) = Some (said drawn (Ref 0 ∷ []) [] (number_text number ∷ []))
set_outcome drawn _ _ = None

-- what the session does; code 4 is a LINE, code 3 a SET
abbrev pub session_outcome : ℕ → Bool → State → Act → Option Outcome
session_outcome n movable s a =
    cond (a.code == 4) (line_outcome n s.drawn movable s.values (byte_in a.args))
    (cond (a.code == 3) (set_outcome s.drawn s.values a.args) None)

-- a number is made, 0 at first
abbrev pub made_outcome : ℕ → List Value → List Value → Option Outcome
made_outcome drawn [] [] = Some (told drawn [] (record { kind = 16; values = Int (pos 0) ∷ [] } ∷ []) (Ref 2))
made_outcome drawn _ _ = None

-- code 16: a number is added, in 64 bits
abbrev pub add_outcome : ℕ → List Value → List Value → Option Outcome
add_outcome drawn (Int held ∷ []) (Int more ∷ []) = Some (told drawn (Int (int_wrapping_add w64 held more) ∷ []) [] Nothing)
add_outcome drawn _ _ = None

-- code 17: the number is answered
abbrev pub query_outcome : ℕ → List Value → List Value → Option Outcome
query_outcome drawn (Int held ∷ []) [] = Some (told drawn (Int held ∷ []) [] (Int held))
query_outcome drawn _ _ = None

-- what is done where the state keeps no continuation, by the action's own
abbrev pub free_outcome : ℕ → Bool → ℕ → State → Act → Option Cont → Option Outcome
free_outcome n movable kind s a None = cond ((kind == 1) && nat_lt s.drawn 100) (session_outcome n movable s a) None
free_outcome n movable kind s a (Some cont) =
    cond ((kind == 3) && (a.code == 5)) (made_outcome s.drawn s.values a.args)
    (cond ((kind == 16) && (a.code == 16)) (add_outcome s.drawn s.values a.args)
    (cond ((kind == 16) && (a.code == 17)) (query_outcome s.drawn s.values a.args) None))

-- what is done, by the continuations that the state keeps
abbrev pub some_outcome : ℕ → Bool → ℕ → State → Act → List Cont → Option Outcome
some_outcome n movable kind s a [] = free_outcome n movable kind s a a.cont
some_outcome n movable kind s a (cont ∷ conts) = None

-- the one id is that of a number
abbrev pub is_number : List Id → Bool
is_number (id ∷ []) = id.kind == 16
is_number _ = false

-- that, or the state stays and the place is answered
abbrev pub or_stays : ℕ → State → Act → Option Outcome → Outcome
or_stays here s a None = stays s a (Int (pos here))
or_stays here s a (Some out) = out

-- what an action does
abbrev pub trial : ℕ → ℕ → ℕ → State → Act → Outcome
trial n kind here s a = or_stays here s a (some_outcome n (is_number s.ids) kind s a s.conts)
