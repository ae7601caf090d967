-- An outcome that keeps the state as it was, and answers.
use Rattle.std.specs.Prelude.{ℕ, List, [], ◌∷◌, ◌+◌, Option, Some, None, length}
use Rattle.hpx_value.specs.Values.{Value, Cont, State, Act}
use Rattle.hpx_value.specs.Hands.{NewState, Reply, Outcome}

-- the numbers from n on, one for each
abbrev pub numbers : {X : Type 0} → ℕ → List X → List ℕ
numbers n [] = []
numbers n (x ∷ xs) = n ∷ numbers (n + 1) xs

-- the state as it was: its places and its continuations are the first of the hand
abbrev pub kept : State → NewState
kept s = record { drawn = s.drawn; values = s.values; conts = numbers 0 s.conts }

-- the answer to the action's own continuation, which is the last of the hand
abbrev pub answers : State → Option Cont → Value → List Reply
answers s None value = []
answers s (Some cont) value = record { cont = length s.conts; value = value } ∷ []

-- nothing but an answer
abbrev pub stays : State → Act → Value → Outcome
stays s a value = record { state = kept s; makes = []; sends = []; replies = answers s a.cont value; prints = [] }
