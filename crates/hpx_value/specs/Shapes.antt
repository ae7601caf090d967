-- When values, messages and states are well formed: places in the order of standing, and the limits.
use Rattle.std.specs.Prelude.{ℕ, List, [], ◌∷◌, ◌≡◌, ◌+◌, ◌*◌, ◌≤◌, length, Option, Some, None}
use Rattle.std.specs.List.{AllByRecursion}
use Rattle.hpx_value.specs.Values.{Value, Nothing, Flag, Int, Text, Ref, Fault, Ints, Cont, State, Act, Message, refs_in, message_of}

-- a value within its limits
abbrev pub IsValue : Value → Type 0
IsValue Nothing = Unit {0}
IsValue (Flag yes_or_no) = Unit {0}
IsValue (Int number) = Unit {0}
IsValue (Text bytes) = length bytes ≤ 16384
IsValue (Ref place) = Unit {0}
IsValue (Fault code) = (1 ≤ code) × (code ≤ 11)
IsValue (Ints numbers) = length numbers ≤ 4096

-- how many bytes a value takes in a frame, an id 16 of them
abbrev pub value_size : Value → ℕ
value_size Nothing = 1
value_size (Flag yes_or_no) = 2
value_size (Int number) = 9
value_size (Text bytes) = 3 + length bytes
value_size (Ref place) = 17
value_size (Fault code) = 2
value_size (Ints numbers) = 3 + length numbers * 8

-- how many bytes values take in a frame
abbrev pub values_size : List Value → ℕ
values_size [] = 0
values_size (v ∷ vs) = value_size v + values_size vs

-- how many bytes a continuation takes in a frame, or the lack of one
abbrev pub cont_size : Option Cont → ℕ
cont_size None = 1
cont_size (Some c) = 21

-- the numbers n, n + 1 and so on
abbrev pub IsCount : ℕ → List ℕ → Type 0
IsCount n [] = Unit {0}
IsCount n (p ∷ ps) = (p ≡ n) × IsCount (n + 1) ps

-- the places of continuations, in order
abbrev pub places_of : List Cont → List ℕ
places_of [] = []
places_of (c ∷ cs) = c.place ∷ places_of cs

-- a continuation as a list of one, or of none
abbrev pub listed : Option Cont → List Cont
listed None = []
listed (Some c) = c ∷ []

-- at most 1,024 values, each within its limits
pub record AreValues (vs : List Value) : Type 0 where
  pub few : length vs ≤ 1024
  pub each : AllByRecursion IsValue vs

-- place 0 is the target, then come the Refs of the arguments, then the target of the continuation
pub record IsMessage (m : Message) : Type 0 where
  pub values : AreValues m.args
  pub refs : IsCount 1 (refs_in m.args)
  pub few_refs : length (refs_in m.args) ≤ 32
  pub cont : IsCount (length (refs_in m.args) + 1) (places_of (listed m.cont))
  pub ids : length m.ids ≡ 1 + length (refs_in m.args) + length (listed m.cont)
  pub short : 30 + values_size m.args + cont_size m.cont ≤ 65000

-- an action is well formed where it is without its name
abbrev pub IsAct : Act → Type 0
IsAct a = IsMessage (message_of a)

-- the ids are the Refs of the values in order, and then the targets of the kept continuations
pub record IsState (s : State) : Type 0 where
  pub values : AreValues s.values
  pub refs : IsCount 0 (refs_in s.values)
  pub conts : IsCount (length (refs_in s.values)) (places_of s.conts)
  pub ids : length s.ids ≡ length (refs_in s.values) + length s.conts
  pub few : length s.ids ≤ 128
  pub short : 8 + values_size s.values + length s.conts * 20 ≤ 65000
