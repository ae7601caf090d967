-- What an action asks, by its code and the shape of its arguments.
use Rattle.std.specs.Prelude.{ℕ, ℤ, pos, negsuc, Bool, nat_le, List, [], ◌∷◌, ◌==◌, ◌&&◌, length, if◌then◌else◌}
use Rattle.hpx_calls.specs.Values.{Int, Text, Ref, Look, Sort}
pub use Rattle.hpx_calls.specs.declared.request.Request.{Request}
pub use Rattle.hpx_calls.specs.declared.request.Request.TheVariants.{Move, Where, Set, New, Register, Resolve, Unregister, Keys, Count, Add, Query, Reset, Step, Get, Put, PutAt, Close, Down, Wait, Arrive, Other}

-- a key has from 1 to 32 bytes
abbrev pub is_key : List ℕ → Bool
is_key bytes = nat_le 1 (length bytes) && nat_le (length bytes) 32

-- without arguments: 2 WHERE, 9 LIST, 10 COUNT, 17 QUERY, 18 RESET, 32 GET, 34 CLOSE, 35 DOWN, 36 WAIT, 37 ARRIVE
abbrev pub asks_bare : {V : Type 0} → ℕ → Request V
asks_bare code =
    if code == 2 then Where else if code == 9 then Keys else if code == 10 then Count
    else if code == 17 then Query else if code == 18 then Reset else if code == 32 then Get else if code == 34 then Close
    else if code == 35 then Down else if code == 36 then Wait else if code == 37 then Arrive else Other

-- there are at most 64 localities
abbrev pub asks_move : {V : Type 0} → ℤ → Request V
asks_move (pos to) = if nat_le to 63 then Move to else Other
asks_move (negsuc n) = Other

-- of one argument that looks so: 1 MOVE, 5 NEW, 7 RESOLVE, 8 UNREGISTER, 16 ADD
abbrev pub asks_one : {V : Type 0} → ℕ → Look → Request V
asks_one code (Int z) = if code == 1 then asks_move z else if code == 16 then Add z else Other
asks_one code (Text bytes) =
    if code == 5 then New bytes [] else if code == 7 then Resolve bytes else if code == 8 then Unregister bytes else Other
asks_one code _ = Other

-- 6 REGISTER: a key, and a reference
abbrev pub asks_register : {V : Type 0} → List ℕ → V → Look → Request V
asks_register key to (Ref r) = if is_key key then Register key to else Other
asks_register key to _ = Other

-- 19 STEP: two numbers
abbrev pub asks_step : {V : Type 0} → ℤ → Look → Request V
asks_step left (Int right) = Step left right
asks_step left _ = Other

-- of two arguments, the first looking so: 3 SET, which carries no continuation, 5 NEW, 6 REGISTER, 19 STEP, 33 PUT
abbrev pub asks_two : {V : Type 0} → Sort V → ℕ → Bool → Look → V → Request V
asks_two k code waits (Int z) v =
    if code == 3 then (if waits then Other else Set z v)
    else if code == 19 then asks_step z (k.look v) else if code == 33 then PutAt z v else Other
asks_two k code waits (Text bytes) v =
    if code == 5 then New bytes (v ∷ []) else if code == 6 then asks_register bytes v (k.look v) else Other
asks_two k code waits _ v = Other

-- of more arguments: 5 NEW
abbrev pub asks_many : {V : Type 0} → ℕ → Look → List V → Request V
asks_many code (Text bytes) vs = if code == 5 then New bytes vs else Other
asks_many code _ vs = Other

-- of one argument: 33 PUT, and the others
abbrev pub asks_single : {V : Type 0} → Sort V → ℕ → V → Request V
asks_single k code v = if code == 33 then Put v else asks_one code (k.look v)

-- what a code asks with these arguments, of an action that has a continuation or none
abbrev pub request_of : {V : Type 0} → Sort V → ℕ → Bool → List V → Request V
request_of k code waits [] = asks_bare code
request_of k code waits (v ∷ []) = asks_single k code v
request_of k code waits (v ∷ w ∷ []) = asks_two k code waits (k.look v) w
request_of k code waits (v ∷ w ∷ x ∷ vs) = asks_many code (k.look v) (w ∷ x ∷ vs)
