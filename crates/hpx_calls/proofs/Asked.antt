-- What a request is like that a well-formed action makes.
use Rattle.std.specs.Prelude.{ℕ, ℤ, pos, negsuc, Bool, true, false, nat_le, List, [], ◌∷◌, ◌+◌, ◌<◌, ◌≤◌, ◌≡◌, ◌==◌, length, map, refl, if◌then◌else◌}
use Rattle.std.proofs.Common.{ap, ◌∙◌, arith}
use Rattle.std.specs.List.{AllByRecursion}
use Rattle.std.proofs.lemmas.Bool.{and_parts, leb-true, le-leb}
use Rattle.hpx_value.specs.declared.value.Value.{Value as Spelled}
use Rattle.hpx_value.specs.declared.value.Value.TheVariants.{Unit as SpelledUnit, Flag as SpelledFlag, Int as SpelledInt, Text as SpelledText, Ref as SpelledRef, Fault as SpelledFault, Ints as SpelledInts}
use Rattle.hpx_value.specs.declared.value.State.{State}
use Rattle.hpx_value.specs.declared.value.Act.{Act}
use Rattle.hpx_value.specs.Values.{refs_in}
use Rattle.hpx_value.specs.Shapes.{IsValue, IsAct, IsCount}
use Rattle.hpx_calls.specs.Values.{Look, Int, Text, Ref, Flag, Fault, Ints, Nothing, spelled, shifted}
use Rattle.hpx_calls.specs.Requests.{Request, Move, Where, Register, Set, Put, PutAt, Other, asks_bare, asks_move, asks_one, asks_two, asks_step, asks_register, asks_many, request_of, is_key}
use Rattle.hpx_calls.specs.Outcomes.{has_cont, request_in}
use Rattle.hpx_calls.proofs.Shown.{IsRef}

-- a value that is given is within its limits; a SET carries no continuation; under a key stands a reference
abbrev pub IsFair : (Spelled → Type 0) → Bool → Request Spelled → Type 0
IsFair P waits (Set slot v) = P v × (waits ≡ false)
IsFair P waits (Put v) = P v
IsFair P waits (PutAt slot v) = P v
IsFair P waits (Register key to) = (length key ≤ 32) × P to × IsRef to
IsFair P waits _ = Unit {0}

-- a Ref of the arguments points below their number of ids
abbrev pub IsBelow : ℕ → Spelled → Type 0
IsBelow limit (SpelledRef p) = p < limit
IsBelow limit _ = Unit {0}

-- a value of the hand within its limits; a Ref points among the action's ids
abbrev pub IsPlaced : ℕ → ℕ → Spelled → Type 0
IsPlaced m limit (SpelledRef q) = (m ≤ q) × (q < limit)
IsPlaced m limit v = IsValue v

fair_if : (P : Spelled → Type 0) (waits b : Bool) (x y : Request Spelled) → IsFair P waits x → IsFair P waits y → IsFair P waits (if b then x else y)
fair_if P waits true x y p q = p
fair_if P waits false x y p q = q

bare_fair : (P : Spelled → Type 0) (waits : Bool) (code : ℕ) → IsFair P waits (asks_bare code)
bare_fair P waits code =
    fair_if P waits (code == 2) _ _ tt (fair_if P waits (code == 9) _ _ tt (fair_if P waits (code == 10) _ _ tt (fair_if P waits (code == 17) _ _ tt
    (fair_if P waits (code == 18) _ _ tt (fair_if P waits (code == 32) _ _ tt (fair_if P waits (code == 34) _ _ tt (fair_if P waits (code == 35) _ _ tt
    (fair_if P waits (code == 36) _ _ tt (fair_if P waits (code == 37) _ _ tt tt)))))))))

move_fair : (P : Spelled → Type 0) (waits : Bool) (z : ℤ) → IsFair P waits (asks_move z)
move_fair P waits (pos n) = fair_if P waits (nat_le n 63) _ _ tt tt
move_fair P waits (negsuc n) = tt

one_fair : (P : Spelled → Type 0) (waits : Bool) (code : ℕ) (l : Look) → IsFair P waits (asks_one code l)
one_fair P waits code (Int z) = fair_if P waits (code == 1) _ _ (move_fair P waits z) (fair_if P waits (code == 16) _ _ tt tt)
one_fair P waits code (Text t) = fair_if P waits (code == 5) _ _ tt (fair_if P waits (code == 7) _ _ tt (fair_if P waits (code == 8) _ _ tt tt))
one_fair P waits code Nothing = tt
one_fair P waits code (Flag b) = tt
one_fair P waits code (Ref r) = tt
one_fair P waits code (Fault c) = tt
one_fair P waits code (Ints zs) = tt

step_fair : (P : Spelled → Type 0) (waits : Bool) (z : ℤ) (l : Look) → IsFair P waits (asks_step z l)
step_fair P waits z (Int y) = tt
step_fair P waits z Nothing = tt
step_fair P waits z (Text t) = tt
step_fair P waits z (Flag b) = tt
step_fair P waits z (Ref r) = tt
step_fair P waits z (Fault c) = tt
step_fair P waits z (Ints zs) = tt

key_short : (key : List ℕ) → is_key key ≡ true → length key ≤ 32
key_short key e = leb-true (length key) 32 (and_parts (nat_le 1 (length key)) (nat_le (length key) 32) e).1

keyed_fair : (P : Spelled → Type 0) (waits b : Bool) (key : List ℕ) (v : Spelled) → is_key key ≡ b → P v → IsRef v → IsFair P waits (if b then Register key v else Other)
keyed_fair P waits true key v e h is = (key_short key e, h, is)
keyed_fair P waits false key v e h is = tt

register_fair : (P : Spelled → Type 0) (waits : Bool) (key : List ℕ) (v : Spelled) → P v → IsFair P waits (asks_register key v (spelled.look v))
register_fair P waits key (SpelledRef p) h = keyed_fair P waits (is_key key) key (SpelledRef p) refl h tt
register_fair P waits key SpelledUnit h = tt
register_fair P waits key (SpelledText t) h = tt
register_fair P waits key (SpelledFlag b) h = tt
register_fair P waits key (SpelledInt z) h = tt
register_fair P waits key (SpelledFault c) h = tt
register_fair P waits key (SpelledInts zs) h = tt

set_fair : (P : Spelled → Type 0) (waits : Bool) (z : ℤ) (v : Spelled) → P v → IsFair P waits (if waits then Other else Set z v)
set_fair P true z v h = tt
set_fair P false z v h = (h, refl)

two_fair : (P : Spelled → Type 0) (waits : Bool) (code : ℕ) (l : Look) (v : Spelled) → P v → IsFair P waits (asks_two spelled code waits l v)
two_fair P waits code (Int z) v h =
    fair_if P waits (code == 3) _ _ (set_fair P waits z v h) (fair_if P waits (code == 19) _ _ (step_fair P waits z (spelled.look v)) (fair_if P waits (code == 33) _ _ h tt))
two_fair P waits code (Text t) v h = fair_if P waits (code == 5) _ _ tt (fair_if P waits (code == 6) _ _ (register_fair P waits t v h) tt)
two_fair P waits code Nothing v h = tt
two_fair P waits code (Flag b) v h = tt
two_fair P waits code (Ref r) v h = tt
two_fair P waits code (Fault c) v h = tt
two_fair P waits code (Ints zs) v h = tt

many_fair : (P : Spelled → Type 0) (waits : Bool) (code : ℕ) (l : Look) (vs : List Spelled) → IsFair P waits (asks_many code l vs)
many_fair P waits code (Text t) vs = fair_if P waits (code == 5) _ _ tt tt
many_fair P waits code Nothing vs = tt
many_fair P waits code (Int z) vs = tt
many_fair P waits code (Flag b) vs = tt
many_fair P waits code (Ref r) vs = tt
many_fair P waits code (Fault c) vs = tt
many_fair P waits code (Ints zs) vs = tt

request_fair : (P Q : Spelled → Type 0) (waits : Bool) (code by : ℕ) (args : List Spelled) → ((v : Spelled) → Q v → P (shifted by v)) → AllByRecursion Q args
    → IsFair P waits (request_of spelled code waits (map (shifted by) args))
request_fair P Q waits code by [] f h = bare_fair P waits code
request_fair P Q waits code by (v ∷ []) f h = fair_if P waits (code == 33) _ _ (f v h.0) (one_fair P waits code (spelled.look (shifted by v)))
request_fair P Q waits code by (v ∷ u ∷ []) f h = two_fair P waits code (spelled.look (shifted by v)) (shifted by u) (f u h.1.0)
request_fair P Q waits code by (v ∷ u ∷ t ∷ args) f h = many_fair P waits code (spelled.look (shifted by v)) (map (shifted by) (u ∷ t ∷ args))

shifted_placed : (m limit : ℕ) (v : Spelled) → IsValue v × IsBelow limit v → IsPlaced m (m + limit) (shifted m v)
shifted_placed m limit SpelledUnit h = tt
shifted_placed m limit (SpelledFlag b) h = tt
shifted_placed m limit (SpelledInt z) h = tt
shifted_placed m limit (SpelledText bytes) h = h.0
shifted_placed m limit (SpelledRef p) h = let low = h.1 in (omega arith, omega arith)
shifted_placed m limit (SpelledFault c) h = h.0
shifted_placed m limit (SpelledInts zs) h = h.0

pub args_below : (n limit : ℕ) (vs : List Spelled) → AllByRecursion IsValue vs → IsCount n (refs_in vs) → n + length (refs_in vs) ≤ limit → AllByRecursion (λ v. IsValue v × IsBelow limit v) vs
args_below n limit [] h c low = tt
args_below n limit (SpelledUnit ∷ vs) h c low = ((tt, tt), args_below n limit vs h.1 c low)
args_below n limit (SpelledFlag b ∷ vs) h c low = ((tt, tt), args_below n limit vs h.1 c low)
args_below n limit (SpelledInt z ∷ vs) h c low = ((tt, tt), args_below n limit vs h.1 c low)
args_below n limit (SpelledText t ∷ vs) h c low = ((h.0, tt), args_below n limit vs h.1 c low)
args_below n limit (SpelledRef p ∷ vs) h c low = let here = c.0 in ((tt, omega arith), args_below (n + 1) limit vs h.1 c.1 (omega arith))
args_below n limit (SpelledFault f ∷ vs) h c low = ((h.0, tt), args_below n limit vs h.1 c low)
args_below n limit (SpelledInts zs ∷ vs) h c low = ((h.0, tt), args_below n limit vs h.1 c low)

-- what an action asks is fair
pub asked_fair : (s : State) (a : Act) → IsAct a → IsFair (IsPlaced (length s.ids) (length s.ids + length a.ids)) (has_cont a.cont) (request_in s a)
asked_fair s a act =
    let ids = act.ids in
    request_fair (IsPlaced (length s.ids) (length s.ids + length a.ids)) (λ v. IsValue v × IsBelow (length a.ids) v) (has_cont a.cont) a.code (length s.ids) a.args
    (shifted_placed (length s.ids) (length a.ids)) (args_below 1 (length a.ids) a.args act.values.each act.refs (omega arith))

-- an action without arguments of code 2 asks where
pub asks_where : (s : State) (a : Act) → a.code ≡ 2 → a.args ≡ [] → request_in s a ≡ Where
asks_where s a code args =
    ap (λ c. request_of spelled c (has_cont a.cont) (map (shifted (length s.ids)) a.args)) code
    ∙ ap (λ vs. request_of spelled 2 (has_cont a.cont) (map (shifted (length s.ids)) vs)) args

-- an action of code 1 with one number of at most 63 asks to move
pub asks_moving : (s : State) (a : Act) (t : ℕ) → a.code ≡ 1 → t < 64 → a.args ≡ SpelledInt (pos t) ∷ [] → request_in s a ≡ Move t
asks_moving s a t code low args =
    ap (λ c. request_of spelled c (has_cont a.cont) (map (shifted (length s.ids)) a.args)) code
    ∙ ap (λ vs. request_of spelled 1 (has_cont a.cont) (map (shifted (length s.ids)) vs)) args
    ∙ ap (λ (b : Bool). if b then Move t else Other) (le-leb t 63 (omega arith))
