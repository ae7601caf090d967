-- Lists read from their front, one after the other.
use Rattle.std.specs.Prelude.{ℕ, Bool, List, [], ◌∷◌, ◌++◌, ◌≡◌, ◌-◌, ◌≤◌, Option, Some, None, Result, Ok, Err, IfOk, length, map, drop, take}
use Rattle.std.proofs.Common.{ap, sym, subst, ◌∙◌, arith, get_or}
use Rattle.std.proofs.lemmas.List.{take_rest}
use Rattle.hpx_value.specs.declared.value.Value.{Value}
use Rattle.hpx_calls.specs.Values.{spelled, shifted}
use Rattle.hpx_calls.specs.Requests.{Request, request_of, asks_many}

-- three arguments or more, the first of which is named
pub many_asked : (code by : ℕ) (waits : Bool) (args : List Value) (first : Value) → 3 ≤ length args → first ≡ get_or args 0 first
    → request_of spelled code waits (map (shifted by) args) ≡ asks_many code (spelled.look (shifted by first)) (map (shifted by) (drop 1 args))
many_asked code by waits [] first h e = absurd (omega arith)
many_asked code by waits (a ∷ []) first h e = absurd (omega arith)
many_asked code by waits (a ∷ b ∷ []) first h e = absurd (omega arith)
many_asked code by waits (a ∷ b ∷ d ∷ args) first h e = ap (λ v. asks_many code (spelled.look (shifted by v)) (map (shifted by) (b ∷ d ∷ args))) (sym e)

-- what stands before, in front of what is read
abbrev pub after : {X : Type 0} → List X → Option (List X) → Option (List X)
after xs None = None
after xs (Some ys) = Some (xs ++ ys)

-- what an `Ok` holds is another thing that is equal
pub ok_is : {A E : Type 0} (r : Result A E) (x y : A) → x ≡ y → IfOk r (λ q. q ≡ y) → IfOk r (λ q. q ≡ x)
ok_is (Ok a) x y e h = h ∙ sym e
ok_is (Err z) x y e h = h

-- the same of equal lists, in an answer
pub many_told : (code by m : ℕ) (waits : Bool) (all args slice : List Value) (first : Value) {E : Type 0} (r : Result (Request Value) E)
    → by ≡ m → args ≡ all → slice ≡ all → 3 ≤ length args → first ≡ get_or args 0 first
    → IfOk r (λ q. q ≡ asks_many code (spelled.look (shifted by first)) (map (shifted by) (take (length slice - 1) (drop 1 slice))))
    → IfOk r (λ q. q ≡ request_of spelled code waits (map (shifted m) all))
many_told code by m waits all args slice first r e p q h g told =
    ok_is r _ _ (ap (λ n. request_of spelled code waits (map (shifted n) all)) (sym e) ∙ ap (λ vs. request_of spelled code waits (map (shifted by) vs)) (sym p)
    ∙ many_asked code by waits args first h g ∙ ap (λ vs. asks_many code (spelled.look (shifted by first)) (map (shifted by) (drop 1 vs))) (p ∙ sym q)
    ∙ ap (λ vs. asks_many code (spelled.look (shifted by first)) (map (shifted by) vs)) (sym (take_rest slice 1))) told

-- what holds of a value holds of the `Ok` that is it
pub ok_holds : {A E : Type 0} (P : A → Type 0) (r : Result A E) (x : A) → P x → IfOk r (λ q. q ≡ x) → IfOk r P
ok_holds P (Ok a) x p h = subst P (sym h) p
ok_holds P (Err z) x p h = h
