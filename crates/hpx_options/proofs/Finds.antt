-- A search through a list, element by element.
use Rattle.std.proofs.Common.{◌≡◌, ℕ, ◌+◌, ◌<◌, Bool, true, false, cond, List, [], ◌∷◌, ◌++◌, length, take, drop, get_or, find, Option, Some, None, refl, ap, sym, ◌∙◌}
use Rattle.std.proofs.lemmas.Bool.{cond-true, cond-false}
use Rattle.std.proofs.lemmas.List.{take_more, drop_more, take-append-drop}

none_step : {X : Type 0} (b : Bool) (x : X) (o r s : Option X) → (o ≡ None → r ≡ s) → cond b (Some x) o ≡ None → cond b (Some x) r ≡ s
none_step true x o r s f h = absurd (cc)
none_step false x o r s f h = f h

-- where nothing is found among the first, the others decide
pub find-append : {X : Type 0} (test : X → Bool) (xs ys : List X) → find test xs ≡ None → find test (xs ++ ys) ≡ find test ys
find-append test [] ys h = refl
find-append test (x ∷ xs) ys h = none_step _ x _ _ _ (find-append test xs ys) h

-- one more that is not the one
pub find_none_more : {X : Type 0} (test : X → Bool) (xs : List X) (i : ℕ) (d : X) → i < length xs → find test (take i xs) ≡ None → test (get_or xs i d) ≡ false →
    find test (take (i + 1) xs) ≡ None
find_none_more test xs i d h none fails =
    rw (take_more xs i d h) (find-append test (take i xs) (get_or xs i d ∷ []) none ∙ cond-false _ _ _ fails)

-- the one behind those that are not
pub find_some : {X : Type 0} (test : X → Bool) (xs : List X) (i : ℕ) (d : X) → i < length xs → find test (take i xs) ≡ None → test (get_or xs i d) ≡ true →
    find test xs ≡ Some (get_or xs i d)
find_some test xs i d h none holds =
    let parts : xs ≡ take i xs ++ (get_or xs i d ∷ drop (i + 1) xs) =
    sym (take-append-drop i xs) ∙ ap (λ ys. take i xs ++ ys) (drop_more xs i d h) in
    ap (find test) parts ∙ find-append test (take i xs) _ none ∙ cond-true _ _ _ holds
