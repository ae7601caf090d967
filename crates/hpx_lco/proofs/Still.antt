-- Calls that change nothing, and lists cut at a bound.
use Rattle.std.specs.Prelude.{ℕ, zero, suc, Bool, true, false, cond, nat_le, List, [], ◌∷◌, ◌++◌, ◌≤◌, ◌<◌, ◌≡◌, ◌≢◌, ◌==◌, length, take, drop, refl, if◌then◌else◌}
use Rattle.std.proofs.Common.{ap, sym, ◌∙◌, arith}
use Rattle.std.proofs.lemmas.Bool.{cond_both, eq-eqb, ne_eqb, leb-true, leb-false}
pub use Rattle.hpx_calls.proofs.Steps.{object, call, either, told_either, same_test, same_where, same_move}

-- one more behind a list that is cut
pub take_full : {X : Type 0} (k : ℕ) (xs : List X) (x : X) → k ≤ length xs → take k (xs ++ x ∷ []) ≡ take k xs
take_full zero xs x h = refl
take_full (suc k) [] x h = absurd (omega arith)
take_full (suc k) (y ∷ xs) x h = ap (λ rest. y ∷ rest) (take_full k xs x (omega arith))

pub take_room : {X : Type 0} (k : ℕ) (xs : List X) (x : X) → length xs < k → take k (xs ++ x ∷ []) ≡ take k xs ++ x ∷ []
take_room zero xs x h = absurd (omega arith)
take_room (suc zero) [] x h = refl
take_room (suc (suc k)) [] x h = refl
take_room (suc k) (y ∷ xs) x h = ap (λ rest. y ∷ rest) (take_room k xs x (omega arith))

pub length-take_full : {X : Type 0} (k : ℕ) (xs : List X) → k ≤ length xs → length (take k xs) ≡ k
length-take_full zero xs h = refl
length-take_full (suc k) [] h = absurd (omega arith)
length-take_full (suc k) (y ∷ xs) h = ap suc (length-take_full k xs (omega arith))

pub length-take_room : {X : Type 0} (k : ℕ) (xs : List X) → length xs < k → length (take k xs) ≡ length xs
length-take_room zero xs h = absurd (omega arith)
length-take_room (suc k) [] h = refl
length-take_room (suc k) (y ∷ xs) h = ap suc (length-take_room k xs (omega arith))

pub drop_all : {X : Type 0} (xs : List X) → drop (length xs) xs ≡ []
drop_all [] = refl
drop_all (x ∷ xs) = drop_all xs

pub take_all : {X : Type 0} (xs : List X) → take (length xs) xs ≡ xs
take_all [] = refl
take_all (x ∷ xs) = ap (λ rest. x ∷ rest) (take_all xs)

-- a cut list is as long as the bound exactly where the list is no shorter
pub is_full : {X : Type 0} (k : ℕ) (xs : List X) → (length (take k xs) == k) ≡ nat_le k (length xs)
is_full k xs =
    cond_both (nat_le k (length xs)) _ _ (λ b. (length (take k xs) == k) ≡ b) (λ e. eq-eqb _ _ (length-take_full k xs (leb-true k (length xs) e)))
    (λ e. ne_eqb _ _ (below e)) ∙ as_test (nat_le k (length xs))
  where
    below : nat_le k (length xs) ≡ false → length (take k xs) ≢ k
    below e f = let short : length xs < k = leb-false k (length xs) e in let same = length-take_room k xs short in absurd (omega arith)

    as_test : (b : Bool) → cond b true false ≡ b
    as_test true = refl
    as_test false = refl

-- where a test says which of two objects there is, the list may be cut after one more
pub joins_cut : {X : Type 0} (k : ℕ) (xs : List X) (x : X) → (if length (take k xs) == k then take k xs else take k xs ++ x ∷ []) ≡ take k (xs ++ x ∷ [])
joins_cut k xs x =
    ap (λ b. if b then take k xs else take k xs ++ x ∷ []) (is_full k xs)
    ∙ cond_both (nat_le k (length xs)) _ _ (λ ys. ys ≡ take k (xs ++ x ∷ [])) (λ e. sym (take_full k xs x (leb-true k (length xs) e)))
    (λ e. sym (take_room k xs x (leb-false k (length xs) e)))
