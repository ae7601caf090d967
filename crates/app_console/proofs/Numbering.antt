-- Continuations that keep their numbers, and the locality of the tally.
use Rattle.std.proofs.Common.{◌≡◌, ◌≢◌, ℕ, zero, suc, ◌+◌, ◌%◌, ◌<◌, List, [], ◌∷◌, ◌++◌, length, take, get_or, refl, sym, ap, ◌∙◌, arith, ◌≤◌}
use Rattle.std.proofs.lemmas.List.{take_more, length-take-le}
use Rattle.std.proofs.Math.Nat.{mod-eq_of_lt}
use Rattle.hpx_value.specs.Kept.{numbers}
use Rattle.hpx_value.proofs.Kept.{numbers-append}

-- the next of a list from its start
pub numbers-take : {X : Type 0} (i : ℕ) (xs : List X) (d : X) → i < length xs → numbers 0 (take (i + 1) xs) ≡ numbers 0 (take i xs) ++ i ∷ []
numbers-take i xs d h =
    let short : i ≤ length xs = omega arith in
    let counted : length (take i xs) ≡ i = length-take-le i xs short in
    ap (numbers 0) (take_more xs i d h) ∙ numbers-append 0 (take i xs) (get_or xs i d)
    ∙ ap (λ m. numbers 0 (take i xs) ++ m ∷ []) (omega arith)

-- locality 1, or 0 where there is no other
pub one_mod : (n : ℕ) → n ≢ 1 → 1 ≡ 1 % n
one_mod zero h = refl
one_mod (suc zero) h = absurd (h refl)
one_mod (suc (suc n)) h = sym (mod-eq_of_lt (omega arith))
