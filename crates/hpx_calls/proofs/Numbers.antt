-- Numbers and answers, one more at the end.
use Rattle.std.specs.Prelude.{ℕ, zero, suc, [], ◌∷◌, ◌++◌, ◌≡◌, ◌+◌}
use Rattle.std.proofs.Common.{ap, ◌∙◌, arith, add-one}
use Rattle.hpx_value.specs.declared.value.Value.{Value}
use Rattle.hpx_calls.specs.Outcomes.{numbers, freed}

pub numbers-push : (n count : ℕ) → numbers n (suc count) ≡ numbers n count ++ (n + count) ∷ []
numbers-push n zero = ap (λ m. m ∷ []) (omega arith)
numbers-push n (suc count) =
    ap (λ rest. n ∷ rest) (numbers-push (n + 1) count ∙ ap (λ m. numbers (n + 1) count ++ m ∷ []) (omega arith))

pub freed-push : (v : Value) (n count : ℕ) → freed v n (suc count) ≡ freed v n count ++ record { cont = n + count; value = v } ∷ []
freed-push v n zero = ap (λ m. record { cont = m; value = v } ∷ []) (omega arith)
freed-push v n (suc count) =
    ap (λ rest. record { cont = n; value = v } ∷ rest)
    (freed-push v (n + 1) count ∙ ap (λ m. freed v (n + 1) count ++ record { cont = m; value = v } ∷ []) (omega arith))

pub numbers_more : (n i : ℕ) → numbers n (i + 1) ≡ numbers n i ++ (n + i) ∷ []
numbers_more n i = ap (numbers n) (add-one i) ∙ numbers-push n i

pub freed_more : (v : Value) (i : ℕ) → freed v 0 (i + 1) ≡ freed v 0 i ++ record { cont = i; value = v } ∷ []
freed_more v i = ap (freed v 0) (add-one i) ∙ freed-push v 0 i ∙ ap (λ m. freed v 0 i ++ record { cont = m; value = v } ∷ []) (omega arith)
