-- The digits of numbers below 100.
use Rattle.std.proofs.Common.{◌≡◌, ℕ, ◌+◌, ◌/◌, ◌%◌, ◌<◌, ◌≤◌, [], ◌∷◌, ◌++◌, ap, sym, ◌∙◌, arith}
use Rattle.std.proofs.lemmas.Fmt.{decimal_digit, decimal_step}
use Rattle.std.specs.Fmt.{decimal}

-- one digit
pub decimal_one : (n : ℕ) → n < 10 → (48 + n % 10) ∷ [] ≡ decimal n
decimal_one n h = ap (λ k. (48 + k) ∷ []) (omega arith) ∙ sym (decimal_digit n h)

-- two digits
pub decimal_two : (n : ℕ) → 10 ≤ n → n < 100 → (48 + n / 10) ∷ (48 + n % 10) ∷ [] ≡ decimal n
decimal_two n h k =
    sym (decimal_step n h (omega arith) ∙ ap (λ ds. ds ++ (48 + n % 10) ∷ []) (decimal_digit (n / 10) (omega arith)))
