-- Facts of each number below a bound, one by one.
use Rattle.std.specs.Prelude.{ℕ, zero, suc, Bool, true, ◌≡◌, ◌<◌, ◌&&◌}
use Rattle.std.proofs.Common.{subst, arith, inl, inr}
use Rattle.std.proofs.lemmas.Bool.{and_parts, cases_lt}

-- a fact of each number below a bound
abbrev pub AllBelow : (ℕ → Type 0) → ℕ → Type 0
AllBelow P zero = Unit {0}
AllBelow P (suc n) = P n × AllBelow P n

pub below_each : (P : ℕ → Type 0) (n i : ℕ) → AllBelow P n → i < n → P i
below_each P zero i all low = absurd (omega arith)
below_each P (suc n) i all low =
    elim (cases_lt i n) [
      | inl l ↦ below_each P n i all.1 l
      | inr g ↦ subst P (let e : n ≡ i = omega arith in e) all.0
    ]

-- a test that passes at each
abbrev pub all_below : (ℕ → Bool) → ℕ → Bool
all_below f zero = true
all_below f (suc n) = f n && all_below f n

pub below_all : (f : ℕ → Bool) (n i : ℕ) → all_below f n ≡ true → i < n → f i ≡ true
below_all f zero i all low = absurd (omega arith)
below_all f (suc n) i all low =
    let parts = and_parts (f n) (all_below f n) all in
    elim (cases_lt i n) [
      | inl l ↦ below_all f n i parts.1 l
      | inr g ↦ subst (λ k. f k ≡ true) (let e : n ≡ i = omega arith in e) parts.0
    ]
