-- Fibonacci numbers.
use Rattle.std.specs.Prelude.{ℕ, zero, suc, Bool, nat_lt, ◌+◌, ◌||◌}

-- each number is the sum of the two before
abbrev pub fibonacci : ℕ → ℕ
fibonacci zero = 0
fibonacci (suc zero) = 1
fibonacci (suc (suc n)) = fibonacci (suc n) + fibonacci n

-- a number that is computed in one action
abbrev pub is_direct : ℕ → ℕ → Bool
is_direct threshold n = nat_lt n threshold || nat_lt n 2
