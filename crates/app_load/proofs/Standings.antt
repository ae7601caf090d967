-- Lists of what stands, where one of them changes.
use Rattle.std.specs.Prelude.{ℕ, zero, suc, Bool, true, false, List, [], ◌∷◌, ◌≡◌, ◌+◌, ◌≤◌, ◌<◌, length, set, get_or, if◌then◌else◌}
use Rattle.std.proofs.Common.{arith}

abbrev pub one_if : Bool → ℕ
one_if b = if b then 1 else 0

-- how many stand
abbrev pub trues : List Bool → ℕ
trues [] = 0
trues (b ∷ xs) = if b then suc (trues xs) else trues xs

pub trues_few : (xs : List Bool) → trues xs ≤ length xs
trues_few [] = omega arith
trues_few (true ∷ xs) = let more = trues_few xs in omega arith
trues_few (false ∷ xs) = let more = trues_few xs in omega arith

-- one more
pub trues_more : (xs : List Bool) (j : ℕ) → j < length xs → get_or xs j false ≡ false → trues (set xs j true) ≡ trues xs + 1
trues_more [] j low e = absurd (omega arith)
trues_more (true ∷ xs) zero low e = cc
trues_more (false ∷ xs) zero low e = omega arith
trues_more (true ∷ xs) (suc j) low e = let more = trues_more xs j (omega arith) e in omega arith
trues_more (false ∷ xs) (suc j) low e = trues_more xs j (omega arith) e

-- one less
pub trues_less : (xs : List Bool) (j : ℕ) → j < length xs → get_or xs j false ≡ true → trues (set xs j false) + 1 ≡ trues xs
trues_less [] j low e = absurd (omega arith)
trues_less (true ∷ xs) zero low e = omega arith
trues_less (false ∷ xs) zero low e = cc
trues_less (true ∷ xs) (suc j) low e = let less = trues_less xs j (omega arith) e in omega arith
trues_less (false ∷ xs) (suc j) low e = trues_less xs j (omega arith) e
