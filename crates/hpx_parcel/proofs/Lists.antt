-- What holds of each element.
use Rattle.std.proofs.Common.{ℕ, suc, ◌<◌, List, [], ◌∷◌, get_or}
use Rattle.std.specs.List.{AllByRecursion}

pub each_below : (limit : ℕ) (xs : List ℕ) → ((i : ℕ) → get_or xs i 0 < limit) → AllByRecursion (λ b. b < limit) xs
each_below limit [] h = tt
each_below limit (x ∷ xs) h = (h 0, each_below limit xs (λ i. h (suc i)))
