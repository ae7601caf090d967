-- How one more pair or input is laid out after the others.
use Rattle.std.specs.Prelude.{pos, List, [], ◌∷◌, ◌++◌, ◌≡◌, refl}
use Rattle.std.proofs.Common.{ap}
use Rattle.hpx_calls.specs.Values.{Sort}
use Rattle.hpx_calls.specs.Contents.{Pair, Given, pairs_out, given_out}

-- two values more, one after the other
pub pairs_more : {V : Type 0} (k : Sort V) (xs : List (Pair V)) (x : Pair V)
    → pairs_out k (xs ++ x ∷ []) ≡ (pairs_out k xs ++ k.text x.key ∷ []) ++ x.to ∷ []
pairs_more k [] x = refl
pairs_more k (y ∷ xs) x = ap (λ rest. k.text y.key ∷ y.to ∷ rest) (pairs_more k xs x)

pub given_more : {V : Type 0} (k : Sort V) (xs : List (Given V)) (x : Given V)
    → given_out k (xs ++ x ∷ []) ≡ (given_out k xs ++ k.int (pos x.slot) ∷ []) ++ x.value ∷ []
given_more k [] x = refl
given_more k (y ∷ xs) x = ap (λ rest. k.int (pos y.slot) ∷ y.value ∷ rest) (given_more k xs x)
