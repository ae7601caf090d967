-- A step of a row, one number after the other.
use Rattle.std.specs.Prelude.{ℕ, zero, suc, ℤ, pos, negsuc, List, [], ◌∷◌, ◌++◌, ◌≡◌, ◌+ℤ◌, ◌-ℤ◌, ◌<ℤ◌, ◌/◌, refl}
use Rattle.std.proofs.Common.{ap, sym, ◌∙◌, append_assoc, arith, ◌≤ℤ◌, ◌<◌, ◌^◌, to_z, of_z, w64}
use lib.Signed.{mag}
use Rattle.std.proofs.lemmas.Int.{ints}
use Rattle.hpx_calls.specs.Tables.{half, stepped}
use Rattle.hpx_numbers.specs.Sort.{ahead}

stepped_more : (left x : ℤ) (xs : List ℤ) (right : ℤ) → stepped left (x ∷ xs) right ≡ half (left +ℤ ahead right xs) ∷ stepped x xs right
stepped_more left x [] right = refl
stepped_more left x (y ∷ xs) right = refl

-- one number more behind those that stand
pub stepped_on : (xs : List ℤ) (left x : ℤ) (others : List ℤ) (right : ℤ) → (xs ++ half (left +ℤ ahead right others) ∷ []) ++ stepped x others right ≡ xs ++ stepped left (x ∷ others) right
stepped_on xs left x others right = append_assoc xs (half (left +ℤ ahead right others) ∷ []) (stepped x others right) ∙ ap (λ ys. xs ++ ys) (sym (stepped_more left x others right))

minus : (m : ℕ) → negsuc 0 -ℤ pos m ≡ negsuc m
minus zero = refl
minus (suc m) = omega (arith, ints)

above : (m : ℕ) → negsuc 0 -ℤ negsuc m ≡ pos m
above m = omega (arith, ints)

-- half of a number below 0, by that of the number above
pub half_below : (z : ℤ) → z <ℤ pos 0 → negsuc 0 -ℤ half (negsuc 0 -ℤ z) ≡ half z
half_below (pos n) h = absurd (omega (arith, ints, h))
half_below (negsuc n) h = ap (λ z. negsuc 0 -ℤ half z) (above n) ∙ minus (n / 2)

-- as the code computes it
pub below_fits : (h : ℤ) → pos 0 ≤ℤ h → mag h < 2 ^ 63 → to_z w64 (of_z w64 (negsuc 0 -ℤ to_z w64 (of_z w64 h))) ≡ negsuc 0 -ℤ h
below_fits h low high = omega (arith, ints, low, high)
