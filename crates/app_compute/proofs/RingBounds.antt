-- The numbers of a ring are in their ranges.
use Rattle.std.specs.Prelude.{ℕ, true, nat_le, List, [], ◌∷◌, ◌≤◌, ◌+◌, ◌-◌, ◌*◌, ◌%◌, ◌==◌, ◌&&◌, Option, Some, None, IfSome, length, codes}
use Rattle.std.specs.List.{slice_split}
use Rattle.std.specs.Str.{bytes_eq}
use Rattle.std.proofs.Common.{arith}
use Rattle.std.proofs.lemmas.Bool.{and_parts, cond_both, leb-true}
use Rattle.hpx_calls.specs.Contents.{count_in}
use Rattle.app_compute.specs.Types.{Value, Flag, Int}
use Rattle.app_compute.specs.declared.shape.Shape.{Shape}
use Rattle.app_compute.specs.declared.ring.Part.{Part}
use Rattle.app_compute.specs.declared.ring.Ring.{Ring}
use Rattle.app_compute.specs.Lines.{is_digit, is_space, number_from, number_in}
use Rattle.app_compute.specs.Stencil.{parts_in, ring_by, ring_in, ring_sized, shape_by, shape_in, shape_of}
use Rattle.app_compute.proofs.Small.{count_below}

from_below : (most value : ℕ) (bs : List ℕ) → value ≤ most → IfSome (number_from most value bs) (λ k. k ≤ most)
from_below most value [] h = h
from_below most value (b ∷ bs) h =
    cond_both (is_digit b && nat_le (value * 10 + (b - 48)) most) _ _ (λ o. IfSome o (λ k. k ≤ most))
    (λ e. from_below most (value * 10 + (b - 48)) bs (leb-true (value * 10 + (b - 48)) most (and_parts (is_digit b) (nat_le (value * 10 + (b - 48)) most) e).1)) (λ e. tt)

in_below : (most : ℕ) (bs : List ℕ) → IfSome (number_in most bs) (λ k. k ≤ most)
in_below most [] = tt
in_below most (b ∷ bs) = from_below most 0 (b ∷ bs) (omega arith)

-- a ring that a line asks for
abbrev pub IsShape : Shape → Type 0
IsShape x = (1 ≤ x.parts) × (x.parts ≤ 32) × (x.points ≤ 1024)

by_bounds : (p q s : Option ℕ) → IfSome p (λ k. k ≤ 1024) → IfSome q (λ k. k ≤ 32) → IfSome (shape_by p q s) IsShape
by_bounds None q s points parts = tt
by_bounds (Some p) None s points parts = tt
by_bounds (Some p) (Some q) None points parts = tt
by_bounds (Some p) (Some q) (Some s) points parts =
    cond_both (nat_le 1 p && (nat_le 1 q && (p % q == 0))) _ _ (λ o. IfSome o IsShape)
    (λ e.
    let some = and_parts (nat_le 1 q) (p % q == 0) (and_parts (nat_le 1 p) (nat_le 1 q && (p % q == 0)) e).1 in
    (leb-true 1 q some.0, parts, points))
    (λ e. tt)

in_bounds : (words : List (List ℕ)) → IfSome (shape_in words) IsShape
in_bounds [] = tt
in_bounds (word ∷ []) = tt
in_bounds (word ∷ p ∷ []) = tt
in_bounds (word ∷ p ∷ q ∷ []) = tt
in_bounds (word ∷ p ∷ q ∷ s ∷ []) =
    cond_both (bytes_eq word (codes "stencil")) _ _ (λ o. IfSome o IsShape)
    (λ e. by_bounds (number_in 1024 p) (number_in 32 q) (number_in 1000 s) (in_below 1024 p) (in_below 32 q)) (λ e. tt)
in_bounds (word ∷ p ∷ q ∷ s ∷ w ∷ words) = tt

pub shape_bounds : (line : List ℕ) → IfSome (shape_of line) IsShape
shape_bounds line = in_bounds (slice_split is_space line)

-- a ring that a session keeps
abbrev pub IsRing : Ring → Type 0
IsRing x = (length x.parts ≤ 32) × (x.size ≤ 1024)

ring_by_bounds : (rows first size : ℕ) (parts : Option (List Part)) → size ≤ 1024 → IfSome (ring_by rows first size parts) IsRing
ring_by_bounds rows first size None h = tt
ring_by_bounds rows first size (Some parts) h =
    cond_both (nat_le (length parts) 32 && nat_le (size * length parts) 1024) _ _ (λ o. IfSome o IsRing)
    (λ e. (leb-true (length parts) 32 (and_parts (nat_le (length parts) 32) (nat_le (size * length parts) 1024) e).0, h)) (λ e. tt)

sized_bounds : (rows first size : Option ℕ) (vs : List Value) → IfSome size (λ k. k ≤ 1024) → IfSome (ring_sized rows first size vs) IsRing
sized_bounds None first size vs h = tt
sized_bounds (Some rows) None size vs h = tt
sized_bounds (Some rows) (Some first) None vs h = tt
sized_bounds (Some rows) (Some first) (Some size) vs h = ring_by_bounds rows first size (parts_in size vs) h

pub ring_bounds : (vs : List Value) → IfSome (ring_in vs) IsRing
ring_bounds (Flag true ∷ Int rows ∷ Int first ∷ Int size ∷ vs) = sized_bounds (count_in 1000 rows) (count_in 4294967295 first) (count_in 1024 size) vs (count_below 1024 size)
ring_bounds _ = tt
