-- Counts by keys: each element counts at its key.
use Rattle.std.proofs.Common.{ℕ, zero, suc, Bool, true, false, cond, List, [], ◌∷◌, ◌≡◌, ◌≢◌, ◌+◌, ◌<◌, length, refl, arith, map}
use Rattle.std.specs.List.{count_by, slice_index_or, AllByRecursion}
use Rattle.std.proofs.lemmas.List.Sums.{sum_by-cons}
use Rattle.hpx_journal.specs.Bags.{total}
use Rattle.hpx_journal.proofs.Bags.{total-zero, total-change}

abbrev pub one_if : Bool → ℕ
one_if b = cond b 1 0

if_zero : (b : Bool) → ◌≡◌ {A = ℕ} (cond b 0 0) 0
if_zero true = refl
if_zero false = refl

one_more : (b t : Bool) (c d : ℕ) → d ≡ one_if t + c → cond b d 0 ≡ cond b c 0 + cond b (one_if t) 0
one_more true t c d h = omega arith
one_more false t c d h = omega arith

same_more : (b t : Bool) (c d : ℕ) → t ≡ false → d ≡ one_if t + c → cond b d 0 ≡ cond b c 0
same_more b true c d e h = cc
same_more true false c d e h = omega arith
same_more false false c d e h = omega arith

module _ {M : Type 0} (key : M → ℕ) (p : M → Bool) (q : ℕ → Bool) (at : ℕ → M → Bool)
    (hit : (m : M) → cond (q (key m)) (one_if (at (key m) m)) 0 ≡ one_if (p m)) (miss : (m : M) (i : ℕ) → key m ≢ i → at i m ≡ false) where
  abbrev at_key : List M → ℕ → ℕ
  at_key ms i = cond (q i) (count_by (at i) ms) 0

  pub by_keys : (n : ℕ) (ms : List M) → AllByRecursion (λ m. key m < n) ms → count_by p ms ≡ total n (at_key ms)
  by_keys n [] h = omega (arith, total-zero n (at_key []) (λ i j. if_zero (q i)))
  by_keys n (m ∷ ms) h =
      omega (
        arith,
        by_keys n ms h.1,
        hit m,
        sum_by-cons (λ x. one_if (p x)) m ms,
        one_more (q (key m)) (at (key m) m) (count_by (at (key m)) ms) (count_by (at (key m)) (m ∷ ms))
            (sum_by-cons (λ x. one_if (at (key m) x)) m ms),
        total-change n (at_key ms) (at_key (m ∷ ms)) (key m) h.0
            (λ i d. same_more (q i) (at i m) (count_by (at i) ms) (count_by (at i) (m ∷ ms)) (miss m i d) (sum_by-cons (λ x. one_if (at i x)) m ms)),
      )

total-shift : (n : ℕ) (f : ℕ → ℕ) → total (suc n) f ≡ f 0 + total n (λ i. f (suc i))
total-shift zero f = omega arith
total-shift (suc n) f = omega (arith, total-shift n f)

-- the elements of a list, by their places
pub by_places : {X : Type 0} (p : X → Bool) (d : X) (xs : List X)
    → total (length xs) (λ i. one_if (p (slice_index_or xs i d))) ≡ count_by p xs
by_places p d [] = refl
by_places p d (x ∷ xs) =
    omega (
      arith,
      by_places p d xs,
      total-shift (length xs) (λ i. one_if (p (slice_index_or (x ∷ xs) i d))),
      sum_by-cons (λ y. one_if (p y)) x xs,
    )

pub count-map : {X Y : Type 0} (p : Y → Bool) (f : X → Y) (xs : List X) → count_by p (map f xs) ≡ count_by (λ x. p (f x)) xs
count-map p f [] = refl
count-map p f (x ∷ xs) =
    omega (arith, count-map p f xs, sum_by-cons (λ y. one_if (p y)) (f x) (map f xs), sum_by-cons (λ y. one_if (p (f y))) x xs)
