-- What follows where each continuation of the hand is used exactly once.
use Rattle.std.proofs.Common.{ℕ, zero, suc, Bool, true, false, cond, nat_lt, List, [], ◌∷◌, ◌≡◌, ◌+◌, ◌<◌, ◌≤◌, ◌==◌, length, refl, ap, arith}
use Rattle.std.specs.List.{AllByRecursion, count_by}
use Rattle.std.proofs.lemmas.Bool.{eq-eqb, eqb-false, ltb-true, ltb-false, lt-ltb, le-ltb}
use Rattle.std.proofs.lemmas.List.Sums.{sum_by-cons}
use Rattle.hpx_value.specs.Laws.{UsesEachOnce}

abbrev pub one_if : Bool → ℕ
one_if b = cond b 1 0

pub count-cons : (p : ℕ → Bool) (x : ℕ) (xs : List ℕ) → count_by p (x ∷ xs) ≡ one_if (p x) + count_by p xs
count-cons p x xs = sum_by-cons (λ j. one_if (p j)) x xs

one_most : (b : Bool) → one_if b ≤ 1
one_most true = omega arith
one_most false = omega arith

some_below : (b : Bool) (x n : ℕ) → nat_lt x n ≡ b → 1 ≤ one_if b → x < n
some_below true x n e h = ltb-true x n e
some_below false x n e h = absurd (omega arith)

below_each : (n : ℕ) (xs all : List ℕ) → UsesEachOnce n all
    → ((i : ℕ) → count_by (λ j. j == i) xs ≤ count_by (λ j. j == i) all) → AllByRecursion (λ i. i < n) xs
below_each n [] all h part = tt
below_each n (x ∷ xs) all h part =
    let here : one_if (x == x) ≡ 1 = ap one_if (eq-eqb x x refl) in
    let split : count_by (λ j. j == x) (x ∷ xs) ≡ one_if (x == x) + count_by (λ j. j == x) xs = count-cons (λ j. j == x) x xs in
    let within : count_by (λ j. j == x) (x ∷ xs) ≤ count_by (λ j. j == x) all = part x in
    let once : count_by (λ j. j == x) all ≡ one_if (nat_lt x n) = h x in
    let some : 1 ≤ one_if (nat_lt x n) = omega arith in
    (some_below (nat_lt x n) x n refl some, below_each n xs all h (rest x xs all part))
  where
    rest : (x : ℕ) (xs all : List ℕ) → ((i : ℕ) → count_by (λ j. j == i) (x ∷ xs) ≤ count_by (λ j. j == i) all)
        → (i : ℕ) → count_by (λ j. j == i) xs ≤ count_by (λ j. j == i) all
    rest x xs all part i =
        let split : count_by (λ j. j == i) (x ∷ xs) ≡ one_if (x == i) + count_by (λ j. j == i) xs = count-cons (λ j. j == i) x xs in
        let within : count_by (λ j. j == i) (x ∷ xs) ≤ count_by (λ j. j == i) all = part i in
        omega arith

-- every number that is used is one of the hand's
pub used_below : (n : ℕ) (all : List ℕ) → UsesEachOnce n all → AllByRecursion (λ i. i < n) all
used_below n all h = below_each n all all h (λ i. omega arith)

one_more : (b c d : Bool) (x n : ℕ) → nat_lt x (n + 1) ≡ b → nat_lt x n ≡ c → (x == n) ≡ d → one_if b ≤ one_if c + one_if d
one_more false c d x n e f g = omega arith
one_more true true d x n e f g = omega arith
one_more true false true x n e f g = omega arith
one_more true false false x n e f g =
    let low : x < n + 1 = ltb-true x (n + 1) e in
    let high : n ≤ x = ltb-false x n f in
    absurd (eqb-false x n g (omega arith))

count_next : (n : ℕ) (xs : List ℕ)
    → count_by (λ j. nat_lt j (n + 1)) xs ≤ count_by (λ j. nat_lt j n) xs + count_by (λ j. j == n) xs
count_next n [] = omega arith
count_next n (x ∷ xs) =
    let this = one_more (nat_lt x (n + 1)) (nat_lt x n) (x == n) x n refl refl refl in
    let rest = count_next n xs in
    let a = count-cons (λ j. nat_lt j (n + 1)) x xs in
    let b = count-cons (λ j. nat_lt j n) x xs in
    let c = count-cons (λ j. j == n) x xs in
    omega arith

count_zero : (xs : List ℕ) → count_by (λ j. nat_lt j 0) xs ≡ 0
count_zero [] = refl
count_zero (x ∷ xs) =
    let none : one_if (nat_lt x 0) ≡ 0 = ap one_if (le-ltb x 0 (omega arith)) in
    omega (arith, count-cons (λ j. nat_lt j 0) x xs, count_zero xs)

count_most : (n : ℕ) (xs : List ℕ) → ((i : ℕ) → count_by (λ j. j == i) xs ≤ 1) → count_by (λ j. nat_lt j n) xs ≤ n
count_most zero xs h = omega (arith, count_zero xs)
count_most (suc n) xs h =
    let e : count_by (λ j. nat_lt j (suc n)) xs ≡ count_by (λ j. nat_lt j (n + 1)) xs = ap (λ m. count_by (λ j. nat_lt j m) xs) (omega arith) in
    omega (arith, count_next n xs, count_most n xs h, h n)

count_all : (n : ℕ) (xs : List ℕ) → AllByRecursion (λ i. i < n) xs → count_by (λ j. nat_lt j n) xs ≡ length xs
count_all n [] h = refl
count_all n (x ∷ xs) h =
    let this : one_if (nat_lt x n) ≡ 1 = ap one_if (lt-ltb x n h.0) in
    omega (arith, count-cons (λ j. nat_lt j n) x xs, count_all n xs h.1)

-- no more are used than there are
pub used_few : (n : ℕ) (all : List ℕ) → UsesEachOnce n all → length all ≤ n
used_few n all h =
    let whole : count_by (λ j. nat_lt j n) all ≡ length all = count_all n all (used_below n all h) in
    let most : count_by (λ j. nat_lt j n) all ≤ n = count_most n all (λ i. rw (h i) (one_most (nat_lt i n))) in
    omega arith
