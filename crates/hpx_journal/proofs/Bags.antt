-- Sums over bags.
use Rattle.std.proofs.Common.{ℕ, zero, suc, Bool, true, false, cond, List, [], ◌∷◌, ◌≡◌, ◌+◌, ◌<◌, ◌≤◌, Option, Some, None, refl, arith, inl, inr, ◌≢◌}
use Rattle.std.specs.List.{list_any, find, sum_by, count_by}
use Rattle.std.specs.Prelude.{◌||◌}
use Rattle.std.proofs.lemmas.List.Sums.{sum_by-cons}
use Rattle.std.proofs.lemmas.Bool.{cases_lt, cases_eq}
use Rattle.hpx_journal.specs.Bags.{without, minus, Covers, total}

module _ {X : Type 0} (f : X → ℕ) (p : X → Bool) (c : ℕ) (agree : (x : X) → p x ≡ true → f x ≡ c) where
  sum_by-without_at : (b : Bool) (x : X) (xs : List X) → p x ≡ b
      → (list_any p xs ≡ true → sum_by f (without p xs) + c ≡ sum_by f xs)
      → (b || list_any p xs) ≡ true → sum_by f (cond b xs (x ∷ without p xs)) + c ≡ sum_by f (x ∷ xs)
  sum_by-without_at true x xs e ih h = rw (sum_by-cons, agree x e) (omega arith)
  sum_by-without_at false x xs e ih h = omega (arith, ih h, sum_by-cons f x (without p xs), sum_by-cons f x xs)

  pub sum_by-without : (xs : List X) → list_any p xs ≡ true → sum_by f (without p xs) + c ≡ sum_by f xs
  sum_by-without [] h = cc
  sum_by-without (x ∷ xs) h = sum_by-without_at (p x) x xs refl (sum_by-without xs) h

module _ {K X : Type 0} (f : X → ℕ) (g : K → ℕ) (test : K → X → Bool) (agree : (k : K) (x : X) → test k x ≡ true → f x ≡ g k) where
  pub sum_by-minus : (xs : List X) (ks : List K) → Covers test xs ks → sum_by f (minus test xs ks) + sum_by g ks ≡ sum_by f xs
  sum_by-minus xs [] h = omega arith
  sum_by-minus xs (k ∷ ks) h =
      rw sum_by-cons (omega (arith, sum_by-without f (test k) (g k) (agree k) xs h.0, sum_by-minus (without (test k) xs) ks h.1))

-- what is found is there
list_any-find_at : {X : Type 0} (p : X → Bool) (b : Bool) (y : X) (ys : List X) (x : X)
    → (find p ys ≡ Some x → list_any p ys ≡ true) → cond b (Some y) (find p ys) ≡ Some x → (b || list_any p ys) ≡ true
list_any-find_at p true y ys x ih h = refl
list_any-find_at p false y ys x ih h = ih h

pub list_any-find : {X : Type 0} (p : X → Bool) (xs : List X) (x : X) → find p xs ≡ Some x → list_any p xs ≡ true
list_any-find p [] x h = cc
list_any-find p (y ∷ ys) x h = list_any-find_at p (p y) y ys x (list_any-find p ys x) h

find-passes_at : {X : Type 0} (p : X → Bool) (b : Bool) (y : X) (ys : List X) (x : X) → p y ≡ b
    → (find p ys ≡ Some x → p x ≡ true) → cond b (Some y) (find p ys) ≡ Some x → p x ≡ true
find-passes_at p true y ys x e ih h = cc
find-passes_at p false y ys x e ih h = ih h

pub find-passes : {X : Type 0} (p : X → Bool) (xs : List X) (x : X) → find p xs ≡ Some x → p x ≡ true
find-passes p [] x h = cc
find-passes p (y ∷ ys) x h = find-passes_at p (p y) y ys x refl (find-passes p ys x) h

sum_by-without-find_at : {X : Type 0} (f : X → ℕ) (p : X → Bool) (b : Bool) (y : X) (ys : List X) (x : X)
    → (find p ys ≡ Some x → sum_by f (without p ys) + f x ≡ sum_by f ys)
    → cond b (Some y) (find p ys) ≡ Some x → sum_by f (cond b ys (y ∷ without p ys)) + f x ≡ sum_by f (y ∷ ys)
sum_by-without-find_at f p true y ys x ih h = let e : y ≡ x = cc in rw (sum_by-cons, e) (omega arith)
sum_by-without-find_at f p false y ys x ih h = rw (sum_by-cons f y (without p ys), sum_by-cons f y ys) (omega (arith, ih h))

-- the element that is found is the one that is taken
pub sum_by-without-find : {X : Type 0} (f : X → ℕ) (p : X → Bool) (xs : List X) (x : X) → find p xs ≡ Some x
    → sum_by f (without p xs) + f x ≡ sum_by f xs
sum_by-without-find f p [] x h = cc
sum_by-without-find f p (y ∷ ys) x h = sum_by-without-find_at f p (p y) y ys x (sum_by-without-find f p ys x) h

-- what p finds stays where q takes nothing that passes p
find-without_at : {X : Type 0} (p q : X → Bool) (b : Bool) (y : X) (ys : List X) → (b ≡ true → p y ≡ false)
    → find p (without q ys) ≡ find p ys → find p (cond b ys (y ∷ without q ys)) ≡ cond (p y) (Some y) (find p ys)
find-without_at p q true y ys apart ih = rw (apart refl) refl
find-without_at p q false y ys apart ih = rw ih refl

pub find-without : {X : Type 0} (p q : X → Bool) (xs : List X) → ((x : X) → q x ≡ true → p x ≡ false)
    → find p (without q xs) ≡ find p xs
find-without p q [] apart = refl
find-without p q (y ∷ ys) apart = find-without_at p q (q y) y ys (apart y) (find-without p q ys apart)

find-none_at : {X : Type 0} (p : X → Bool) (b : Bool) (y : X) (ys : List X)
    → (list_any p ys ≡ false → find p ys ≡ None) → (b || list_any p ys) ≡ false → cond b (Some y) (find p ys) ≡ None
find-none_at p true y ys ih h = cc
find-none_at p false y ys ih h = ih h

pub find-none : {X : Type 0} (p : X → Bool) (xs : List X) → list_any p xs ≡ false → find p xs ≡ None
find-none p [] h = refl
find-none p (y ∷ ys) h = find-none_at p (p y) y ys (find-none p ys) h

abbrev counts_of : {X : Type 0} → (X → Bool) → X → ℕ
counts_of p x = cond (p x) 1 0

find-nothing_at : {X : Type 0} (p : X → Bool) (b : Bool) (x : X) (xs : List X) → p x ≡ b
    → (count_by p xs ≡ 0 → find p xs ≡ None) → count_by p (x ∷ xs) ≡ 0 → cond b (Some x) (find p xs) ≡ None
find-nothing_at p true x xs e ih h = let one : counts_of p x ≡ 1 = rw e refl in absurd (omega (arith, sum_by-cons (counts_of p) x xs))
find-nothing_at p false x xs e ih h = ih (omega (arith, sum_by-cons (counts_of p) x xs))

-- where nothing counts nothing is found
pub find-nothing : {X : Type 0} (p : X → Bool) (xs : List X) → count_by p xs ≡ 0 → find p xs ≡ None
find-nothing p [] h = refl
find-nothing p (x ∷ xs) h = find-nothing_at p (p x) x xs refl (find-nothing p xs) h

find-same_at : {X : Type 0} (b c : Bool) (x : X) (m n : Option X) → b ≡ c → m ≡ n → cond b (Some x) m ≡ cond c (Some x) n
find-same_at b c x m n e f = cc

-- tests that agree find the same
pub find-same : {X : Type 0} (p q : X → Bool) → ((x : X) → p x ≡ q x) → (xs : List X) → find p xs ≡ find q xs
find-same p q h [] = refl
find-same p q h (x ∷ xs) = find-same_at (p x) (q x) x (find p xs) (find q xs) (h x) (find-same p q h xs)

-- ---- sums below n

pub total-same : (n : ℕ) (f g : ℕ → ℕ) → ((k : ℕ) → k < n → f k ≡ g k) → total n f ≡ total n g
total-same zero f g h = refl
total-same (suc n) f g h = omega (arith, h n (omega arith), total-same n f g (λ k i. h k (omega arith)))

pub total-zero : (n : ℕ) (f : ℕ → ℕ) → ((k : ℕ) → k < n → f k ≡ 0) → total n f ≡ 0
total-zero zero f h = refl
total-zero (suc n) f h = omega (arith, h n (omega arith), total-zero n f (λ k i. h k (omega arith)))

pub total-term : (n : ℕ) (f : ℕ → ℕ) (k : ℕ) → k < n → f k ≤ total n f
total-term zero f k h = omega arith
total-term (suc n) f k h = elim (cases_lt k n) [ inl i ↦ omega (arith, total-term n f k i) | inr i ↦ rw (let e : k ≡ n = omega arith in e) (omega arith) ]

-- only one place changes
pub total-change : (n : ℕ) (f g : ℕ → ℕ) (k : ℕ) → k < n → ((j : ℕ) → k ≢ j → g j ≡ f j) → total n g + f k ≡ total n f + g k
total-change zero f g k h same = omega arith
total-change (suc n) f g k h same =
    elim (cases_lt k n) [
      | inl i ↦ omega (arith, total-change n f g k i same, same n (omega arith))
      | inr i ↦
          let e : k ≡ n = omega arith in
          rw e (omega (arith, total-same n g f (λ j l. same j (omega arith))))
    ]

-- only one place has anything
pub total-single : (n : ℕ) (f : ℕ → ℕ) (j : ℕ) → ((k : ℕ) → k ≢ j → f k ≡ 0) → total n f ≤ f j
total-single zero f j h = omega arith
total-single (suc n) f j h =
    elim (cases_eq n j) [
      | inl e ↦ rw e (omega (arith, total-zero j f (λ k i. h k (omega arith))))
      | inr d ↦ omega (arith, h n d, total-single n f j h)
    ]

pub total-le : (n : ℕ) (f g : ℕ → ℕ) → ((k : ℕ) → k < n → f k ≤ g k) → total n f ≤ total n g
total-le zero f g h = omega arith
total-le (suc n) f g h = omega (arith, h n (omega arith), total-le n f g (λ k i. h k (omega arith)))

pub total-add : (n : ℕ) (f g : ℕ → ℕ) → total n (λ k. f k + g k) ≡ total n f + total n g
total-add zero f g = refl
total-add (suc n) f g = omega (arith, total-add n f g)
