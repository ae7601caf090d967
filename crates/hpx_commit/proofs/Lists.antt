-- Lists and answers of any kind.
use Rattle.std.proofs.Common.{ℕ, min, zero, suc, Bool, true, false, List, [], ◌∷◌, ◌≡◌, ◌+◌, ◌<◌, Some, None, set, take, length, refl, ap, ◌∙◌, arith, inl, inr, subst}
use Rattle.std.specs.Prelude.{Result, Ok, Err, IfOk, OnOk}
use Rattle.std.specs.List.{AllByRecursion, find, list_any, remove, slice_get, sum_by}
use Rattle.std.specs.Result.{is_err}
use Rattle.std.proofs.lemmas.Bool.{cases_Bool}
use Rattle.std.proofs.lemmas.List.Sums.{sum_by-cons}

-- ---- what passes

one : {X : Type 0} (x y : X) → Some x ≡ Some y → x ≡ y
one x y e = cc

pub any_at : {X : Type 0} (p : X → Bool) (xs : List X) (i : ℕ) (x : X) → slice_get xs i ≡ Some x → p x ≡ true → list_any p xs ≡ true
any_at p [] i x h t = cc
any_at p (y ∷ xs) zero x h t = let e : p y ≡ true = ap p (one y x h) ∙ t in rw e refl
any_at p (y ∷ xs) (suc i) x h t = elim (cases_Bool (p y)) [
  | inl a ↦ rw a refl
  | inr f ↦ rw f (any_at p xs i x h t)
]

pub find_at : {X : Type 0} (p : X → Bool) (xs : List X) (i : ℕ) (x : X) → slice_get xs i ≡ Some x → p x ≡ true → find p (take i xs) ≡ None → find p xs ≡ Some x
find_at p [] i x h t none = cc
find_at p (z ∷ xs) zero x h t none = let e : p z ≡ true = ap p (one z x h) ∙ t in rw e h
find_at p (z ∷ xs) (suc i) x h t none = elim (cases_Bool (p z)) [
  | inl e ↦ absurd (let f : Some z ≡ None = rw e at none in cc)
  | inr e ↦ rw e (find_at p xs i x h t (rw e at none))
]

-- the first that passes is at one place
pub first_same : {X : Type 0} (p : X → Bool) (xs : List X) (i k : ℕ) (x y : X) → slice_get xs i ≡ Some x → slice_get xs k ≡ Some y → p x ≡ true → p y ≡ true
    → find p (take i xs) ≡ None → find p (take k xs) ≡ None → i ≡ k
first_same p [] i k x y h g s t a b = cc
first_same p (z ∷ xs) zero zero x y h g s t a b = refl
first_same p (z ∷ xs) zero (suc k) x y h g s t a b =
    let e : p z ≡ true = ap p (one z x h) ∙ s in absurd (let f : Some z ≡ None = rw e at b in cc)
first_same p (z ∷ xs) (suc i) zero x y h g s t a b =
    let e : p z ≡ true = ap p (one z y g) ∙ t in absurd (let f : Some z ≡ None = rw e at a in cc)
first_same p (z ∷ xs) (suc i) (suc k) x y h g s t a b = elim (cases_Bool (p z)) [
  | inl e ↦ absurd (let f : Some z ≡ None = rw e at a in cc)
  | inr e ↦ ap suc (first_same p xs i k x y h g s t (rw e at a) (rw e at b))
]

-- what passes is found at a place
pub record Found {X : Type 0} (p : X → Bool) (xs : List X) : Type 0 where
  pub k : ℕ
  pub x : X
  pub there : slice_get xs k ≡ Some x
  pub passes : p x ≡ true
  pub found : find p xs ≡ Some x

pub any_place : {X : Type 0} (p : X → Bool) (xs : List X) → list_any p xs ≡ true → Found p xs
any_place p [] h = absurd (cc)
any_place p (x ∷ xs) h = elim (cases_Bool (p x)) [
  | inl t ↦ record { k = 0; x = x; there = refl; passes = t; found = rw t refl }
  | inr f ↦ let rest = any_place p xs (rw f at h) in record { k = suc rest.k; x = rest.x; there = rest.there; passes = rest.passes; found = rw f rest.found }
]

pub all_imp : {X : Type 0} (P Q : X → Type 0) → ((x : X) → P x → Q x) → (xs : List X) → AllByRecursion P xs → AllByRecursion Q xs
all_imp P Q f [] h = tt
all_imp P Q f (x ∷ xs) h = (f x h.0, all_imp P Q f xs h.1)

pub all_found : {X : Type 0} (P : X → Type 0) (p : X → Bool) (xs : List X) (x : X) → AllByRecursion P xs → find p xs ≡ Some x → P x
all_found P p [] x all h = cc
all_found P p (y ∷ xs) x all h = elim (cases_Bool (p y)) [
  | inl t ↦ let e : Some y ≡ Some x = rw t at h in subst P (one y x e) all.0
  | inr f ↦ all_found P p xs x all.1 (rw f at h)
]

-- ---- what stands at a place

pub get_some : {X : Type 0} (xs : List X) (k : ℕ) → k < length xs → (x : X) × (slice_get xs k ≡ Some x)
get_some [] k h = absurd (omega (arith, h))
get_some (x ∷ xs) zero h = (x, refl)
get_some (x ∷ xs) (suc k) h = get_some xs k (omega (arith, h))

pub get_set : {X : Type 0} (xs : List X) (i : ℕ) (x : X) → i < length xs → slice_get (set xs i x) i ≡ Some x
get_set [] i x lt = absurd (omega (arith, lt))
get_set (y ∷ xs) zero x lt = refl
get_set (y ∷ xs) (suc i) x lt = get_set xs i x (omega (arith, lt))

pub remove_set : {X : Type 0} (xs : List X) (i : ℕ) (x : X) → remove (set xs i x) i ≡ remove xs i
remove_set [] i x = refl
remove_set (y ∷ xs) zero x = refl
remove_set (y ∷ xs) (suc i) x = ap (λ ys. y ∷ ys) (remove_set xs i x)

pub less_long : {X : Type 0} (xs : List X) (i : ℕ) (x : X) → slice_get xs i ≡ Some x → length (remove xs i) + 1 ≡ length xs
less_long [] i x h = cc
less_long (y ∷ xs) zero x h = omega arith
less_long (y ∷ xs) (suc i) x h = omega (arith, less_long xs i x h)

pub none_long : {X : Type 0} (xs : List X) → length xs ≡ 0 → xs ≡ []
none_long [] h = refl
none_long (x ∷ xs) h = absurd (omega (arith, h))

-- ---- sums of what each tells

pub sums_two : {X : Type 0} (f g h k : X → ℕ) → ((x : X) → f x + g x ≡ h x + k x) → (xs : List X) → sum_by f xs + sum_by g xs ≡ sum_by h xs + sum_by k xs
sums_two f g h k e [] = refl
sums_two f g h k e (x ∷ xs) =
    omega (arith, e x, sum_by-cons f x xs, sum_by-cons g x xs, sum_by-cons h x xs, sum_by-cons k x xs, sums_two f g h k e xs)

-- ---- sums up to a cap

capped : (cap a b : ℕ) → min cap (min cap a + min cap b) ≡ min cap (a + b)
capped cap a b = omega arith

pub capped_sum : (cap a b c d e h s1 s2 s3 s4 s5 : ℕ) → s1 ≡ min cap (min cap a + min cap b) → s2 ≡ min cap (s1 + min cap c) → s3 ≡ min cap (s2 + min cap d)
    → s4 ≡ min cap (s3 + min cap e) → s5 ≡ min cap (s4 + min cap h) → s5 ≡ min cap (a + b + c + d + (e + h))
capped_sum cap a b c d e h s1 s2 s3 s4 s5 h1 h2 h3 h4 h5 =
    let i1 : s1 ≡ min cap (a + b) = h1 ∙ capped cap a b in
    let i2 : s2 ≡ min cap (a + b + c) = h2 ∙ (ap (λ s. min cap (s + min cap c)) i1 ∙ capped cap (a + b) c) in
    let i3 : s3 ≡ min cap (a + b + c + d) = h3 ∙ (ap (λ s. min cap (s + min cap d)) i2 ∙ capped cap (a + b + c) d) in
    let i4 : s4 ≡ min cap (a + b + c + d + e) = h4 ∙ (ap (λ s. min cap (s + min cap e)) i3 ∙ capped cap (a + b + c + d) e) in
    let i5 : s5 ≡ min cap (a + b + c + d + e + h) = h5 ∙ (ap (λ s. min cap (s + min cap h)) i4 ∙ capped cap (a + b + c + d + e) h) in
    i5 ∙ ap (min cap) (omega arith)

-- ---- answers

pub ok_map : {X E : Type 0} (r : Result X E) (P Q : X → Type 0) → IfOk r P → ((x : X) → P x → Q x) → IfOk r Q
ok_map (Ok x) P Q h f = f x h
ok_map (Err e) P Q h f = tt

pub ok_three : {X E : Type 0} (r : Result X E) (P Q R S : X → Type 0) → IfOk r P → IfOk r Q → IfOk r R → ((x : X) → P x → Q x → R x → S x) → IfOk r S
ok_three (Ok x) P Q R S h i j f = f x h i j
ok_three (Err e) P Q R S h i j f = tt

-- what is said of an answer that is no error
pub when_ok : {X E : Type 0} (answer : Result X E) (P : Type 0) → is_err answer ≡ false → OnOk answer P → P
when_ok (Ok x) P fine h = h
when_ok (Err e) P fine h = absurd (cc)
