-- What is put into both, or taken from both.
use Rattle.std.proofs.Common.{◌||◌, add-one, ℕ, zero, suc, length, get_or, ◌<◌, ◌≤◌, set, take, drop, Bool, true, false, cond, List, [], ◌∷◌, ◌++◌, ◌≡◌, ◌+◌, Some, refl, sym, ap, ◌∙◌, arith, inl, inr, subst}
use Rattle.std.specs.List.{find, count_by, sum_by, list_any, slice_get}
use Rattle.std.proofs.lemmas.List.Sums.{sum_by-cons, sum_by-append}
use Rattle.std.proofs.lemmas.Bool.{cases_Bool}
use Rattle.hpx_journal.specs.Bags.{without}
use Rattle.hpx_part.specs.Keyed.{Agree}
use Rattle.hpx_journal.proofs.Bags.{sum_by-without-find, find-without, find-nothing}

abbrev pub counts_of : {X : Type 0} → (X → Bool) → X → ℕ
counts_of p x = cond (p x) 1 0

pub counts_true : {X : Type 0} (p : X → Bool) (x : X) → p x ≡ true → counts_of p x ≡ 1
counts_true p x h = rw h refl

pub counts_false : {X : Type 0} (p : X → Bool) (x : X) → p x ≡ false → counts_of p x ≡ 0
counts_false p x h = rw h refl

pub count_same : {X : Type 0} (p q : X → Bool) → ((x : X) → p x ≡ q x) → (xs : List X) → count_by p xs ≡ count_by q xs
count_same p q h [] = refl
count_same p q h (x ∷ xs) =
    omega (
      arith,
      sum_by-cons (counts_of p) x xs,
      sum_by-cons (counts_of q) x xs,
      ap {B = ℕ} (λ b. cond b 1 0) (h x),
      count_same p q h xs,
    )

pub count_middle : {X : Type 0} (p : X → Bool) (l : List X) (x : X) (r : List X)
    → count_by p (l ++ x ∷ r) ≡ count_by p (l ++ r) + cond (p x) 1 0
count_middle p l x r = omega (
  arith,
  sum_by-append (counts_of p) l (x ∷ r),
  sum_by-append (counts_of p) l r,
  sum_by-cons (counts_of p) x r,
)

pub find_miss : {X : Type 0} (p : X → Bool) (l : List X) (x : X) (r : List X) → p x ≡ false
    → find p (l ++ x ∷ r) ≡ find p (l ++ r)
find_miss p [] x r h = rw h refl
find_miss p (y ∷ l) x r h = ap (λ o. cond (p y) (Some y) o) (find_miss p l x r h)

pub find_hit : {X : Type 0} (p : X → Bool) (l : List X) (x : X) (r : List X) → p x ≡ true → count_by p l ≡ 0
    → find p (l ++ x ∷ r) ≡ Some x
find_hit p [] x r h z = rw h refl
find_hit p (y ∷ l) x r h z = elim (cases_Bool (p y)) [
  | inl t ↦ absurd (omega (arith, sum_by-cons (counts_of p) y l, counts_true p y t))
  | inr t ↦ rw t (find_hit p l x r h (omega (arith, sum_by-cons (counts_of p) y l)))
]

module _ {K X : Type 0} (test : K → X → Bool) (key : X → K) (means : (k : K) (x : X) → test k x ≡ true → (y : X) → test k y ≡ test (key x) y)
    (own : (x : X) → test (key x) x ≡ true) where
  pub Agree-put : (xs l r : List X) (x : X) → Agree test xs (l ++ r) → count_by (test (key x)) xs ≡ 0
      → Agree test (x ∷ xs) (l ++ x ∷ r)
  Agree-put xs l r x h empty = record {
    single = λ k. elim (cases_Bool (test k x)) [
      | inl t ↦
          let z : count_by (test k) xs ≡ 0 = count_same (test k) (test (key x)) (means k x t) xs ∙ empty in
          omega (arith, sum_by-cons (counts_of (test k)) x xs, counts_true (test k) x t)
      | inr t ↦ omega (arith, sum_by-cons (counts_of (test k)) x xs, counts_false (test k) x t, h.single k)
    ];
    counts = λ k. omega (arith, sum_by-cons (counts_of (test k)) x xs, count_middle (test k) l x r, h.counts k);
    finds = λ k. elim (cases_Bool (test k x)) [
      | inl t ↦
          let z : count_by (test k) xs ≡ 0 = count_same (test k) (test (key x)) (means k x t) xs ∙ empty in
          let e : count_by (test k) l ≡ 0 = omega (arith, h.counts k, sum_by-append (counts_of (test k)) l r) in
          rw t (sym (find_hit (test k) l x r t e))
      | inr t ↦ rw t (h.finds k ∙ sym (find_miss (test k) l x r t))
    ];
  }

  pub Agree-found : (xs l r : List X) (x : X) → Agree test xs (l ++ x ∷ r) → find (test (key x)) xs ≡ Some x
  Agree-found xs l r x h =
      let p = test (key x) in
      let e : count_by (test (key x)) l ≡ 0 = omega (
        arith,
        h.counts (key x),
        h.single (key x),
        count_middle (test (key x)) l x r,
        counts_true (test (key x)) x (own x),
        sum_by-append (counts_of (test (key x))) l r,
      ) in
      h.finds (key x) ∙ find_hit (test (key x)) l x r (own x) e

  pub Agree-take : (xs l r : List X) (x : X) → Agree test xs (l ++ x ∷ r) → Agree test (without (test (key x)) xs) (l ++ r)
  Agree-take xs l r x h =
      let found : find (test (key x)) xs ≡ Some x = Agree-found xs l r x h in
      let counted = λ (k : K). sum_by-without-find (counts_of (test k)) (test (key x)) xs x found in
      record {
        single = λ k. omega (arith, counted k, h.single k);
        counts = λ k. omega (arith, counted k, h.counts k, count_middle (test k) l x r);
        finds = λ k. elim (cases_Bool (test k x)) [
          | inl t ↦
              let e : cond (test k x) 1 0 ≡ 1 = counts_true (test k) x t in
              find-nothing (test k) (without (test (key x)) xs) (omega (arith, counted k, h.single k))
              ∙ sym (find-nothing (test k) (l ++ r) (omega (arith, h.counts k, h.single k, count_middle (test k) l x r)))
          | inr t ↦
              find-without (test k) (test (key x)) xs
              (λ y s. elim (cases_Bool (test k y)) [
                | inl u ↦
                    absurd (let c : true ≡ false = sym (own x) ∙ (means (key x) y s x ∙ (sym (means k y u x) ∙ t)) in cc)
                | inr u ↦ u
              ])
              ∙ (h.finds k ∙ find_miss (test k) l x r t)
        ];
      }

-- ---- an element at an index, and what stands before and after it

pub split_get : {X : Type 0} (xs : List X) (i : ℕ) (x : X) → slice_get xs i ≡ Some x → xs ≡ take i xs ++ x ∷ drop (suc i) xs
split_get [] i x h = cc
split_get (y ∷ xs) zero x h = cc
split_get (y ∷ xs) (suc i) x h = ap (λ zs. y ∷ zs) (split_get xs i x h)

pub split_set : {X : Type 0} (xs : List X) (i : ℕ) (x y : X) → slice_get xs i ≡ Some x → set xs i y ≡ take i xs ++ y ∷ drop (suc i) xs
split_set [] i x y h = cc
split_set (z ∷ xs) zero x y h = refl
split_set (z ∷ xs) (suc i) x y h = ap (λ zs. z ∷ zs) (split_set xs i x y h)

find_step_suc : {X : Type 0} (p : X → Bool) (xs : List X) (i : ℕ) (d : X) → i < length xs
    → find p (drop i xs) ≡ cond (p (get_or xs i d)) (Some (get_or xs i d)) (find p (drop (suc i) xs))
find_step_suc p [] i d h = absurd (omega arith)
find_step_suc p (y ∷ xs) zero d h = refl
find_step_suc p (y ∷ xs) (suc i) d h = find_step_suc p xs i d (omega arith)

pub find_step : {X : Type 0} (p : X → Bool) (xs : List X) (i : ℕ) (d : X) → i < length xs
    → find p (drop i xs) ≡ cond (p (get_or xs i d)) (Some (get_or xs i d)) (find p (drop (i + 1) xs))
find_step p xs i d h = rw add-one (find_step_suc p xs i d h)

pub get_slice_get : {X : Type 0} (xs : List X) (i : ℕ) (d : X) → i < length xs → slice_get xs i ≡ Some (get_or xs i d)
get_slice_get [] i d h = absurd (omega arith)
get_slice_get (y ∷ xs) zero d h = refl
get_slice_get (y ∷ xs) (suc i) d h = get_slice_get xs i d (omega arith)

-- the first element that passes, once a loop has come to it
pub find_at_index : {X : Type 0} (p : X → Bool) (xs : List X) (i : ℕ) (x : X) → i < length xs → x ≡ get_or xs i x → p x ≡ true
    → find p xs ≡ find p (drop i xs) → find p xs ≡ slice_get xs i
find_at_index p xs i x lt is passes same =
    let e : p (get_or xs i x) ≡ true = subst (λ y. p y ≡ true) is passes in
    let f : find p (drop i xs) ≡ Some (get_or xs i x) = find_step p xs i x lt ∙ rw e refl in
    same ∙ (f ∙ sym (get_slice_get xs i x lt))

pub any_counted : {X : Type 0} (p : X → Bool) (xs : List X) → 1 ≤ count_by p xs → list_any p xs ≡ true
any_counted p [] h = absurd (omega arith)
any_counted p (x ∷ xs) h = elim (cases_Bool (p x)) [
  | inl t ↦ rw t refl
  | inr t ↦ rw t (any_counted p xs (omega (arith, sum_by-cons (counts_of p) x xs, counts_false p x t)))
]

pub counted_any : {X : Type 0} (p : X → Bool) (xs : List X) → list_any p xs ≡ true → 1 ≤ count_by p xs
counted_any p [] h = absurd (cc)
counted_any p (x ∷ xs) h = elim (cases_Bool (p x)) [
  | inl t ↦ omega (arith, sum_by-cons (counts_of p) x xs, counts_true p x t)
  | inr t ↦ omega (arith, sum_by-cons (counts_of p) x xs, counted_any p xs (subst (λ b. (b || list_any p xs) ≡ true) t h))
]

pub none_counted : {X : Type 0} (p : X → Bool) (xs : List X) → list_any p xs ≡ false → count_by p xs ≡ 0
none_counted p [] h = refl
none_counted p (x ∷ xs) h = elim (cases_Bool (p x)) [
  | inl t ↦ absurd (let e : true ≡ false = subst (λ b. (b || list_any p xs) ≡ false) t h in cc)
  | inr t ↦ omega (
    arith,
    sum_by-cons (counts_of p) x xs,
    counts_false p x t,
    none_counted p xs (subst (λ b. (b || list_any p xs) ≡ false) t h),
  )
]

counted_none : {X : Type 0} (p : X → Bool) (xs : List X) → count_by p xs ≡ 0 → list_any p xs ≡ false
counted_none p [] h = refl
counted_none p (x ∷ xs) h = elim (cases_Bool (p x)) [
  | inl t ↦ absurd (omega (arith, sum_by-cons (counts_of p) x xs, counts_true p x t))
  | inr t ↦ rw t (counted_none p xs (omega (arith, sum_by-cons (counts_of p) x xs)))
]

module _ {K X : Type 0} (test : K → X → Bool) (key : X → K) (means : (k : K) (x : X) → test k x ≡ true → (y : X) → test k y ≡ test (key x) y)
    (own : (x : X) → test (key x) x ≡ true) where
  pub Agree-sym : (xs ys : List X) → Agree test xs ys → Agree test ys xs
  Agree-sym xs ys h = record {
    single = λ k. omega (arith, h.single k, h.counts k);
    counts = λ k. sym (h.counts k);
    finds = λ k. sym (h.finds k);
  }

  -- so they have the same sums
  pub Agree-sum : (f : X → ℕ) (xs ys : List X) → Agree test xs ys → sum_by f xs ≡ sum_by f ys
  Agree-sum f [] [] h = refl
  Agree-sum f [] (y ∷ ys) h = absurd (omega (
    arith,
    h.counts (key y),
    sum_by-cons (counts_of (test (key y))) y ys,
    counts_true (test (key y)) y (own y),
  ))
  Agree-sum f (x ∷ xs) ys h =
      let flipped = Agree-sym (x ∷ xs) ys h in
      let found = Agree-found test key means own ys [] xs x flipped in
      let rest = Agree-take test key means own ys [] xs x flipped in
      omega (
        arith,
        sum_by-cons f x xs,
        sum_by-without-find f (test (key x)) ys x found,
        Agree-sum f xs (without (test (key x)) ys) (Agree-sym (without (test (key x)) ys) xs rest),
      )

  pub Agree-idle : (p : X → Bool) (xs ys : List X) → Agree test xs ys → list_any p ys ≡ false → list_any p xs ≡ false
  Agree-idle p xs ys h idle = counted_none p xs (omega (arith, Agree-sum (counts_of p) xs ys h, none_counted p ys idle))

pub slice_get_is : {X : Type 0} (xs : List X) (i : ℕ) (x : X) → i < length xs → x ≡ get_or xs i x → slice_get xs i ≡ Some x
slice_get_is xs i x lt is = get_slice_get xs i x lt ∙ ap (λ y. Some y) (sym is)

pub slice_get_less : {X : Type 0} (xs : List X) (i : ℕ) (x : X) → slice_get xs i ≡ Some x → i < length xs
slice_get_less [] i x h = cc
slice_get_less (y ∷ xs) zero x h = omega arith
slice_get_less (y ∷ xs) (suc i) x h = omega (arith, slice_get_less xs i x h)
