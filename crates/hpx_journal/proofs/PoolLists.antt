-- Lists from which elements are taken, and tests of sameness.
use Rattle.std.proofs.Common.{Bool, true, false, cond, List, [], ◌∷◌, ◌++◌, ◌≡◌, ◌≤◌, Option, Some, refl, sym, ap, ◌∙◌, subst, arith, inl, inr}
use Rattle.std.specs.Prelude.{◌||◌, is_some}
use Rattle.std.specs.List.{list_any, find, count_by, AllByRecursion}
use Rattle.std.specs.Option.{option_map}
use Rattle.std.proofs.lemmas.List.Sums.{sum_by-cons}
use Rattle.std.proofs.lemmas.Bool.{cases_Bool}
use Rattle.hpx_value.specs.Ids.{Id, same_object}
use Rattle.hpx_journal.specs.Bags.{without, minus}
use Rattle.hpx_journal.specs.Data.{State}
use Rattle.hpx_journal.specs.Entries.{Standing}
use Rattle.hpx_journal.specs.Local.{is_standing}
use Rattle.hpx_journal.proofs.Same.{same_object-true, same_object-refl}

-- the state of what stands, if it does
abbrev pub state_in : Option Standing → Option State
state_in o = option_map (λ x. x.state) o

-- ---- what all elements keep

all-without_at : {X : Type 0} (P : X → Type 0) (b : Bool) (y : X) (ys zs : List X) → P y → AllByRecursion P ys → AllByRecursion P zs
    → AllByRecursion P (cond b ys (y ∷ zs))
all-without_at P true y ys zs one all rest = all
all-without_at P false y ys zs one all rest = (one, rest)

pub all-without : {X : Type 0} (P : X → Type 0) (q : X → Bool) (xs : List X) → AllByRecursion P xs → AllByRecursion P (without q xs)
all-without P q [] h = tt
all-without P q (x ∷ xs) h = all-without_at P (q x) x xs (without q xs) h.0 h.1 (all-without P q xs h.1)

pub all-minus : {K X : Type 0} (P : X → Type 0) (test : K → X → Bool) (xs : List X) (ks : List K) → AllByRecursion P xs
    → AllByRecursion P (minus test xs ks)
all-minus P test xs [] h = h
all-minus P test xs (k ∷ ks) h = all-minus P test (without (test k) xs) ks (all-without P (test k) xs h)

pub all-append : {X : Type 0} (P : X → Type 0) (xs ys : List X) → AllByRecursion P xs → AllByRecursion P ys → AllByRecursion P (xs ++ ys)
all-append P [] ys h i = i
all-append P (x ∷ xs) ys h i = (h.0, all-append P xs ys h.1 i)

pub all-map : {X : Type 0} (P Q : X → Type 0) → ((x : X) → P x → Q x) → (xs : List X) → AllByRecursion P xs → AllByRecursion Q xs
all-map P Q f [] h = tt
all-map P Q f (x ∷ xs) h = (f x h.0, all-map P Q f xs h.1)

-- of two facts
pub all-both : {X : Type 0} (P R Q : X → Type 0) → ((x : X) → P x → R x → Q x) → (xs : List X) → AllByRecursion P xs → AllByRecursion R xs
    → AllByRecursion Q xs
all-both P R Q f [] h i = tt
all-both P R Q f (x ∷ xs) h i = (f x h.0 i.0, all-both P R Q f xs h.1 i.1)

find-all_at : {X : Type 0} (P : X → Type 0) (p : X → Bool) (b : Bool) (y : X) (ys : List X) (x : X) → P y
    → (find p ys ≡ Some x → P x) → cond b (Some y) (find p ys) ≡ Some x → P x
find-all_at P p true y ys x here rest h = let e : y ≡ x = cc in subst P e here
find-all_at P p false y ys x here rest h = rest h

-- what is found is as all are
pub find-all : {X : Type 0} (P : X → Type 0) (p : X → Bool) (xs : List X) (x : X) → AllByRecursion P xs → find p xs ≡ Some x → P x
find-all P p [] x all h = cc
find-all P p (y ∷ ys) x all h = find-all_at P p (p y) y ys x all.0 (find-all P p ys x all.1) h

-- a test that passes at an element of which a fact holds
pub record Passes {X : Type 0} (P : X → Type 0) (p : X → Bool) : Type 0 where
  pub element : X
  pub passes : p element ≡ true
  pub fact : P element

any-all_at : {X : Type 0} (P : X → Type 0) (p : X → Bool) (b : Bool) (x : X) (xs : List X) → p x ≡ b → P x
    → (list_any p xs ≡ true → Passes P p) → (b || list_any p xs) ≡ true → Passes P p
any-all_at P p true x xs e one rest h = record { element = x; passes = e; fact = one }
any-all_at P p false x xs e one rest h = rest h

pub any-all : {X : Type 0} (P : X → Type 0) (p : X → Bool) (xs : List X) → AllByRecursion P xs → list_any p xs ≡ true → Passes P p
any-all P p [] all h = cc
any-all P p (x ∷ xs) all h = any-all_at P p (p x) x xs refl all.0 (any-all P p xs all.1) h

-- ---- what is there

any-without_at : {X : Type 0} (p q : X → Bool) (b : Bool) (y : X) (ys : List X) → (list_any p (without q ys) ≡ true → list_any p ys ≡ true)
    → list_any p (cond b ys (y ∷ without q ys)) ≡ true → (p y || list_any p ys) ≡ true
any-without_at p q true y ys ih h = elim (cases_Bool (p y)) [ inl t ↦ rw t refl | inr f ↦ rw f h ]
any-without_at p q false y ys ih h =
    elim (cases_Bool (p y)) [
      | inl t ↦ rw t refl
      | inr f ↦
          let g : (p y || list_any p (without q ys)) ≡ list_any p (without q ys) = rw f refl in
          let k = ih (sym g ∙ h) in rw f k
    ]

pub any-without : {X : Type 0} (p q : X → Bool) (xs : List X) → list_any p (without q xs) ≡ true → list_any p xs ≡ true
any-without p q [] h = cc
any-without p q (y ∷ ys) h = any-without_at p q (q y) y ys (any-without p q ys) h

found_at : {X : Type 0} (p : X → Bool) (b : Bool) (x : X) (xs : List X) → (list_any p xs ≡ true → is_some (find p xs) ≡ true)
    → (b || list_any p xs) ≡ true → is_some (cond b (Some x) (find p xs)) ≡ true
found_at p true x xs ih h = refl
found_at p false x xs ih h = ih h

-- where a test passes, something is found
pub found : {X : Type 0} (p : X → Bool) (xs : List X) → list_any p xs ≡ true → is_some (find p xs) ≡ true
found p [] h = cc
found p (x ∷ xs) h = found_at p (p x) x xs (found p xs) h

one-any_at : {X : Type 0} (p : X → Bool) (b : Bool) (x : X) (xs : List X) → p x ≡ b → (list_any p xs ≡ true → 1 ≤ count_by p xs)
    → (b || list_any p xs) ≡ true → 1 ≤ count_by p (x ∷ xs)
one-any_at p true x xs e ih h = rw (sum_by-cons, e) (omega arith)
one-any_at p false x xs e ih h = rw (sum_by-cons, e) (omega (arith, ih h))

pub one-any : {X : Type 0} (p : X → Bool) (xs : List X) → list_any p xs ≡ true → 1 ≤ count_by p xs
one-any p [] h = cc
one-any p (x ∷ xs) h = one-any_at p (p x) x xs refl (one-any p xs) h

pub no-any : {X : Type 0} (p : X → Bool) (xs : List X) → count_by p xs ≡ 0 → list_any p xs ≡ false
no-any p xs h = elim (cases_Bool (list_any p xs)) [ inl t ↦ absurd (omega (arith, one-any p xs t, h)) | inr f ↦ f ]

-- ---- sameness

-- tests of the same object look alike
pub same-left : (a b : Id) → same_object a b ≡ true → (t : Id) → same_object a t ≡ same_object b t
same-left a b h t = ap (λ v. same_object v t) (same_object-true a b h)

pub same-right : (a b : Id) → same_object a b ≡ true → (t : Id) → same_object t a ≡ same_object t b
same-right a b h t = ap (λ v. same_object t v) (same_object-true a b h)

pub same-sym : (a b : Id) → same_object a b ≡ true → same_object b a ≡ true
same-sym a b h = sym (same-left a b h a) ∙ same_object-refl a

pub same-trans : (a b c : Id) → same_object a b ≡ true → same_object b c ≡ true → same_object a c ≡ true
same-trans a b c h i = same-left a b h c ∙ i

pub find-same : (a b : Id) (xs : List Standing) → same_object a b ≡ true → find (is_standing a) xs ≡ find (is_standing b) xs
find-same a b xs h = ap (λ v. find (is_standing v) xs) (same_object-true a b h)

pub any-same : (a b : Id) (xs : List Standing) → same_object a b ≡ true → list_any (is_standing a) xs ≡ list_any (is_standing b) xs
any-same a b xs h = ap (λ v. list_any (is_standing v) xs) (same_object-true a b h)

pub any-same_id : (a b : Id) (xs : List Id) → same_object a b ≡ true → list_any (same_object a) xs ≡ list_any (same_object b) xs
any-same_id a b xs h = ap (λ v. list_any (same_object v) xs) (same_object-true a b h)

pub true_or : (a b : Bool) → (a || b) ≡ false → (a ≡ false) × (b ≡ false)
true_or true b h = cc
true_or false b h = (refl, h)

-- what follows, at an element, from facts for each of others
pub all-each : {A X : Type 0} (C : A → Type 0) (Q : A → X → Type 0) (P : X → Type 0) → ((x : X) → ((a : A) → C a → Q a x) → P x) → (xs : List X)
    → ((a : A) → C a → AllByRecursion (Q a) xs) → AllByRecursion P xs
all-each C Q P f [] h = tt
all-each C Q P f (x ∷ xs) h = (f x (λ a c. (h a c).0), all-each C Q P f xs (λ a c. (h a c).1))
