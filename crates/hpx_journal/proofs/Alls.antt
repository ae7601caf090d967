-- What holds of all elements of a list.
use Rattle.std.proofs.Common.{Bool, true, false, cond, List, [], ◌∷◌, ◌++◌, ◌≡◌, Option, Some, None, refl, subst}
use Rattle.std.specs.List.{AllByRecursion, find}
use Rattle.hpx_journal.specs.Bags.{without, minus}
use Rattle.std.specs.Option.{option_to_list}

module _ {X : Type 0} (P : X → Type 0) where
  pub all-append : (xs ys : List X) → AllByRecursion P xs → AllByRecursion P ys → AllByRecursion P (xs ++ ys)
  all-append [] ys h i = i
  all-append (x ∷ xs) ys h i = (h.0, all-append xs ys h.1 i)

  all-without_at : (b : Bool) (p : X → Bool) (x : X) (xs : List X) → P x → AllByRecursion P xs → AllByRecursion P (without p xs)
      → AllByRecursion P (cond b xs (x ∷ without p xs))
  all-without_at true p x xs h i j = i
  all-without_at false p x xs h i j = (h, j)

  pub all-without : (p : X → Bool) (xs : List X) → AllByRecursion P xs → AllByRecursion P (without p xs)
  all-without p [] h = tt
  all-without p (x ∷ xs) h = all-without_at (p x) p x xs h.0 h.1 (all-without p xs h.1)

  pub all-minus : {K : Type 0} (test : K → X → Bool) (xs : List X) (ks : List K) → AllByRecursion P xs → AllByRecursion P (minus test xs ks)
  all-minus test xs [] h = h
  all-minus test xs (k ∷ ks) h = all-minus test (without (test k) xs) ks (all-without (test k) xs h)

pub all-map : {X : Type 0} (P Q : X → Type 0) → ((x : X) → P x → Q x) → (xs : List X) → AllByRecursion P xs → AllByRecursion Q xs
all-map P Q f [] h = tt
all-map P Q f (x ∷ xs) h = (f x h.0, all-map P Q f xs h.1)

pub all-any : {X : Type 0} (P : X → Type 0) → ((x : X) → P x) → (xs : List X) → AllByRecursion P xs
all-any P f [] = tt
all-any P f (x ∷ xs) = (f x, all-any P f xs)

-- what holds of each with one fact holds of each with two
pub all-zip : {X : Type 0} (P Q R : X → Type 0) → ((x : X) → P x → Q x → R x) → (xs : List X)
    → AllByRecursion P xs → AllByRecursion Q xs → AllByRecursion R xs
all-zip P Q R f [] h i = tt
all-zip P Q R f (x ∷ xs) h i = (f x h.0 i.0, all-zip P Q R f xs h.1 i.1)

all-find_at : {X : Type 0} (P : X → Type 0) (b : Bool) (p : X → Bool) (y : X) (ys : List X) (x : X)
    → (find p ys ≡ Some x → P x) → P y → cond b (Some y) (find p ys) ≡ Some x → P x
all-find_at P true p y ys x ih h e = subst P (let f : y ≡ x = cc in f) h
all-find_at P false p y ys x ih h e = ih e

-- what is found is one of all
pub all-find : {X : Type 0} (P : X → Type 0) (p : X → Bool) (xs : List X) (x : X) → AllByRecursion P xs → find p xs ≡ Some x → P x
all-find P p [] x h e = cc
all-find P p (y ∷ ys) x h e = all-find_at P (p y) p y ys x (all-find P p ys x h.1) h.0 e

listed-all : {X : Type 0} (P : X → Type 0) (p : X → Bool) (xs : List X) → AllByRecursion P xs → (o : Option X) → find p xs ≡ o
    → AllByRecursion P (option_to_list o)
listed-all P p xs h None e = tt
listed-all P p xs h (Some x) e = (all-find P p xs x h e, tt)

pub all-listed : {X : Type 0} (P : X → Type 0) (p : X → Bool) (xs : List X) → AllByRecursion P xs → AllByRecursion P (option_to_list (find p xs))
all-listed P p xs h = listed-all P p xs h (find p xs) refl
