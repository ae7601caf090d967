-- What is found in a list, and what is left without it.
use Rattle.std.proofs.Common.{ℕ, suc, length, get_or, take, drop, Bool, true, false, cond, List, [], ◌∷◌, ◌++◌, ◌≡◌, ◌+◌, ◌<◌, ◌↔◌, Some, None, refl, sym, ap, ◌∙◌, add-one}
use Rattle.std.specs.Prelude.{◌||◌}
use Rattle.std.specs.List.{find, list_any}
use Rattle.std.proofs.lemmas.Option.{slice_get_read}
use Rattle.std.proofs.Math.Seq.{drop-cons}
use Rattle.hpx_journal.specs.Bags.{without, minus, Covers, IsFirst}

pub drop_read : {X : Type 0} (xs : List X) (i : ℕ) (x : X) → i < length xs → x ≡ get_or xs i x → drop i xs ≡ x ∷ drop (suc i) xs
drop_read xs i x within at = drop-cons xs i x within ∙ ap (λ y. y ∷ drop (suc i) xs) (sym at)

pub drop_next : {X : Type 0} (xs : List X) (i : ℕ) (x : X) → i < length xs → x ≡ get_or xs i x → drop i xs ≡ x ∷ drop (i + 1) xs
drop_next xs i x within at = rw add-one (drop_read xs i x within at)

-- the next element passes, and those before it don't
pub first_here : {X : Type 0} (p : X → Bool) (xs : List X) (i : ℕ) (x : X) → i < length xs → x ≡ get_or xs i x → p x ≡ true
    → find p xs ≡ find p (drop i xs) → without p xs ≡ take i xs ++ without p (drop i xs) → IsFirst p xs i
first_here p xs i x within at passes found rest =
    let here : drop i xs ≡ x ∷ drop (suc i) xs = drop_read xs i x within at in
    let hit : find p (x ∷ drop (suc i) xs) ≡ Some x = rw passes refl in
    let gone : without p (x ∷ drop (suc i) xs) ≡ drop (suc i) xs = rw passes refl in
    record {
      within = within;
      found = rw (found, here, hit, slice_get_read xs (length xs) i x refl within at) refl;
      rest = rw (rest, here, gone) refl;
    }

some_any_at : {X : Type 0} (p : X → Bool) (b : Bool) (y : X) (ys : List X) (x : X)
    → (find p ys ≡ Some x → list_any p ys ≡ true) → cond b (Some y) (find p ys) ≡ Some x → (b || list_any p ys) ≡ true
some_any_at p true y ys x ih h = refl
some_any_at p false y ys x ih h = ih h

-- what is found is there
pub some_any : {X : Type 0} (p : X → Bool) (xs : List X) (x : X) → find p xs ≡ Some x → list_any p xs ≡ true
some_any p [] x h = cc
some_any p (y ∷ ys) x h = some_any_at p (p y) y ys x (some_any p ys x) h

none_any_at : {X : Type 0} (p : X → Bool) (b : Bool) (y : X) (ys : List X)
    → (find p ys ≡ None → list_any p ys ≡ false) → cond b (Some y) (find p ys) ≡ None → (b || list_any p ys) ≡ false
none_any_at p true y ys ih h = cc
none_any_at p false y ys ih h = ih h

-- what is not found is not there
pub none_any : {X : Type 0} (p : X → Bool) (xs : List X) → find p xs ≡ None → list_any p xs ≡ false
none_any p [] h = refl
none_any p (y ∷ ys) h = none_any_at p (p y) y ys (none_any p ys) h

-- ---- keys taken one after the other, as far as the i-th

module _ {K X : Type 0} (test : K → X → Bool) (all xs new : List X) (keys : List K) (i : ℕ) (key : K) (within : i < length keys)
    (at : key ≡ get_or keys i key) where
  at_key : drop i keys ≡ key ∷ drop (i + 1) keys
  at_key = drop_next keys i key within at

  pub covers_more : (x : X) → find (test key) xs ≡ Some x → new ≡ without (test key) xs
      → Covers test all keys ↔ Covers test xs (drop i keys) → Covers test all keys ↔ Covers test new (drop (i + 1) keys)
  covers_more x found left h =
      let k : Covers test all keys ↔ Covers test xs (key ∷ drop (i + 1) keys) = rw at_key at h in
      rw left (λ c. (k.0 c).1, λ c. k.1 (some_any (test key) xs x found, c))

  pub covers_not : find (test key) xs ≡ None → Covers test all keys ↔ Covers test xs (drop i keys) → Covers test all keys → ⊥
  covers_not found h c =
      let k : Covers test all keys ↔ Covers test xs (key ∷ drop (i + 1) keys) = rw at_key at h in
      let e : true ≡ false = cc ((k.0 c).0, none_any (test key) xs found) in cc

  pub minus_more : new ≡ without (test key) xs → minus test all keys ≡ minus test xs (drop i keys)
      → minus test all keys ≡ minus test new (drop (i + 1) keys)
  minus_more left h = h ∙ rw (at_key, left) refl
