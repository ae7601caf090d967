-- What is found under a key is what stands under an id.
use Rattle.std.proofs.Common.{ℕ, zero, suc, Bool, true, false, cond, not, nat_lt, ◌≡◌, ◌<◌, ◌+◌, List, [], ◌∷◌, ◌++◌, take, set, length, get_or, slice_get, position, find, Option, None, Some, IfSome, IfNone, refl, sym, ap, subst, ◌∙◌, arith}
use Rattle.std.specs.Prelude.{◌==◌, ◌&&◌, is_some}
use Rattle.std.specs.List.{AllByRecursion, position_or_len}
use Rattle.std.specs.Map.{lookup, keys_of, values_of}
use Rattle.std.proofs.lemmas.List.Elements.{All-from_recursion, recursion_from_All}
use Rattle.std.proofs.lemmas.List.Sorted.{All-permutation, IsPermutation-cons, IsPermutation-map, IsPermutation-refl, IsPermutation-to_front}
use Rattle.std.specs.List.Sorted.{IsPermutation}
use Rattle.std.specs.Option.{option_map}
use Rattle.std.specs.Prelude.{remove, swap_remove, Result, Ok, Err, OnOk, ◌-◌}
use Rattle.indexmap.specs.IndexMap.{set_value_at}
use Rattle.hpx_value.specs.Ids.{Id, bare, same_object}
use Rattle.hpx_part.specs.Data.{Standing}
use Rattle.hpx_journal.specs.Local.{is_standing}
use Rattle.hpx_tables.proofs.Alls.{some_same}
use Rattle.hpx_tables.specs.declared.object.Object.{Object}
use Rattle.hpx_tables.specs.Objects.{id_of, IsUnder}

-- the test of the map's keys
abbrev pub eq : Object → Object → Bool
eq a b = (a.home == b.home) && ((a.kind == b.kind) && (a.number == b.number))

module _ (k : Object) (o : Id) (named : id_of k ≡ bare o) where
  pub test_is : (b : Object) (x : Standing) → IsUnder (b, x) → eq k b ≡ is_standing o x
  test_is b x h = (ap (λ y. same_object y (id_of b)) named) ∙ ap (λ y. same_object o y) h

  pub lookup-find : (es : List (Object × Standing)) → AllByRecursion IsUnder es → lookup (eq k) es ≡ find (is_standing o) (values_of es)
  lookup-find [] h = refl
  lookup-find (e ∷ es) h = rw (test_is e.0 e.1 h.0, lookup-find es h.1) refl

  step : (b : Bool) (n : ℕ) (x : Standing) (xs : List Standing) → b ≡ is_standing o x → find (is_standing o) (take n xs) ≡ None
      → find (is_standing o) (take (cond (not b) (1 + n) 0) (x ∷ xs)) ≡ None
  step true n x xs e ih = refl
  step false n x xs e ih =
      let more : 1 + n ≡ suc n = omega arith in
      ap (λ m. find (is_standing o) (take m (x ∷ xs))) more ∙ ap (λ s. cond s (Some x) (find (is_standing o) (take n xs))) (sym e) ∙ ih

  -- none of those before the first stands under the id
  pub first_none : (es : List (Object × Standing)) → AllByRecursion IsUnder es
      → find (is_standing o) (take (position_or_len (eq k) (keys_of es)) (values_of es)) ≡ None
  first_none [] h = refl
  first_none (e ∷ es) h = step (eq k e.0) (position_or_len (eq k) (keys_of es)) e.1 (values_of es) (test_is e.0 e.1 h.0) (first_none es h.1)

-- what is found by the test of the keys, at its index
module _ (k : Object) (o : Id) (named : id_of k ≡ bare o) where
  pub place_found : (es : List (Object × Standing)) → AllByRecursion IsUnder es → (r : Option ℕ)
      → IfSome r (λ i. slice_get (values_of es) i ≡ lookup (eq k) es) → IfSome r (λ j. find (is_standing o) (values_of es) ≡ slice_get (values_of es) j)
  place_found es h None v = tt
  place_found es h (Some i) v = sym (lookup-find k o named es h) ∙ sym v

  -- an index that is found is where the first passes
  index_is : (n l : ℕ) (b : Bool) (i : ℕ) → cond b (Some n) None ≡ Some i → n ≡ i
  index_is n l true i h = ap (λ r. or_zero r) h
    where
      or_zero : Option ℕ → ℕ
      or_zero None = 0
      or_zero (Some x) = x
  index_is n l false i h = cc

  pub place_first : (es : List (Object × Standing)) → AllByRecursion IsUnder es → (r : Option ℕ)
      → r ≡ position (eq k) (keys_of es) → IfSome r (λ j. find (is_standing o) (take j (values_of es)) ≡ None)
  place_first es h None e = tt
  place_first es h (Some i) e =
      let n = position_or_len (eq k) (keys_of es) in
      let is : n ≡ i = index_is n (length (keys_of es)) (nat_lt n (length (keys_of es))) i (sym e) in
      ap (λ m. find (is_standing o) (take m (values_of es))) (sym is) ∙ first_none k o named es h

  pub place_none : (es : List (Object × Standing)) → AllByRecursion IsUnder es → (r : Option ℕ)
      → is_some r ≡ is_some (lookup (eq k) es) → IfNone r (find (is_standing o) (values_of es) ≡ None)
  place_none es h None e = sym (lookup-find k o named es h) ∙ none_from (lookup (eq k) es) (sym e)
    where
      none_from : (x : Option Standing) → is_some x ≡ false → x ≡ None
      none_from None f = refl
      none_from (Some y) f = cc
  place_none es h (Some i) e = tt

-- ---- the last takes the place of one that is taken out

module _ {X : Type 0} where
  last_split : (x : X) (xs : List X) (d : X) → x ∷ xs ≡ take (length xs) (x ∷ xs) ++ get_or (x ∷ xs) (length xs) d ∷ []
  last_split x [] d = refl
  last_split x (y ∷ ys) d = ap (λ l. x ∷ l) (last_split y ys d)

  last_first : (x : X) (xs : List X) (d : X) → IsPermutation xs (take (length xs) (get_or (x ∷ xs) (length xs) d ∷ xs))
  last_first x [] d = IsPermutation-refl []
  last_first x (y ∷ ys) d =
      subst (λ l. IsPermutation l (get_or (y ∷ ys) (length ys) d ∷ take (length ys) (y ∷ ys))) (sym (last_split y ys d))
      (IsPermutation-to_front (take (length ys) (y ∷ ys)) (get_or (y ∷ ys) (length ys) d))

  pub swapped : (xs : List X) (i : ℕ) (d : X) → i < length xs → IsPermutation (remove xs i) (swap_remove xs i d)
  swapped [] i d h = absurd (omega (arith, h))
  swapped (x ∷ xs) zero d h =
      let e : length (x ∷ xs) - 1 ≡ length xs = omega arith in
      subst (λ n. IsPermutation xs (take n (get_or (x ∷ xs) n d ∷ xs))) (sym e) (last_first x xs d)
  swapped (x ∷ xs) (suc i) d h =
      let less : i < length xs = omega (arith, h) in
      let e : length (x ∷ xs) - 1 ≡ suc (length xs - 1) = omega (arith, less) in
      subst (λ n. IsPermutation (x ∷ remove xs i) (take n (x ∷ set xs i (get_or (x ∷ xs) n d)))) (sym e)
      (IsPermutation-cons x (remove xs i) (swap_remove xs i d) (swapped xs i d less))

-- ---- what is taken out and put in

pub under_removed : (es : List (Object × Standing)) (j : ℕ) → AllByRecursion IsUnder es → AllByRecursion IsUnder (remove es j)
under_removed [] zero h = h
under_removed [] (suc j) h = h
under_removed (e ∷ es) zero h = h.1
under_removed (e ∷ es) (suc j) h = (h.0, under_removed es j h.1)

pub values_removed : (es : List (Object × Standing)) (j : ℕ) → values_of (remove es j) ≡ remove (values_of es) j
values_removed [] zero = refl
values_removed [] (suc j) = refl
values_removed (e ∷ es) zero = refl
values_removed (e ∷ es) (suc j) = ap (λ l. e.1 ∷ l) (values_removed es j)

pub under_swapped : (es : List (Object × Standing)) (j : ℕ) (d : Object × Standing) → j < length es → AllByRecursion IsUnder es → AllByRecursion IsUnder (swap_remove es j d)
under_swapped es j d less h = recursion_from_All IsUnder (swap_remove es j d)
    (All-permutation IsUnder (remove es j) (swap_remove es j d) (swapped es j d less) (All-from_recursion IsUnder (remove es j) (under_removed es j h)))

pub values_swapped : (es : List (Object × Standing)) (j : ℕ) (d : Object × Standing) → j < length es → IsPermutation (remove (values_of es) j) (values_of (swap_remove es j d))
values_swapped es j d less = subst (λ l. IsPermutation l (values_of (swap_remove es j d))) (values_removed es j)
    (IsPermutation-map (λ (e : Object × Standing). e.1) (remove es j) (swap_remove es j d) (swapped es j d less))

pub value_at : (es : List (Object × Standing)) (j : ℕ) (e : Object × Standing) → slice_get es j ≡ Some e → slice_get (values_of es) j ≡ Some e.1
value_at [] j e h = cc
value_at (x ∷ es) zero e h = ap (λ o. option_map (λ y. y.1) o) h
value_at (x ∷ es) (suc j) e h = value_at es j e h

pub under_put : (es : List (Object × Standing)) (e : Object × Standing) → AllByRecursion IsUnder es → IsUnder e → AllByRecursion IsUnder (es ++ e ∷ [])
under_put [] e h u = (u, tt)
under_put (x ∷ es) e h u = (h.0, under_put es e h.1 u)

pub values_put : (es : List (Object × Standing)) (e : Object × Standing) → values_of (es ++ e ∷ []) ≡ values_of es ++ e.1 ∷ []
values_put [] e = refl
values_put (x ∷ es) e = ap (λ l. x.1 ∷ l) (values_put es e)

pub under_set : (es : List (Object × Standing)) (j : ℕ) (x w : Standing) → slice_get (values_of es) j ≡ Some x → w.object ≡ x.object
    → AllByRecursion IsUnder es → AllByRecursion IsUnder (set_value_at es j w)
under_set [] j x w at same h = h
under_set (e ∷ es) zero x w at same h =
    let is : w.object ≡ e.1.object = same ∙ sym (ap (λ o. object_or o e.1) at) in
    (h.0 ∙ ap bare (sym is), h.1)
  where
    object_or : Option Standing → Standing → Id
    object_or None y = y.object
    object_or (Some z) y = z.object
under_set (e ∷ es) (suc j) x w at same h = (h.0, under_set es j x w at same h.1)

pub values_set : (es : List (Object × Standing)) (j : ℕ) (w : Standing) → values_of (set_value_at es j w) ≡ set (values_of es) j w
values_set [] zero w = refl
values_set [] (suc j) w = refl
values_set (e ∷ es) zero w = refl
values_set (e ∷ es) (suc j) w = ap (λ l. e.1 ∷ l) (values_set es j w)

-- what holds if a result is Ok
pub on_ok : {A E : Type 0} (r : Result A E) (P : Type 0) (v : A) → r ≡ Ok v → OnOk r P → P
on_ok (Ok x) P v e h = h
on_ok (Err x) P v e h = cc

-- what holds if there is something
pub on_some : {A : Type 0} (o : Option A) (P : A → Type 0) (v : A) → o ≡ Some v → IfSome o P → P v
on_some (Some x) P v e h = subst P (some_same x v e) h
on_some None P v e h = cc
