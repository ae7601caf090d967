-- Objects that stand here: what is found among them where one has another state, where one comes, and where one goes.
use Rattle.hpx_steps.proofs.Common.{AllByRecursion, Bool, Id, IsKept, IsTidyIn, Item, List, None, Single, Some, Standing, [], ap, arith, cond, false, false_from, find, is_some, is_standing, length, refl, remove, same_object, same_object-from, same_object-sym, set, slice_get, some_same, suc, sym, true, zero, ℕ, ◌++◌, ◌∙◌, ◌∷◌, ◌≡◌, ◌≤◌}
use Rattle.hpx_steps.proofs.ByRows.{if_so}

module _ (p : Standing → Bool) where
  abbrev pub stand : List Standing → Bool
  stand xs = is_some (find p xs)

  pub stand_set : (xs : List Standing) (j : ℕ) (x y : Standing) → slice_get xs j ≡ Some x → p y ≡ p x → stand xs ≡ true → stand (set xs j y) ≡ true
  stand_set [] j x y at same h = cc
  stand_set (z ∷ xs) zero x y at same h =
      let e : z ≡ x = some_same z x at in
      if_so (p x) (λ t. rw (same, t) refl) (λ f. rw (same, f) (rw (e, f) at h))
  stand_set (z ∷ xs) (suc j) x y at same h = if_so (p z) (λ t. rw t refl) (λ f. rw f (stand_set xs j x y at same (rw f at h)))

  pub stand_more : (xs ys : List Standing) → stand xs ≡ true → stand (xs ++ ys) ≡ true
  stand_more [] ys h = cc
  stand_more (z ∷ xs) ys h = if_so (p z) (λ t. rw t refl) (λ f. rw f (stand_more xs ys (rw f at h)))

  pub stand_less : (xs : List Standing) (i : ℕ) (x : Standing) → slice_get xs i ≡ Some x → p x ≡ false → stand xs ≡ true → stand (remove xs i) ≡ true
  stand_less [] i x at other h = cc
  stand_less (z ∷ xs) zero x at other h = let e : z ≡ x = some_same z x at in (rw (e, other) at h)
  stand_less (z ∷ xs) (suc i) x at other h = if_so (p z) (λ t. rw t refl) (λ f. rw f (stand_less xs i x at other (rw f at h)))

  pub find_more : (xs ys : List Standing) (x : Standing) → find p xs ≡ Some x → find p (xs ++ ys) ≡ Some x
  find_more [] ys x h = cc
  find_more (z ∷ xs) ys x h = if_so (p z) (λ t. rw t (rw t at h)) (λ f. rw f (find_more xs ys x (rw f at h)))

  pub find_set : (xs : List Standing) (i : ℕ) (x y : Standing) → slice_get xs i ≡ Some x → p x ≡ false → p y ≡ false → find p (set xs i y) ≡ find p xs
  find_set [] i x y h other new = refl
  find_set (z ∷ xs) zero x y h other new = let e : z ≡ x = some_same z x h in rw (e, other, new) refl
  find_set (z ∷ xs) (suc i) x y h other new = ap (λ o. cond (p z) (Some z) o) (find_set xs i x y h other new)

  pub find_less : (xs : List Standing) (i : ℕ) (x : Standing) → slice_get xs i ≡ Some x → p x ≡ false → find p (remove xs i) ≡ find p xs
  find_less [] zero x h other = refl
  find_less [] (suc i) x h other = refl
  find_less (y ∷ xs) zero x h other = let e : y ≡ x = some_same y x h in rw (e, other) refl
  find_less (y ∷ xs) (suc i) x h other = ap (λ o. cond (p y) (Some y) o) (find_less xs i x h other)

  none_set : (xs : List Standing) (j : ℕ) (x y : Standing) → slice_get xs j ≡ Some x → p y ≡ p x → find p xs ≡ None → find p (set xs j y) ≡ None
  none_set [] j x y h same none = cc
  none_set (z ∷ xs) zero x y h same none = if_so (p z) (λ t. absurd (let e : Some z ≡ None = rw t at none in cc))
      (λ f. let e : p y ≡ false = same ∙ (ap p (sym (some_same z x h)) ∙ f) in rw e (rw f at none))
  none_set (z ∷ xs) (suc j) x y h same none = if_so (p z) (λ t. absurd (let e : Some z ≡ None = rw t at none in cc)) (λ f. rw f (none_set xs j x y h same (rw f at none)))

  none_less : (xs : List Standing) (j : ℕ) → find p xs ≡ None → find p (remove xs j) ≡ None
  none_less [] zero none = refl
  none_less [] (suc j) none = refl
  none_less (z ∷ xs) zero none = if_so (p z) (λ t. absurd (let e : Some z ≡ None = rw t at none in cc)) (λ f. rw f at none)
  none_less (z ∷ xs) (suc j) none = if_so (p z) (λ t. absurd (let e : Some z ≡ None = rw t at none in cc)) (λ f. rw f (none_less xs j (rw f at none)))

  none_more : (xs : List Standing) (y : Standing) → find p xs ≡ None → p y ≡ false → find p (xs ++ y ∷ []) ≡ None
  none_more [] y none other = rw other refl
  none_more (z ∷ xs) y none other = if_so (p z) (λ t. absurd (let e : Some z ≡ None = rw t at none in cc)) (λ f. rw f (none_more xs y (rw f at none) other))

  -- so none passes
  pub none_passes : (xs : List Standing) (j : ℕ) (x : Standing) → find p xs ≡ None → slice_get xs j ≡ Some x → p x ≡ false
  none_passes [] j x none h = cc
  none_passes (z ∷ xs) zero x none h = if_so (p z) (λ t. absurd (let e : Some z ≡ None = rw t at none in cc)) (λ f. ap p (sym (some_same z x h)) ∙ f)
  none_passes (z ∷ xs) (suc j) x none h = if_so (p z) (λ t. absurd (let e : Some z ≡ None = rw t at none in cc)) (λ f. none_passes xs j x (rw f at none) h)

pub set_same : (xs : List Standing) (i : ℕ) (x : Standing) → slice_get xs i ≡ Some x → set xs i x ≡ xs
set_same [] i x h = refl
set_same (z ∷ xs) zero x h = let e : z ≡ x = some_same z x h in rw e refl
set_same (z ∷ xs) (suc i) x h = ap (λ zs. z ∷ zs) (set_same xs i x h)

pub get_set : (xs : List Standing) (i : ℕ) (x y : Standing) → slice_get xs i ≡ Some x → slice_get (set xs i y) i ≡ Some y
get_set [] i x y h = cc
get_set (z ∷ xs) zero x y h = refl
get_set (z ∷ xs) (suc i) x y h = get_set xs i x y h

-- ---- none stands twice

pub single_set : (xs : List Standing) (j : ℕ) (x y : Standing) → slice_get xs j ≡ Some x → y.object ≡ x.object → Single xs → Single (set xs j y)
single_set [] j x y h same single = tt
single_set (z ∷ xs) zero x y h same single = (ap (λ o. find (is_standing o) xs) (same ∙ ap (λ (v : Standing). v.object) (sym (some_same z x h))) ∙ single.0, single.1)
single_set (z ∷ xs) (suc j) x y h same single = (none_set (is_standing z.object) xs j x y h (ap (same_object z.object) same) single.0, single_set xs j x y h same single.1)

pub single_less : (xs : List Standing) (j : ℕ) → Single xs → Single (remove xs j)
single_less [] zero single = tt
single_less [] (suc j) single = tt
single_less (z ∷ xs) zero single = single.1
single_less (z ∷ xs) (suc j) single = (none_less (is_standing z.object) xs j single.0, single_less xs j single.1)

pub single_more : (xs : List Standing) (y : Standing) → Single xs → AllByRecursion (λ (x : Standing). same_object x.object y.object ≡ false) xs → Single (xs ++ y ∷ [])
single_more [] y single other = (refl, tt)
single_more (x ∷ xs) y single other = (none_more (is_standing x.object) xs y single.0 other.0, single_more xs y single.1 other.1)

-- so the one at j is found
pub single_found : (xs : List Standing) (j : ℕ) (x : Standing) (o : Id) → Single xs → slice_get xs j ≡ Some x → same_object o x.object ≡ true → find (is_standing o) xs ≡ Some x
single_found [] j x o single at same = cc
single_found (z ∷ xs) zero x o single at same = cc
single_found (z ∷ xs) (suc j) x o single at same =
    let f : same_object z.object x.object ≡ false = none_passes (is_standing z.object) xs j x single.0 at in
    let g : same_object o z.object ≡ false =
    false_from (same_object o z.object) (λ t. let e : true ≡ false = sym (same_object-sym x.object z.object (sym (same_object-from o x.object z.object same) ∙ t)) ∙ f in cc) in
    rw g (single_found xs j x o single.1 at same)

-- what holds of other objects than the one that is set holds of all
pub all_but : (P : Standing → Type 0) (xs : List Standing) (j : ℕ) (x y : Standing) → Single xs → slice_get xs j ≡ Some x → P y
    → AllByRecursion (λ (z : Standing). same_object z.object x.object ≡ false → P z) xs → AllByRecursion P (set xs j y)
all_but P [] j x y single h p all = tt
all_but P (z ∷ xs) zero x y single h p all = (p, others xs single.0 all.1)
  where
    others : (ys : List Standing) → find (is_standing z.object) ys ≡ None → AllByRecursion (λ (v : Standing). same_object v.object x.object ≡ false → P v) ys → AllByRecursion P ys
    others [] none a = tt
    others (v ∷ ys) none a =
        let f : same_object z.object v.object ≡ false = none_passes (is_standing z.object) (v ∷ ys) 0 v none refl in
        let g : same_object x.object v.object ≡ false = ap (λ (u : Standing). same_object u.object v.object) (sym (some_same z x h)) ∙ f in (
          a.0 (false_from (same_object v.object x.object) (λ t. let e : true ≡ false = sym (same_object-sym v.object x.object t) ∙ g in cc)),
          others ys (none_less (is_standing z.object) (v ∷ ys) 0 none) a.1,
        )
all_but P (z ∷ xs) (suc j) x y single h p all = (all.0 (none_passes (is_standing z.object) xs j x single.0 h), all_but P xs j x y single.1 h p all.1)

-- ---- what is tidy stays tidy where other objects stand

pub retidy : (k n log births births' : ℕ) (objects objects' : List Standing) → births ≤ births'
    → ((o : Id) → is_some (find (is_standing o) objects) ≡ true → is_some (find (is_standing o) objects') ≡ true)
    → (i : Item) → IsTidyIn k n log births objects i → IsTidyIn k n log births' objects' i
retidy k n log births births' objects objects' le stand b h = grind arith

-- an object of kind Plain keeps no ids
none_long : {X : Type 0} (xs : List X) → length xs ≡ 0 → xs ≡ []
none_long [] h = refl
none_long (x ∷ xs) h = absurd (omega (arith, h))

pub plain_ids : (x : Standing) → IsKept x → x.object.kind ≡ 7 → x.state.ids ≡ []
plain_ids x kept kind = grind (arith, none_long)
