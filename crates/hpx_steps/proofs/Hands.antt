-- An id is put at a place of a hand.
use Rattle.hpx_steps.proofs.Common.{AllByRecursion, Bool, Id, List, Some, Waits, [], ap, arith, bare, cond, count_by, count_same, drop, false, filter, id_at, is_asked, is_asked_for, length, list_any, map, names_of, refl, same_object, set, slice_get, some_same, suc, sum_by-cons, sym, take, true, zero, ℕ, ◌&&◌, ◌++◌, ◌+◌, ◌<◌, ◌==◌, ◌∙◌, ◌∷◌, ◌≡◌}
use Rattle.hpx_tables.specs.declared.pending.Asked.{Asked}

-- ---- places

pub at_place : (ids : List Id) (p : ℕ) (x : Id) → slice_get ids p ≡ Some x → (p < length ids) × (id_at ids p ≡ x)
at_place [] p x at = cc
at_place (y ∷ ys) zero x at = (omega arith, some_same y x at)
at_place (y ∷ ys) (suc p) x at = let k = at_place ys p x at in (omega (arith, k.0), k.1)

pub take_place : (n : ℕ) (ids : List Id) (p : ℕ) → p < n → id_at (take n ids) p ≡ id_at ids p
take_place zero ids p lt = absurd (omega (arith, lt))
take_place (suc n) [] p lt = refl
take_place (suc n) (x ∷ xs) zero lt = refl
take_place (suc n) (x ∷ xs) (suc p) lt = take_place n xs p (omega (arith, lt))

pub front_place : (P : Id → Type 0) (xs ys : List Id) (p : ℕ) → AllByRecursion P xs → p < length xs → P (id_at (xs ++ ys) p)
front_place P [] ys p h lt = absurd (omega (arith, lt))
front_place P (x ∷ xs) ys zero h lt = h.0
front_place P (x ∷ xs) ys (suc p) h lt = front_place P xs ys p h.1 (omega (arith, lt))

pub names_place : (xs ys : List Id) → map bare xs ≡ map bare ys → (p : ℕ) → bare (id_at xs p) ≡ bare (id_at ys p)
names_place xs ys e p = sym (at xs p) ∙ (ap (λ zs. id_at zs p) e ∙ at ys p)
  where
    at : (zs : List Id) (q : ℕ) → id_at (map bare zs) q ≡ bare (id_at zs q)
    at [] q = refl
    at (z ∷ zs) zero = refl
    at (z ∷ zs) (suc q) = at zs q

-- an id of the object of one at a place names one of them
pub any_place : (o : Id) (ids : List Id) (p : ℕ) → p < length ids → bare o ≡ bare (id_at ids p) → list_any (same_object o) ids ≡ true
any_place o [] p lt same = absurd (omega (arith, lt))
any_place o (x ∷ xs) zero lt same = grind arith
any_place o (x ∷ xs) (suc p) lt same = grind (arith, Bool, any_place o xs p)

-- ---- another id at a place

pub put_there : (ids : List Id) (p : ℕ) (y : Id) → p < length ids → id_at (set ids p y) p ≡ y
put_there [] p y lt = absurd (omega (arith, lt))
put_there (x ∷ xs) zero y lt = refl
put_there (x ∷ xs) (suc p) y lt = put_there xs p y (omega (arith, lt))

pub put_elsewhere : (ids : List Id) (p q : ℕ) (y : Id) → (q ≡ p → ⊥) → id_at (set ids p y) q ≡ id_at ids q
put_elsewhere [] p q y ne = refl
put_elsewhere (x ∷ xs) zero zero y ne = absurd (ne refl)
put_elsewhere (x ∷ xs) zero (suc q) y ne = refl
put_elsewhere (x ∷ xs) (suc p) zero y ne = refl
put_elsewhere (x ∷ xs) (suc p) (suc q) y ne = put_elsewhere xs p q y (λ e. ne (ap suc e))

-- of the same object
pub put_bare : (ids : List Id) (p : ℕ) (x y : Id) → slice_get ids p ≡ Some x → bare y ≡ bare x → (q : ℕ) → bare (id_at (set ids p y) q) ≡ bare (id_at ids q)
put_bare [] p x y at same q = cc
put_bare (z ∷ zs) zero x y at same zero = same ∙ ap bare (sym (some_same z x at))
put_bare (z ∷ zs) zero x y at same (suc q) = refl
put_bare (z ∷ zs) (suc p) x y at same zero = refl
put_bare (z ∷ zs) (suc p) x y at same (suc q) = put_bare zs p x y at same q

pub put_names : (n : ℕ) (ids : List Id) (p : ℕ) (x y : Id) → slice_get ids p ≡ Some x → bare y ≡ bare x → map bare (take n (set ids p y)) ≡ map bare (take n ids)
put_names zero ids p x y at same = refl
put_names (suc n) [] p x y at same = refl
put_names (suc n) (z ∷ zs) zero x y at same = ap (λ i. i ∷ map bare (take n zs)) (same ∙ ap bare (sym (some_same z x at)))
put_names (suc n) (z ∷ zs) (suc p) x y at same = ap (λ is. bare z ∷ is) (put_names n zs p x y at same)

pub put_behind : (n : ℕ) (ids : List Id) (p : ℕ) (y : Id) → p < n → drop n (set ids p y) ≡ drop n ids
put_behind zero ids p y lt = absurd (omega (arith, lt))
put_behind (suc n) [] p y lt = refl
put_behind (suc n) (x ∷ xs) zero y lt = refl
put_behind (suc n) (x ∷ xs) (suc p) y lt = put_behind n xs p y (omega (arith, lt))

-- 1 for an id of o that was asked for
abbrev pub asks_one : Id → Id → ℕ
asks_one o x = cond (is_asked x) (cond (same_object o x) 1 0) 0

asked_behind : (o z : Id) (xs ys : List Id) (a b : ℕ) → names_of o (filter is_asked xs) + a ≡ names_of o (filter is_asked ys) + b → (c : Bool) → is_asked z ≡ c
    → names_of o (filter is_asked (z ∷ xs)) + a ≡ names_of o (filter is_asked (z ∷ ys)) + b
asked_behind o z xs ys a b same true e = rw e (omega (arith, same, sum_by-cons (λ k. cond (same_object o k) 1 0)))
asked_behind o z xs ys a b same false e = rw e same

pub put_asked : (o : Id) (n : ℕ) (ids : List Id) (p : ℕ) (x y : Id) → p < n → slice_get ids p ≡ Some x
    → names_of o (filter is_asked (take n (set ids p y))) + asks_one o x ≡ names_of o (filter is_asked (take n ids)) + asks_one o y
put_asked o zero ids p x y lt at = absurd (omega (arith, lt))
put_asked o (suc n) [] p x y lt at = cc
put_asked o (suc n) (z ∷ zs) zero x y lt at = omega (arith, one y (is_asked y) refl, one z (is_asked z) refl, ap (asks_one o) (some_same z x at))
  where
    one : (i : Id) (b : Bool) → is_asked i ≡ b → names_of o (cond (is_asked i) (i ∷ filter is_asked (take n zs)) (filter is_asked (take n zs)))
        ≡ asks_one o i + names_of o (filter is_asked (take n zs))
    one i true e = rw e (omega (arith, sum_by-cons (λ k. cond (same_object o k) 1 0) i (filter is_asked (take n zs))))
    one i false e = rw e (omega arith)
put_asked o (suc n) (z ∷ zs) (suc p) x y lt at = asked_behind o z (take n (set zs p y)) (take n zs) (asks_one o x) (asks_one o y) (put_asked o n zs p x y (omega (arith, lt)) at) (is_asked z) refl

-- what waits for an id waits for one of the same object
pub put_for : (w w' : Waits) (o : Id) (n : ℕ) → ((q : ℕ) → bare (id_at w'.hand q) ≡ bare (id_at w.hand q)) → (xs : List Asked) → count_by (is_asked_for w' o n) xs ≡ count_by (is_asked_for w o n) xs
put_for w w' o n same xs = count_same (is_asked_for w' o n) (is_asked_for w o n) (λ x. ap (λ (y : Id). (x.entry == n) && same_object o y) (same x.place)) xs

pub place_at : (ids : List Id) (p : ℕ) → p < length ids → slice_get ids p ≡ Some (id_at ids p)
place_at [] p lt = absurd (omega (arith, lt))
place_at (x ∷ xs) zero lt = refl
place_at (x ∷ xs) (suc p) lt = place_at xs p (omega (arith, lt))
