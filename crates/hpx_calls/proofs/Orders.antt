-- Keys in order: pairs put in and taken out leave them in order, and a key is found once.
use Rattle.std.specs.Prelude.{ℕ, Bool, true, false, nat_lt, List, [], ◌∷◌, ◌<◌, ◌≡◌, ◌≢◌, ◌==◌, ◌&&◌, ◌||◌, ◌⊎◌, Some, None, refl, if◌then◌else◌}
use Rattle.std.proofs.Common.{ap, sym, ◌∙◌, arith, inl, inr}
use Rattle.std.specs.Str.{bytes_eq}
use Rattle.std.proofs.lemmas.Slice.Eq.{bytes_eq-Decides}
use Rattle.std.proofs.lemmas.Bool.{cond_both, and_parts, and_from, eqb-true, eqb-false, eq-eqb, lt-ltb, le-ltb, ltb-true, ltb-false}
use Rattle.hpx_calls.specs.Contents.{Pair, precedes, rises_from}
use Rattle.hpx_calls.specs.Tables.{found, added, removed}

-- ---- the order of bytes

first_parts : (x y : ℕ) (b : Bool) → (nat_lt x y || ((x == y) && b)) ≡ true → (x < y) ⊎ ((x ≡ y) × (b ≡ true))
first_parts x y b e = by_test (nat_lt x y) refl e
  where
    by_test : (t : Bool) → nat_lt x y ≡ t → (t || ((x == y) && b)) ≡ true → (x < y) ⊎ ((x ≡ y) × (b ≡ true))
    by_test true f g = inl (ltb-true x y f)
    by_test false f g = let parts = and_parts (x == y) b g in inr (eqb-true x y parts.0, parts.1)

from_less : (x y : ℕ) (b : Bool) → x < y → (nat_lt x y || ((x == y) && b)) ≡ true
from_less x y b low = ap (λ t. t || ((x == y) && b)) (lt-ltb x y low)

from_same : (x y : ℕ) (b : Bool) → x ≡ y → b ≡ true → (nat_lt x y || ((x == y) && b)) ≡ true
from_same x y b e f = ap (λ t. t || ((x == y) && b)) (le-ltb x y (omega arith)) ∙ and_from (x == y) b (eq-eqb x y e) f

none_first : (xs : List ℕ) → precedes xs [] ≡ true → ⊥
none_first [] e = cc
none_first (x ∷ xs) e = cc

pub precedes_on : (xs ys zs : List ℕ) → precedes xs ys ≡ true → precedes ys zs ≡ true → precedes xs zs ≡ true
precedes_on xs [] zs e f = absurd (none_first xs e)
precedes_on xs (y ∷ ys) [] e f = absurd (none_first (y ∷ ys) f)
precedes_on [] (y ∷ ys) (z ∷ zs) e f = refl
precedes_on (x ∷ xs) (y ∷ ys) (z ∷ zs) e f = by_case (first_parts x y (precedes xs ys) e) (first_parts y z (precedes ys zs) f) (precedes_on xs ys zs)
  where
    by_case : (x < y) ⊎ ((x ≡ y) × (precedes xs ys ≡ true)) → (y < z) ⊎ ((y ≡ z) × (precedes ys zs ≡ true))
        → (precedes xs ys ≡ true → precedes ys zs ≡ true → precedes xs zs ≡ true) → (nat_lt x z || ((x == z) && precedes xs zs)) ≡ true
    by_case (inl p) (inl q) rest = from_less x z (precedes xs zs) (omega arith)
    by_case (inl p) (inr q) rest = let same = q.0 in from_less x z (precedes xs zs) (omega arith)
    by_case (inr p) (inl q) rest = let same = p.0 in from_less x z (precedes xs zs) (omega arith)
    by_case (inr p) (inr q) rest = from_same x z (precedes xs zs) (p.0 ∙ q.0) (rest p.1 q.1)

pub precedes_not : (xs : List ℕ) → precedes xs xs ≡ true → ⊥
precedes_not [] e = cc
precedes_not (x ∷ xs) e = by_case (first_parts x x (precedes xs xs) e) (precedes_not xs)
  where
    by_case : (x < x) ⊎ ((x ≡ x) × (precedes xs xs ≡ true)) → (precedes xs xs ≡ true → ⊥) → ⊥
    by_case (inl p) rest = omega arith
    by_case (inr p) rest = rest p.1

pub precedes_other : (xs ys : List ℕ) → precedes xs ys ≡ false → xs ≢ ys → precedes ys xs ≡ true
precedes_other [] [] e other = absurd (other refl)
precedes_other [] (y ∷ ys) e other = cc
precedes_other (x ∷ xs) [] e other = refl
precedes_other (x ∷ xs) (y ∷ ys) e other = by_tests (nat_lt x y) (x == y) refl refl e (λ f g. precedes_other xs ys f (λ same. other (lists g same)))
  where
    lists : x ≡ y → xs ≡ ys → (x ∷ xs) ≡ (y ∷ ys)
    lists p q = cc

    by_tests : (s t : Bool) → nat_lt x y ≡ s → (x == y) ≡ t → (s || (t && precedes xs ys)) ≡ false → (precedes xs ys ≡ false → x ≡ y → precedes ys xs ≡ true)
        → (nat_lt y x || ((y == x) && precedes ys xs)) ≡ true
    by_tests true t f g h rest = absurd (cc)
    by_tests false true f g h rest = let same = eqb-true x y g in from_same y x (precedes ys xs) (sym same) (rest h same)
    by_tests false false f g h rest =
        let high = ltb-false x y f in
        let differ = eqb-false x y g in
        from_less y x (precedes ys xs) (omega arith)

-- ---- tests on equal bytes

pub bytes_same : (xs ys : List ℕ) → bytes_eq xs ys ≡ true → xs ≡ ys
bytes_same xs ys e = (bytes_eq-Decides xs ys).0 e

pub bytes_differ : (xs ys : List ℕ) → xs ≢ ys → bytes_eq xs ys ≡ false
bytes_differ xs ys other = by_test (bytes_eq xs ys) refl
  where
    by_test : (b : Bool) → bytes_eq xs ys ≡ b → b ≡ false
    by_test true e = absurd (other (bytes_same xs ys e))
    by_test false e = refl

pub bytes_itself : (xs : List ℕ) → bytes_eq xs xs ≡ true
bytes_itself xs = (bytes_eq-Decides xs xs).1 refl

pub not_same : (xs ys : List ℕ) → bytes_eq xs ys ≡ false → xs ≢ ys
not_same xs ys e same =
    let yes : bytes_eq xs ys ≡ true = (bytes_eq-Decides xs ys).1 same in
    let both : true ≡ false = sym yes ∙ e in
    cc

-- ---- pairs in order

-- a smaller key in front
pub rises_lower : {V : Type 0} (low key : List ℕ) (xs : List (Pair V)) → precedes low key ≡ true → rises_from key xs ≡ true → rises_from low xs ≡ true
rises_lower low key [] e h = refl
rises_lower low key (x ∷ xs) e h =
    let parts = and_parts (precedes key x.key) (rises_from x.key xs) h in
    and_from (precedes low x.key) (rises_from x.key xs) (precedes_on low key x.key e parts.0) parts.1

-- no key that comes later is the first
pub none_later : {V : Type 0} (key : List ℕ) (xs : List (Pair V)) → rises_from key xs ≡ true → found key xs ≡ None
none_later key [] h = refl
none_later key (x ∷ xs) h =
    let parts = and_parts (precedes key x.key) (rises_from x.key xs) h in
    let other = bytes_differ key x.key (λ e. precedes_not key (ap (precedes key) e ∙ parts.0)) in
    ap (λ (b : Bool). if b then Some x.to else found key xs) other ∙ none_later key xs (rises_lower key x.key xs parts.0 parts.1)

found_not : {V : Type 0} (key : List ℕ) (x : Pair V) (xs : List (Pair V)) → found key (x ∷ xs) ≡ None → (key ≢ x.key) × (found key xs ≡ None)
found_not key x xs e = by_test (bytes_eq key x.key) refl e
  where
    by_test : (b : Bool) → bytes_eq key x.key ≡ b → (if b then Some x.to else found key xs) ≡ None → (key ≢ x.key) × (found key xs ≡ None)
    by_test true f g = absurd (cc)
    by_test false f g = (not_same key x.key f, g)

pub rises_added : {V : Type 0} (low key : List ℕ) (to : V) (xs : List (Pair V)) → rises_from low xs ≡ true → precedes low key ≡ true → found key xs ≡ None → rises_from low (added key to xs) ≡ true
rises_added low key to [] h e none = and_from (precedes low key) true e refl
rises_added low key to (x ∷ xs) h e none =
    let parts = and_parts (precedes low x.key) (rises_from x.key xs) h in
    let other = found_not key x xs none in
    cond_both (precedes key x.key) _ _ (λ ys. rises_from low ys ≡ true)
    (λ f. and_from (precedes low key) (precedes key x.key && rises_from x.key xs) e (and_from (precedes key x.key) (rises_from x.key xs) f parts.1))
    (λ f. and_from (precedes low x.key) (rises_from x.key (added key to xs)) parts.0 (rises_added x.key key to xs parts.1 (precedes_other key x.key f other.0) other.1))

pub rises_removed : {V : Type 0} (low key : List ℕ) (xs : List (Pair V)) → rises_from low xs ≡ true → rises_from low (removed key xs) ≡ true
rises_removed low key [] h = refl
rises_removed low key (x ∷ xs) h =
    let parts = and_parts (precedes low x.key) (rises_from x.key xs) h in
    cond_both (bytes_eq key x.key) _ _ (λ ys. rises_from low ys ≡ true) (λ e. rises_lower low x.key xs parts.0 parts.1)
    (λ e. and_from (precedes low x.key) (rises_from x.key (removed key xs)) parts.0 (rises_removed x.key key xs parts.1))

-- ---- what is found afterwards

pub found_added : {V : Type 0} (key at : List ℕ) (to : V) (xs : List (Pair V)) → found key xs ≡ None → found at (added key to xs) ≡ (if bytes_eq at key then Some to else found at xs)
found_added key at to [] none = refl
found_added key at to (x ∷ xs) none =
    let other = found_not key x xs none in
    cond_both (precedes key x.key) _ _ (λ ys. found at ys ≡ (if bytes_eq at key then Some to else found at (x ∷ xs))) (λ e. refl)
    (λ e. behind (bytes_eq at x.key) refl other.0 (found_added key at to xs other.1))
  where
    behind : (b : Bool) → bytes_eq at x.key ≡ b → key ≢ x.key → found at (added key to xs) ≡ (if bytes_eq at key then Some to else found at xs)
        → (if b then Some x.to else found at (added key to xs)) ≡ (if bytes_eq at key then Some to else if b then Some x.to else found at xs)
    behind false e other rest = rest
    behind true e other rest =
        let differ = bytes_differ at key (λ same. other (sym same ∙ bytes_same at x.key e)) in
        ap (λ (t : Bool). if t then Some to else Some x.to) (sym differ)

pub found_removed : {V : Type 0} (low key at : List ℕ) (xs : List (Pair V)) → rises_from low xs ≡ true → found at (removed key xs) ≡ (if bytes_eq at key then None else found at xs)
found_removed low key at [] h = empty (bytes_eq at key)
  where
    empty : {V : Type 0} (b : Bool) → found {V = V} at [] ≡ (if b then None else None)
    empty true = refl
    empty false = refl
found_removed low key at (x ∷ xs) h =
    let parts = and_parts (precedes low x.key) (rises_from x.key xs) h in
    cond_both (bytes_eq key x.key) _ _ (λ ys. found at ys ≡ (if bytes_eq at key then None else found at (x ∷ xs)))
    (λ e. first (bytes_eq at key) refl (bytes_same key x.key e) parts.1)
    (λ e. later (bytes_eq at x.key) refl (not_same key x.key e) (found_removed x.key key at xs parts.1))
  where
    first : (b : Bool) → bytes_eq at key ≡ b → key ≡ x.key → rises_from x.key xs ≡ true → found at xs ≡ (if b then None else if bytes_eq at x.key then Some x.to else found at xs)
    first true e same rises = let is : at ≡ x.key = bytes_same at key e ∙ same in ap (λ k. found k xs) is ∙ none_later x.key xs rises
    first false e same rises =
        let differ = bytes_differ at x.key (λ f. not_same at key e (f ∙ sym same)) in
        ap (λ (t : Bool). if t then Some x.to else found at xs) (sym differ)

    later : (b : Bool) → bytes_eq at x.key ≡ b → key ≢ x.key → found at (removed key xs) ≡ (if bytes_eq at key then None else found at xs)
        → (if b then Some x.to else found at (removed key xs)) ≡ (if bytes_eq at key then None else if b then Some x.to else found at xs)
    later false e other rest = rest
    later true e other rest =
        let differ = bytes_differ at key (λ same. other (sym same ∙ bytes_same at x.key e)) in
        ap (λ (t : Bool). if t then None else Some x.to) (sym differ)

-- ---- pairs in order, whatever the first key

abbrev pub is_sorted : {V : Type 0} → List (Pair V) → Bool
is_sorted [] = true
is_sorted (x ∷ xs) = rises_from x.key xs

pub sorted_added : {V : Type 0} (key : List ℕ) (to : V) (xs : List (Pair V)) → is_sorted xs ≡ true → found key xs ≡ None → is_sorted (added key to xs) ≡ true
sorted_added key to [] h none = refl
sorted_added key to (x ∷ xs) h none =
    let other = found_not key x xs none in
    cond_both (precedes key x.key) _ _ (λ ys. is_sorted ys ≡ true) (λ f. and_from (precedes key x.key) (rises_from x.key xs) f h)
    (λ f. rises_added x.key key to xs h (precedes_other key x.key f other.0) other.1)

sorted_rest : {V : Type 0} (low : List ℕ) (xs : List (Pair V)) → rises_from low xs ≡ true → is_sorted xs ≡ true
sorted_rest low [] h = refl
sorted_rest low (x ∷ xs) h = (and_parts (precedes low x.key) (rises_from x.key xs) h).1

pub sorted_removed : {V : Type 0} (key : List ℕ) (xs : List (Pair V)) → is_sorted xs ≡ true → is_sorted (removed key xs) ≡ true
sorted_removed key [] h = refl
sorted_removed key (x ∷ xs) h =
    cond_both (bytes_eq key x.key) _ _ (λ ys. is_sorted ys ≡ true) (λ e. sorted_rest x.key xs h) (λ e. rises_removed x.key key xs h)

pub sorted_found : {V : Type 0} (key at : List ℕ) (xs : List (Pair V)) → is_sorted xs ≡ true → found at (removed key xs) ≡ (if bytes_eq at key then None else found at xs)
sorted_found key at [] h = found_removed [] key at [] refl
sorted_found key at (x ∷ xs) h =
    cond_both (bytes_eq key x.key) _ _ (λ ys. found at ys ≡ (if bytes_eq at key then None else found at (x ∷ xs)))
    (λ e. first (bytes_eq at key) refl (bytes_same key x.key e) h)
    (λ e. later (bytes_eq at x.key) refl (not_same key x.key e) (found_removed x.key key at xs h))
  where
    first : (b : Bool) → bytes_eq at key ≡ b → key ≡ x.key → rises_from x.key xs ≡ true → found at xs ≡ (if b then None else if bytes_eq at x.key then Some x.to else found at xs)
    first true e same rises = let is : at ≡ x.key = bytes_same at key e ∙ same in ap (λ k. found k xs) is ∙ none_later x.key xs rises
    first false e same rises =
        let differ = bytes_differ at x.key (λ f. not_same at key e (f ∙ sym same)) in
        ap (λ (t : Bool). if t then Some x.to else found at xs) (sym differ)

    later : (b : Bool) → bytes_eq at x.key ≡ b → key ≢ x.key → found at (removed key xs) ≡ (if bytes_eq at key then None else found at xs)
        → (if b then Some x.to else found at (removed key xs)) ≡ (if bytes_eq at key then None else if b then Some x.to else found at xs)
    later false e other rest = rest
    later true e other rest =
        let differ = bytes_differ at key (λ same. other (sym same ∙ bytes_same at x.key e)) in
        ap (λ (t : Bool). if t then None else Some x.to) (sym differ)
