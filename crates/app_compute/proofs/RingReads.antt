-- What a session reads of a ring: parts of its size, whose objects are those that its values name.
use Rattle.std.specs.Prelude.{ℕ, zero, suc, ℤ, true, nat_le, List, [], ◌∷◌, ◌++◌, ◌≡◌, ◌≤◌, ◌<◌, ◌+◌, ◌*◌, ◌==◌, ◌&&◌, ◌⊎◌, Option, Some, None, IfSome, length, refl}
use Rattle.std.specs.List.{AllByRecursion, count_by}
use Rattle.std.proofs.Common.{sym, ap, ◌∙◌, subst, arith, lit≤, inl, inr}
use Rattle.std.proofs.Math.Nat.{mul-suc}
use Rattle.std.proofs.lemmas.Bool.{and_parts, cond_both, eqb-true, leb-true}
use Rattle.std.proofs.lemmas.List.Sums.{count_by-le-length}
use Rattle.hpx_value.specs.Values.{refs_in}
use Rattle.hpx_value.specs.Shapes.{IsValue, values_size}
use Rattle.hpx_calls.specs.Contents.{both, count_in}
use Rattle.hpx_calls.proofs.Keeps.{all_append, count-append}
use Rattle.app_compute.specs.Types.{Value, Nothing, Flag, Int, Text, Ref, Fault, Ints}
use Rattle.app_compute.specs.declared.ring.Part.{Part}
use Rattle.app_compute.specs.declared.ring.Ring.{Ring}
use Rattle.app_compute.specs.Stencil.{part_by, parts_in, parts_out, ring_by, ring_in, ring_sized, row_in, row_out, to_in, to_out}
use Rattle.app_compute.specs.StencilSession.{answered, cleared, first_rows, parts_with, rows_of}
use Rattle.app_compute.proofs.Small.{count_below}

-- ---- parts

-- the place of an object, if it has come
abbrev pub listed_place : Option ℕ → List ℕ
listed_place None = []
listed_place (Some place) = place ∷ []

-- the places of all objects that have come
abbrev pub part_places : List Part → List ℕ
part_places [] = []
part_places (x ∷ parts) = listed_place x.to ++ part_places parts

-- as many numbers as a part has points
abbrev pub IsSized : ℕ → Option (List ℤ) → Type 0
IsSized size None = Unit {0}
IsSized size (Some numbers) = length numbers ≡ size

abbrev pub AreSized : ℕ → List Part → Type 0
AreSized size parts = AllByRecursion (λ x. IsSized size x.row) parts

pub refs_parts : (parts : List Part) → refs_in (parts_out parts) ≡ part_places parts
refs_parts [] = refl
refs_parts (x ∷ parts) = by x.to x.row (refs_parts parts)
  where
    by : (to : Option ℕ) (row : Option (List ℤ)) → refs_in (parts_out parts) ≡ part_places parts
        → refs_in (to_out to ∷ row_out row ∷ parts_out parts) ≡ listed_place to ++ part_places parts
    by None None e = e
    by None (Some numbers) e = e
    by (Some place) None e = ap (λ ps. place ∷ ps) e
    by (Some place) (Some numbers) e = ap (λ ps. place ∷ ps) e

pub places_few : (parts : List Part) → length (part_places parts) ≤ length parts
places_few [] = lit≤ tt
places_few (x ∷ parts) = by x.to (places_few parts)
  where
    by : (to : Option ℕ) → length (part_places parts) ≤ length parts → length (listed_place to ++ part_places parts) ≤ suc (length parts)
    by None h = omega arith
    by (Some place) h = omega arith

-- ---- values

pub parts_few : (parts : List Part) → length (parts_out parts) ≡ length parts + length parts
parts_few [] = refl
parts_few (x ∷ parts) = let rest = parts_few parts in omega arith

pub parts_fit : (size : ℕ) (parts : List Part) → size ≤ 1024 → AreSized size parts
    → AllByRecursion IsValue (parts_out parts) × (values_size (parts_out parts) ≤ 20 * length parts + 8 * (size * length parts))
parts_fit size [] small h = (tt, omega arith)
parts_fit size (x ∷ parts) small h = by x.to x.row h.0 (parts_fit size parts small h.1)
  where
    by : (to : Option ℕ) (row : Option (List ℤ)) → IsSized size row
        → AllByRecursion IsValue (parts_out parts) × (values_size (parts_out parts) ≤ 20 * length parts + 8 * (size * length parts))
        → AllByRecursion IsValue (to_out to ∷ row_out row ∷ parts_out parts)
        × (values_size (to_out to ∷ row_out row ∷ parts_out parts) ≤ 20 * suc (length parts) + 8 * (size * suc (length parts)))
    by None None sized rest = let r = rest.1 in let m = mul-suc size (length parts) in ((tt, (tt, rest.0)), omega arith)
    by None (Some numbers) sized rest = let r = rest.1 in let m = mul-suc size (length parts) in ((tt, (omega arith, rest.0)), omega arith)
    by (Some place) None sized rest = let r = rest.1 in let m = mul-suc size (length parts) in ((tt, (tt, rest.0)), omega arith)
    by (Some place) (Some numbers) sized rest = let r = rest.1 in let m = mul-suc size (length parts) in ((tt, (omega arith, rest.0)), omega arith)

-- ---- what values show

some_same : {X : Type 0} (x y : X) → Some x ≡ Some y → x ≡ y
some_same x y h = cc

-- parts as values show them
record AreRead (size : ℕ) (vs : List Value) (parts : List Part) : Type 0 where
  refs : refs_in vs ≡ part_places parts
  rows : AreSized size parts

read_pair : (size : ℕ) (v w : Value) (vs : List Value) (parts : List Part) → AreRead size vs parts → IfSome (part_by (to_in v) (row_in size w)) (λ x. AreRead size (v ∷ w ∷ vs) (x ∷ parts))
read_pair size Nothing Nothing vs parts h = record { refs = h.refs; rows = (tt, h.rows) }
read_pair size (Ref p) Nothing vs parts h = record { refs = ap (λ ps. p ∷ ps) h.refs; rows = (tt, h.rows) }
read_pair size Nothing (Ints zs) vs parts h =
    cond_both (length zs == size) _ _ (λ o. IfSome (part_by (Some None) o) (λ x. AreRead size (Nothing ∷ Ints zs ∷ vs) (x ∷ parts)))
    (λ e. record { refs = h.refs; rows = (eqb-true (length zs) size e, h.rows) }) (λ e. tt)
read_pair size (Ref p) (Ints zs) vs parts h =
    cond_both (length zs == size) _ _ (λ o. IfSome (part_by (Some (Some p)) o) (λ x. AreRead size (Ref p ∷ Ints zs ∷ vs) (x ∷ parts)))
    (λ e. record { refs = ap (λ ps. p ∷ ps) h.refs; rows = (eqb-true (length zs) size e, h.rows) }) (λ e. tt)
read_pair size Nothing (Flag b) vs parts h = tt
read_pair size Nothing (Int z) vs parts h = tt
read_pair size Nothing (Text t) vs parts h = tt
read_pair size Nothing (Ref q) vs parts h = tt
read_pair size Nothing (Fault c) vs parts h = tt
read_pair size (Ref p) (Flag b) vs parts h = tt
read_pair size (Ref p) (Int z) vs parts h = tt
read_pair size (Ref p) (Text t) vs parts h = tt
read_pair size (Ref p) (Ref q) vs parts h = tt
read_pair size (Ref p) (Fault c) vs parts h = tt
read_pair size (Flag b) w vs parts h = tt
read_pair size (Int z) w vs parts h = tt
read_pair size (Text t) w vs parts h = tt
read_pair size (Fault c) w vs parts h = tt
read_pair size (Ints zs) w vs parts h = tt

both_read : (size : ℕ) (v w : Value) (vs : List Value) (o : Option (List Part)) → IfSome o (AreRead size vs)
    → IfSome (both (part_by (to_in v) (row_in size w)) o) (AreRead size (v ∷ w ∷ vs))
both_read size v w vs None h = none (part_by (to_in v) (row_in size w))
  where
    none : (x : Option Part) → IfSome (both x None) (AreRead size (v ∷ w ∷ vs))
    none None = tt
    none (Some x) = tt
both_read size v w vs (Some parts) h = some (part_by (to_in v) (row_in size w)) (read_pair size v w vs parts h)
  where
    some : (x : Option Part) → IfSome x (λ y. AreRead size (v ∷ w ∷ vs) (y ∷ parts)) → IfSome (both x (Some parts)) (AreRead size (v ∷ w ∷ vs))
    some None h = tt
    some (Some x) h = h

parts_read : (size : ℕ) (vs : List Value) → IfSome (parts_in size vs) (AreRead size vs)
parts_read size [] = record { refs = refl; rows = tt }
parts_read size (v ∷ []) = tt
parts_read size (v ∷ w ∷ vs) = both_read size v w vs (parts_in size vs) (parts_read size vs)

-- a ring as values show it
pub record IsRead (vs : List Value) (x : Ring) : Type 0 where
  pub refs : refs_in vs ≡ part_places x.parts
  pub rows : AreSized x.size x.parts
  pub few : length x.parts ≤ 32
  pub short : x.size * length x.parts ≤ 1024
  pub size : x.size ≤ 1024

by_read : (rows first size : ℕ) (vs ws : List Value) (o : Option (List Part)) → refs_in ws ≡ refs_in vs → size ≤ 1024 → IfSome o (AreRead size vs)
    → IfSome (ring_by rows first size o) (IsRead ws)
by_read rows first size vs ws None same small h = tt
by_read rows first size vs ws (Some parts) same small h =
    cond_both (nat_le (length parts) 32 && nat_le (size * length parts) 1024) _ _ (λ o. IfSome o (IsRead ws))
    (λ e.
    let both = and_parts (nat_le (length parts) 32) (nat_le (size * length parts) 1024) e in
    record { refs = same ∙ h.refs; rows = h.rows; few = leb-true (length parts) 32 both.0; short = leb-true (size * length parts) 1024 both.1; size = small })
    (λ e. tt)

sized_read : (rows first size : Option ℕ) (vs ws : List Value) → refs_in ws ≡ refs_in vs → IfSome size (λ k. k ≤ 1024) → IfSome (ring_sized rows first size vs) (IsRead ws)
sized_read None first size vs ws same small = tt
sized_read (Some rows) None size vs ws same small = tt
sized_read (Some rows) (Some first) None vs ws same small = tt
sized_read (Some rows) (Some first) (Some size) vs ws same small = by_read rows first size vs ws (parts_in size vs) same small (parts_read size vs)

pub ring_read : (vs : List Value) → IfSome (ring_in vs) (IsRead vs)
ring_read (Flag true ∷ Int rows ∷ Int first ∷ Int size ∷ vs) =
    sized_read (count_in 1000 rows) (count_in 4294967295 first) (count_in 1024 size) vs (Flag true ∷ Int rows ∷ Int first ∷ Int size ∷ vs) refl (count_below 1024 size)
ring_read _ = tt

-- ---- an answer

-- the parts after it: as many, of the same size, with at most one object more
pub record IsAfter (size limit : ℕ) (old new : List Part) : Type 0 where
  pub many : length new ≡ length old
  pub rows : AreSized size new
  pub below : AllByRecursion (λ p. p < limit) (part_places new)
  pub more : (place : ℕ) → count_by (λ p. p == place) (part_places new) ≤ count_by (λ p. p == place) (part_places old) + 1

module _ (size places limit : ℕ) (v : Value) (fresh : (p : ℕ) → v ≡ Ref p → places + p < limit) where
  -- the part that is answered
  record IsAnswered (to : Option ℕ) (x : Part) : Type 0 where
    rows : IsSized size x.row
    place : (x.to ≡ to) ⊎ ((k : ℕ) × (x.to ≡ Some k) × (k < limit))

  part_answered : (w : Value) → v ≡ w → (to : Option ℕ) (row : Option (List ℤ)) → IfSome (answered size places w to row) (IsAnswered to)
  part_answered (Ref p) e None row = record { rows = tt; place = inr (places + p, refl, fresh p e) }
  part_answered (Ints zs) e (Some to) None =
      cond_both (length zs == size) _ _ (λ o. IfSome o (IsAnswered (Some to))) (λ i. record { rows = eqb-true (length zs) size i; place = inl refl }) (λ i. tt)
  part_answered (Ints zs) e (Some to) (Some row) = tt
  part_answered (Ints zs) e None row = tt
  part_answered (Ref p) e (Some to) row = tt
  part_answered Nothing e to row = tt
  part_answered (Flag b) e to row = tt
  part_answered (Int z) e to row = tt
  part_answered (Text t) e to row = tt
  part_answered (Fault c) e to row = tt

  below_one : (to : Option ℕ) (x : Part) → IsAnswered to x → AllByRecursion (λ p. p < limit) (listed_place to) → AllByRecursion (λ p. p < limit) (listed_place x.to)
  below_one to x h low = elim h.place [
    | inl e ↦ subst (λ o. AllByRecursion (λ p. p < limit) (listed_place o)) (sym e) low
    | inr i ↦ subst (λ o. AllByRecursion (λ p. p < limit) (listed_place o)) (sym i.1) (i.2, tt)
  ]

  more_one : (to : Option ℕ) (x : Part) (place : ℕ) → IsAnswered to x
      → count_by (λ p. p == place) (listed_place x.to) ≤ count_by (λ p. p == place) (listed_place to) + 1
  more_one to x place h = elim h.place [
    | inl e ↦ let same = ap (λ o. count_by (λ p. p == place) (listed_place o)) e in omega arith
    | inr i ↦
        let same = ap (λ o. count_by (λ p. p == place) (listed_place o)) i.1 in
        let few = count_by-le-length (λ p. p == place) (i.0 ∷ []) in
        omega arith
  ]

  all_front : (xs ys : List ℕ) → AllByRecursion (λ p. p < limit) (xs ++ ys) → AllByRecursion (λ p. p < limit) xs × AllByRecursion (λ p. p < limit) ys
  all_front [] ys h = (tt, h)
  all_front (x ∷ xs) ys h = let rest = all_front xs ys h.1 in ((h.0, rest.0), rest.1)

  pub parts_answered : (parts : List Part) (q : ℕ) → AreSized size parts → AllByRecursion (λ p. p < limit) (part_places parts) → IfSome (parts_with size places v parts q) (IsAfter size limit parts)
  parts_answered [] q h low = tt
  parts_answered (x ∷ parts) zero h low = by (answered size places v x.to x.row) (part_answered v refl x.to x.row)
    where
      by : (o : Option Part) → IfSome o (IsAnswered x.to) → IfSome (both o (Some parts)) (IsAfter size limit (x ∷ parts))
      by None i = tt
      by (Some y) i =
          let split = all_front (listed_place x.to) (part_places parts) low in
          record {
            many = refl;
            rows = (i.rows, h.1);
            below = all_append (λ p. p < limit) (listed_place y.to) (part_places parts) (below_one x.to y i split.0) split.1;
            more = λ place.
                let a = count-append (λ p. p == place) (listed_place y.to) (part_places parts) in
                let b = count-append (λ p. p == place) (listed_place x.to) (part_places parts) in
                let c = more_one x.to y place i in
                omega arith;
          }
  parts_answered (x ∷ parts) (suc q) h low =
      let split = all_front (listed_place x.to) (part_places parts) low in by split.0 (parts_with size places v parts q) (parts_answered parts q h.1 split.1)
    where
      by : AllByRecursion (λ p. p < limit) (listed_place x.to) → (o : Option (List Part)) → IfSome o (IsAfter size limit parts) → IfSome (both (Some x) o) (IsAfter size limit (x ∷ parts))
      by first None i = tt
      by first (Some new) i = record {
        many = ap suc i.many;
        rows = (h.0, i.rows);
        below = all_append (λ p. p < limit) (listed_place x.to) (part_places new) first i.below;
        more = λ place.
            let a = count-append (λ p. p == place) (listed_place x.to) (part_places new) in
            let b = count-append (λ p. p == place) (listed_place x.to) (part_places parts) in
            let c = i.more place in
            omega arith;
      }

-- ---- parts without their numbers, and the numbers of all

pub cleared_many : (parts : List Part) → length (cleared parts) ≡ length parts
cleared_many [] = refl
cleared_many (x ∷ parts) = ap suc (cleared_many parts)

pub cleared_places : (parts : List Part) → part_places (cleared parts) ≡ part_places parts
cleared_places [] = refl
cleared_places (x ∷ parts) = ap (λ ps. listed_place x.to ++ ps) (cleared_places parts)

pub cleared_sized : (size : ℕ) (parts : List Part) → AreSized size (cleared parts)
cleared_sized size [] = tt
cleared_sized size (x ∷ parts) = (tt, cleared_sized size parts)

pub rows_many : (parts : List Part) → IfSome (rows_of parts) (λ rows. length rows ≡ length parts)
rows_many [] = refl
rows_many (x ∷ parts) = by x.row (rows_of parts) (rows_many parts)
  where
    by : (row : Option (List ℤ)) (o : Option (List (List ℤ))) → IfSome o (λ rows. length rows ≡ length parts) → IfSome (both row o) (λ rows. length rows ≡ suc (length parts))
    by None None h = tt
    by None (Some rows) h = tt
    by (Some row) None h = tt
    by (Some row) (Some rows) h = ap suc h

pub first_many : (size q count : ℕ) → length (first_rows size q count) ≡ count
first_many size q zero = refl
first_many size q (suc count) = ap suc (first_many size (q + 1) count)
