-- Values one after the other, with their ids.
use Rattle.std.proofs.Common.{◌≡◌, ℕ, zero, suc, ◌+◌, ◌*◌, ◌<◌, ◌≤◌, List, [], ◌∷◌, ◌++◌, length, Option, Some, None, Ok, refl, sym, ap, subst, ◌∙◌, append_assoc, arith, inl, inr, ◌⊎◌}
use Rattle.std.specs.List.{AllByRecursion, flat_map}
use Rattle.std.specs.Prelude.{ℤ}
use Rattle.std.specs.Int.{w64, cast_unsigned}
use Rattle.std.proofs.lemmas.List.{length-append}
use Rattle.std.proofs.lemmas.List.Concat.{flat_map-cons}
use Rattle.hpx_value.specs.Ids.{IsId}
use Rattle.hpx_value.specs.Values.{refs_in}
use Rattle.hpx_value.specs.Shapes.{IsValue, IsCount, value_size, values_size}
use Rattle.hpx_parcel.specs.Types.{Id, Value, Nothing, Flag, Int, Text, Ref, Fault, Ints}
use Rattle.hpx_parcel.specs.Spelling.{number_text, int_text, id_text, value_text, ids_left, each_text, ids_after, values_text}
use Rattle.hpx_parcel.specs.Parcels.{HasRightCredit, FitsValue}
use Rattle.hpx_parcel.specs.Reading.{◌>>=◌, count_at, value_at, id_list, each_at, values_at}
use Rattle.hpx_parcel.proofs.FieldLaws.{IsBytes, bind_ok, ok_is, Takes, Takes-then, count_takes, count_again, length-number}
use Rattle.hpx_parcel.proofs.ValueLaws.{IsPlain, plain_left, plain_refs, Has, Took, value_takes, value_again}

-- what was read of values: their ids come first, then those that are left
pub record TookEach (limit place : ℕ) (bytes : List ℕ) (vs : List Value) (ids : List Id) (rest : List ℕ) : Type 0 where
  pub text : (left : List Id) → Takes bytes (each_text (ids ++ left) vs) rest
  pub each : AllByRecursion IsValue vs
  pub fits : AllByRecursion FitsValue vs
  pub refs : IsCount place (refs_in vs)
  pub many : length ids ≡ length (refs_in vs)
  pub valid : AllByRecursion IsId ids
  pub credit : AllByRecursion HasRightCredit ids
  pub few : place ≤ limit → place + length ids ≤ limit

count_from : (m n : ℕ) (ps : List ℕ) → m ≡ n → IsCount m ps → IsCount n ps
count_from m n ps e h = subst (λ (k : ℕ). IsCount k ps) e h

more_plain : (limit place : ℕ) (bytes : List ℕ) (v : Value) (mid : List ℕ) (vs : List Value) (ids : List Id) (rest : List ℕ)
    → Took limit place bytes v None mid → TookEach limit (place + 0) mid vs ids rest → TookEach limit place bytes (v ∷ vs) ids rest
more_plain limit place bytes v mid vs ids rest first others = record {
  text = λ left.
      let others_text : Takes mid (each_text (ids_left (ids ++ left) v) vs) rest = subst (λ (js : List Id). Takes mid (each_text js vs) rest) (sym (plain_left (ids ++ left) v first.has)) (others.text left) in
      Takes-then bytes (value_text (ids ++ left) v) mid (each_text (ids_left (ids ++ left) v) vs) rest (first.text (ids ++ left)) others_text;
  each = (first.value, others.each);
  fits = (first.fits, others.fits);
  refs = subst (λ (ps : List ℕ). IsCount place ps) (sym (plain_refs v vs first.has)) (count_from (place + 0) place (refs_in vs) (omega arith) others.refs);
  many = others.many ∙ ap length (sym (plain_refs v vs first.has));
  valid = others.valid;
  credit = others.credit;
  few = λ h. let k = others.few (omega arith) in omega arith;
}

more_ref : (limit place : ℕ) (bytes : List ℕ) (p : ℕ) (id : Id) (mid : List ℕ) (vs : List Value) (ids : List Id) (rest : List ℕ)
    → Took limit place bytes (Ref p) (Some id) mid → TookEach limit (place + 1) mid vs ids rest → TookEach limit place bytes (Ref p ∷ vs) (id ∷ ids) rest
more_ref limit place bytes p id mid vs ids rest first others = record {
  text = λ left. Takes-then bytes (value_text (id ∷ (ids ++ left)) (Ref p)) mid (each_text (ids ++ left) vs) rest (first.text (ids ++ left)) (others.text left);
  each = (first.value, others.each);
  fits = (first.fits, others.fits);
  refs = (first.has.0.0, others.refs);
  many = ap suc others.many;
  valid = (first.has.1, others.valid);
  credit = (first.has.2, others.credit);
  few = λ h. let lt : place < limit = first.has.0.1 in let k = others.few (omega arith) in omega arith;
}

more : (limit place : ℕ) (bytes : List ℕ) (v : Value) (o : Option Id) (mid : List ℕ) (vs : List Value) (ids : List Id) (rest : List ℕ)
    → Took limit place bytes v o mid → TookEach limit (place + length (id_list o)) mid vs ids rest → TookEach limit place bytes (v ∷ vs) (id_list o ++ ids) rest
more limit place bytes v None mid vs ids rest first others = more_plain limit place bytes v mid vs ids rest first others
more limit place bytes (Ref p) (Some id) mid vs ids rest first others = more_ref limit place bytes p id mid vs ids rest first others
more limit place bytes Nothing (Some id) mid vs ids rest first others = absurd first.has.0
more limit place bytes (Flag b) (Some id) mid vs ids rest first others = absurd first.has.0
more limit place bytes (Int z) (Some id) mid vs ids rest first others = absurd first.has.0
more limit place bytes (Text bs) (Some id) mid vs ids rest first others = absurd first.has.0
more limit place bytes (Fault code) (Some id) mid vs ids rest first others = absurd first.has.0
more limit place bytes (Ints zs) (Some id) mid vs ids rest first others = absurd first.has.0

pub each_takes : (limit n place : ℕ) (bytes : List ℕ) (x : List Value × List Id × List ℕ) → IsBytes bytes → each_at limit place n bytes ≡ Ok x
    → TookEach limit place bytes x.0 x.1 x.2 × (length x.0 ≡ n)
unfolding each_at
each_takes limit zero place bytes x fits e =
    let made : TookEach limit place bytes [] [] bytes = record {
      text = λ left. record { parts = refl; rest_fits = fits };
      each = tt;
      fits = tt;
      refs = tt;
      many = refl;
      valid = tt;
      credit = tt;
      few = λ h. omega arith;
    } in
    subst (λ (y : List Value × List Id × List ℕ). TookEach limit place bytes y.0 y.1 y.2 × (length y.0 ≡ 0)) (ok_is ([], [], bytes) x e) (made, refl)
each_takes limit (suc n) place bytes x fits e =
    let a = bind_ok (value_at limit place bytes) (λ first. each_at limit (place + length (id_list first.1)) n first.2 >>= λ others. Ok (first.0 ∷ others.0, id_list first.1 ++ others.1, others.2)) x e in
    let b = bind_ok (each_at limit (place + length (id_list a.0.1)) n a.0.2) (λ others. Ok (a.0.0 ∷ others.0, id_list a.0.1 ++ others.1, others.2)) x a.2 in
    let first = value_takes limit place bytes a.0 fits a.1 in
    let others = each_takes limit n (place + length (id_list a.0.1)) a.0.2 b.0 ((first.text []).rest_fits) b.1 in
    let both = more limit place bytes a.0.0 a.0.1 a.0.2 b.0.0 b.0.1 b.0.2 first others.0 in
    let made : List Value × List Id × List ℕ = (a.0.0 ∷ b.0.0, id_list a.0.1 ++ b.0.1, b.0.2) in
    subst (λ (y : List Value × List Id × List ℕ). TookEach limit place bytes y.0 y.1 y.2 × (length y.0 ≡ suc n)) (ok_is made x b.2) (both, ap suc others.1)

-- what has a spelling among values
pub record Given (limit place : ℕ) (vs : List Value) (ids : List Id) : Type 0 where
  pub each : AllByRecursion IsValue vs
  pub fits : AllByRecursion FitsValue vs
  pub refs : IsCount place (refs_in vs)
  pub many : length ids ≡ length (refs_in vs)
  pub valid : AllByRecursion IsId ids
  pub credit : AllByRecursion HasRightCredit ids
  pub few : place + length ids ≤ limit

step : (limit place : ℕ) (v : Value) (o : Option Id) (vs : List Value) (ids left : List Id) (rest : List ℕ)
    → IsValue v → FitsValue v → Has limit place v o → ids_left (id_list o ++ (ids ++ left)) v ≡ ids ++ left
    → each_at limit (place + length (id_list o)) (length vs) (each_text (ids ++ left) vs ++ rest) ≡ Ok (vs, ids, rest)
    → each_at limit place (suc (length vs)) (each_text (id_list o ++ (ids ++ left)) (v ∷ vs) ++ rest) ≡ Ok (v ∷ vs, id_list o ++ ids, rest)
unfolding each_at
step limit place v o vs ids left rest value fits has after others =
    let tail : each_text (ids_left (id_list o ++ (ids ++ left)) v) vs ≡ each_text (ids ++ left) vs = ap (λ (js : List Id). each_text js vs) after in
    let regrouped : each_text (id_list o ++ (ids ++ left)) (v ∷ vs) ++ rest ≡ value_text (id_list o ++ (ids ++ left)) v ++ (each_text (ids ++ left) vs ++ rest) =
    ap (λ (t : List ℕ). (value_text (id_list o ++ (ids ++ left)) v ++ t) ++ rest) tail ∙ append_assoc (value_text (id_list o ++ (ids ++ left)) v) (each_text (ids ++ left) vs) rest in
    ap (each_at limit place (suc (length vs))) regrouped
    ∙ rw (value_again limit place v o (ids ++ left) (each_text (ids ++ left) vs ++ rest) value fits has, others) refl

plain_or_ref : (v : Value) → IsPlain v ⊎ ((p : ℕ) × (v ≡ Ref p))
plain_or_ref Nothing = inl tt
plain_or_ref (Flag b) = inl tt
plain_or_ref (Int z) = inl tt
plain_or_ref (Text bytes) = inl tt
plain_or_ref (Ref p) = inr (p, refl)
plain_or_ref (Fault code) = inl tt
plain_or_ref (Ints zs) = inl tt

given_plain : (limit place : ℕ) (v : Value) (vs : List Value) (ids : List Id) → IsPlain v → Given limit place (v ∷ vs) ids → Given limit (place + 0) vs ids
given_plain limit place v vs ids plain given =
    let same = plain_refs v vs plain in
    record {
      each = given.each.1;
      fits = given.fits.1;
      refs = count_from place (place + 0) (refs_in vs) (omega arith) (subst (λ (ps : List ℕ). IsCount place ps) same given.refs);
      many = given.many ∙ ap length same;
      valid = given.valid;
      credit = given.credit;
      few = let f = given.few in omega arith;
    }

ref_again : (limit place p : ℕ) (vs : List Value) (ids left : List Id) (rest : List ℕ) → Given limit place (Ref p ∷ vs) ids
    → ((js : List Id) → Given limit (place + 1) vs js → each_at limit (place + 1) (length vs) (each_text (js ++ left) vs ++ rest) ≡ Ok (vs, js, rest))
    → each_at limit place (suc (length vs)) (each_text (ids ++ left) (Ref p ∷ vs) ++ rest) ≡ Ok (Ref p ∷ vs, ids, rest)
ref_again limit place p vs [] left rest given others = absurd (omega (arith, given.many))
ref_again limit place p vs (id ∷ ids) left rest given others =
    let few : place + 1 + length ids ≤ limit = let f = given.few in omega arith in
    let tail : Given limit (place + 1) vs ids = record {
      each = given.each.1;
      fits = given.fits.1;
      refs = given.refs.1;
      many = let m = given.many in omega arith;
      valid = given.valid.1;
      credit = given.credit.1;
      few = few;
    } in
    step limit place (Ref p) (Some id) vs ids left rest tt tt ((given.refs.0, omega arith), given.valid.0, given.credit.0) refl (others ids tail)

pub each_again : (limit place : ℕ) (vs : List Value) (ids left : List Id) (rest : List ℕ) → Given limit place vs ids
    → each_at limit place (length vs) (each_text (ids ++ left) vs ++ rest) ≡ Ok (vs, ids, rest)
unfolding each_at
each_again limit place [] [] left rest given = refl
each_again limit place [] (id ∷ ids) left rest given = absurd (omega (arith, given.many))
each_again limit place (v ∷ vs) ids left rest given =
    elim (plain_or_ref v) [
      | inl plain ↦ step limit place v None vs ids left rest given.each.0 given.fits.0 plain (plain_left (ids ++ left) v plain) (each_again limit (place + 0) vs ids left rest (given_plain limit place v vs ids plain given))
      | inr w ↦
          subst (λ (u : Value). Given limit place (u ∷ vs) ids → each_at limit place (suc (length vs)) (each_text (ids ++ left) (u ∷ vs) ++ rest) ≡ Ok (u ∷ vs, ids, rest)) (sym w.1)
          (λ g. ref_again limit place w.0 vs ids left rest g (λ js h. each_again limit (place + 1) vs js left rest h)) given
    ]

-- ---- how long values are

pub length-id : (id : Id) → length (id_text id) ≡ 16
unfolding id_text
length-id id = rw (length-append, length-number, length-number) refl

length-ints : (zs : List ℤ) → length (flat_map int_text zs) ≡ length zs * 8
length-ints [] = refl
length-ints (z ∷ zs) =
    let one = length-number 8 (cast_unsigned w64 z) in
    let rest = length-ints zs in
    ap length (flat_map-cons int_text z zs) ∙ length-append (int_text z) (flat_map int_text zs) ∙ omega arith

length-value : (ids : List Id) (v : Value) → length (refs_in (v ∷ [])) ≤ length ids → length (value_text ids v) ≡ value_size v
unfolding value_text
length-value ids Nothing h = refl
length-value ids (Flag b) h = refl
length-value ids (Int z) h = let one = length-number 8 (cast_unsigned w64 z) in omega arith
length-value ids (Text bytes) h =
    let two = length-number 2 (length bytes) in
    let sum = length-append (number_text 2 (length bytes)) bytes in omega arith
length-value [] (Ref p) h = absurd (omega arith)
length-value (id ∷ ids) (Ref p) h = let one = length-id id in omega arith
length-value ids (Fault code) h = refl
length-value ids (Ints zs) h =
    let two = length-number 2 (length zs) in
    let all = length-ints zs in
    let sum = length-append (number_text 2 (length zs)) (flat_map int_text zs) in omega arith

refs_before : (ids : List Id) (v : Value) (vs : List Value) → length (refs_in (v ∷ vs)) ≤ length ids
    → (length (refs_in (v ∷ [])) ≤ length ids) × (length (refs_in vs) ≤ length (ids_left ids v))
refs_before ids Nothing vs h = (omega arith, h)
refs_before ids (Flag b) vs h = (omega arith, h)
refs_before ids (Int z) vs h = (omega arith, h)
refs_before ids (Text bytes) vs h = (omega arith, h)
refs_before [] (Ref p) vs h = absurd (omega arith)
refs_before (id ∷ ids) (Ref p) vs h = (omega arith, omega arith)
refs_before ids (Fault code) vs h = (omega arith, h)
refs_before ids (Ints zs) vs h = (omega arith, h)

pub length-each : (ids : List Id) (vs : List Value) → length (refs_in vs) ≤ length ids → length (each_text ids vs) ≡ values_size vs
length-each ids [] h = refl
length-each ids (v ∷ vs) h =
    let enough = refs_before ids v vs h in
    let one = length-value ids v enough.0 in
    let others = length-each (ids_left ids v) vs enough.1 in
    let sum = length-append (value_text ids v) (each_text (ids_left ids v) vs) in
    omega arith

-- ---- with their count

pub values_take : (limit place : ℕ) (bytes : List ℕ) (x : List Value × List Id × List ℕ) → IsBytes bytes → values_at limit place bytes ≡ Ok x
    → ((left : List Id) → Takes bytes (values_text (x.1 ++ left) x.0) x.2) × ((mid : List ℕ) × TookEach limit place mid x.0 x.1 x.2) × (length x.0 ≤ 1024)
unfolding values_at values_text
values_take limit place bytes x fits e =
    let a = bind_ok (count_at 1024 bytes) (λ n. each_at limit place n.0 n.1) x e in
    let t = count_takes 1024 bytes a.0.0 a.0.1 fits a.1 in
    let s = each_takes limit a.0.0 place a.0.1 x t.0.rest_fits a.2 in (
      λ left. subst (λ (n : ℕ). Takes bytes (number_text 2 n ++ each_text (x.1 ++ left) x.0) x.2) (sym s.1)
          (Takes-then bytes (number_text 2 a.0.0) a.0.1 (each_text (x.1 ++ left) x.0) x.2 t.0 (s.0.text left)),
      (a.0.1, s.0),
      omega (arith, s.1, t.1),
    )

pub values_again : (limit place : ℕ) (vs : List Value) (ids left : List Id) (rest : List ℕ) → length vs ≤ 1024 → Given limit place vs ids
    → values_at limit place (values_text (ids ++ left) vs ++ rest) ≡ Ok (vs, ids, rest)
unfolding values_at values_text
values_again limit place vs ids left rest few given =
    ap (values_at limit place) (append_assoc (number_text 2 (length vs)) (each_text (ids ++ left) vs) rest)
    ∙ rw (count_again 1024 (length vs) (each_text (ids ++ left) vs ++ rest) few (omega arith)) (each_again limit place vs ids left rest given)

pub length-values : (ids : List Id) (vs : List Value) → length (refs_in vs) ≤ length ids → length (values_text ids vs) ≡ 2 + values_size vs
unfolding values_text
length-values ids vs h =
    let two = length-number 2 (length vs) in
    let all = length-each ids vs h in
    let sum = length-append (number_text 2 (length vs)) (each_text ids vs) in omega arith

-- the ids that are left behind those of the values
pub ids_after_own : (vs : List Value) (ids left : List Id) → length ids ≡ length (refs_in vs) → ids_after (ids ++ left) vs ≡ left
ids_after_own [] [] left e = refl
ids_after_own [] (id ∷ ids) left e = absurd (omega arith)
ids_after_own (Nothing ∷ vs) ids left e = ids_after_own vs ids left e
ids_after_own (Flag b ∷ vs) ids left e = ids_after_own vs ids left e
ids_after_own (Int z ∷ vs) ids left e = ids_after_own vs ids left e
ids_after_own (Text bytes ∷ vs) ids left e = ids_after_own vs ids left e
ids_after_own (Ref p ∷ vs) [] left e = absurd (omega arith)
ids_after_own (Ref p ∷ vs) (id ∷ ids) left e = ids_after_own vs ids left (omega arith)
ids_after_own (Fault code ∷ vs) ids left e = ids_after_own vs ids left e
ids_after_own (Ints zs ∷ vs) ids left e = ids_after_own vs ids left e
