-- Ids filled with what was dealt.
use Rattle.std.proofs.Common.{ℕ, true, false, List, [], ◌∷◌, ◌++◌, ◌≡◌, ◌+◌, map, refl, sym, ap, ◌∙◌, arith, inl, inr}
use Rattle.std.specs.Prelude.{flat_map}
use Rattle.std.specs.List.{sum_by, AllByRecursion}
use Rattle.std.proofs.lemmas.Bool.{cases_Bool}
use Rattle.std.proofs.lemmas.List.Sums.{sum_by-cons}
use Rattle.hpx_value.specs.Ids.{Id, bare}
use Rattle.hpx_value.specs.declared.outcome.Due.{Due}
use Rattle.hpx_value.specs.declared.outcome.Due.TheVariants.{Message as MessageDue, Print as PrintDue}
use Rattle.hpx_commit.specs.Deals.{is_managed, filled, unused, filled_due, ids_due}
use Rattle.hpx_commit.proofs.Naming.{managed}

-- what was dealt names the managed ones among these ids first, and then the rest
abbrev pub Fits : List Id → List Id → List Id → Type 0
Fits ids ds rest = map bare ds ≡ managed (map bare ids) ++ rest

-- the cases: an id that is managed, with the first of what was dealt, or one that is not
fits_managed : (id : Id) (ids ds rest : List Id) → is_managed id ≡ true → Fits (id ∷ ids) ds rest
    → map bare ds ≡ bare id ∷ (managed (map bare ids) ++ rest)
fits_managed id ids ds rest t h = h ∙ (rw t refl)

fits_other : (id : Id) (ids ds rest : List Id) → is_managed id ≡ false → Fits (id ∷ ids) ds rest → Fits ids ds rest
fits_other id ids ds rest t h = h ∙ (rw t refl)

pub head_is : (a b : Id) (xs ys : List Id) → a ∷ xs ≡ b ∷ ys → a ≡ b
head_is a b xs ys h = cc

pub tail_is : (a b : Id) (xs ys : List Id) → a ∷ xs ≡ b ∷ ys → xs ≡ ys
tail_is a b xs ys h = cc

pub none_is : (b : Id) (ys : List Id) → [] ≡ b ∷ ys → ⊥
none_is b ys h = cc

same_managed : (a b : Id) → bare a ≡ bare b → is_managed a ≡ is_managed b
same_managed a b h = ap is_managed h

pub filled_same : (ids ds rest : List Id) → Fits ids ds rest → map bare (filled ids ds) ≡ map bare ids
filled_same [] ds rest h = refl
filled_same (id ∷ ids) [] rest h = elim (cases_Bool (is_managed id)) [
  | inl t ↦ absurd (none_is (bare id) (managed (map bare ids) ++ rest) (fits_managed id ids [] rest t h))
  | inr t ↦ ap (λ zs. bare id ∷ zs) (filled_same ids [] rest (fits_other id ids [] rest t h))
]
filled_same (id ∷ ids) (d ∷ ds) rest h = elim (cases_Bool (is_managed id)) [
  | inl t ↦
      let e = fits_managed id ids (d ∷ ds) rest t h in
      rw t (ap (λ x. x ∷ map bare (filled ids ds)) (head_is (bare d) (bare id) (map bare ds) (managed (map bare ids) ++ rest) e)
      ∙ ap (λ zs. bare id ∷ zs) (filled_same ids ds rest (tail_is (bare d) (bare id) (map bare ds) (managed (map bare ids) ++ rest) e)))
  | inr t ↦ rw t (ap (λ zs. bare id ∷ zs) (filled_same ids (d ∷ ds) rest (fits_other id ids (d ∷ ds) rest t h)))
]

pub unused_rest : (ids ds rest : List Id) → Fits ids ds rest → map bare (unused ids ds) ≡ rest
unused_rest [] ds rest h = h
unused_rest (id ∷ ids) [] rest h = elim (cases_Bool (is_managed id)) [
  | inl t ↦ absurd (none_is (bare id) (managed (map bare ids) ++ rest) (fits_managed id ids [] rest t h))
  | inr t ↦ none_left (managed (map bare ids)) rest (fits_other id ids [] rest t h)
]
  where
    none_left : (xs rest : List Id) → [] ≡ xs ++ rest → [] ≡ rest
    none_left [] rest h = h
    none_left (x ∷ xs) rest h = absurd (none_is x (xs ++ rest) h)
unused_rest (id ∷ ids) (d ∷ ds) rest h = elim (cases_Bool (is_managed id)) [
  | inl t ↦ rw t (unused_rest ids ds rest (tail_is (bare d) (bare id) (map bare ds) (managed (map bare ids) ++ rest) (fits_managed id ids (d ∷ ds) rest t h)))
  | inr t ↦ rw t (unused_rest ids (d ∷ ds) rest (fits_other id ids (d ∷ ds) rest t h))
]

none_filled_of : (ids : List Id) → filled ids [] ≡ ids
none_filled_of [] = refl
none_filled_of (id ∷ ids) = ap (λ zs. id ∷ zs) (none_filled_of ids)

unused_none : (ids : List Id) → unused ids [] ≡ []
unused_none [] = refl
unused_none (id ∷ ids) = refl

module _ (f : Id → ℕ) where
  pub filled_sums : (ids ds rest : List Id) → Fits ids ds rest
      → sum_by f (managed (filled ids ds)) + sum_by f (unused ids ds) ≡ sum_by f ds
  filled_sums [] ds rest h = omega arith
  filled_sums (id ∷ ids) [] rest h = elim (cases_Bool (is_managed id)) [
    | inl t ↦ absurd (none_is (bare id) (managed (map bare ids) ++ rest) (fits_managed id ids [] rest t h))
    | inr t ↦
        rw t (let e = filled_sums ids [] rest (fits_other id ids [] rest t h) in omega (arith, e))
  ]
  filled_sums (id ∷ ids) (d ∷ ds) rest h = elim (cases_Bool (is_managed id)) [
    | inl t ↦
        let e = fits_managed id ids (d ∷ ds) rest t h in
        let m : is_managed d ≡ true = same_managed d id (head_is (bare d) (bare id) (map bare ds) (managed (map bare ids) ++ rest) e) ∙ t in
        rw (t, m) (omega (
          arith,
          sum_by-cons f d (managed (filled ids ds)),
          sum_by-cons f d ds,
          filled_sums ids ds rest (tail_is (bare d) (bare id) (map bare ds) (managed (map bare ids) ++ rest) e),
        ))
    | inr t ↦ rw (t, t) (filled_sums ids (d ∷ ds) rest (fits_other id ids (d ∷ ds) rest t h))
  ]

-- ---- what is due

unused_append : (xs ys ds : List Id) → unused (xs ++ ys) ds ≡ unused ys (unused xs ds)
unused_append [] ys ds = refl
unused_append (x ∷ xs) ys [] = sym (unused_none ys)
unused_append (x ∷ xs) ys (d ∷ ds) = elim (cases_Bool (is_managed x)) [
  | inl t ↦ rw t (unused_append xs ys ds)
  | inr t ↦ rw t (unused_append xs ys (d ∷ ds))
]

filled_append : (xs ys ds : List Id) → filled (xs ++ ys) ds ≡ filled xs ds ++ filled ys (unused xs ds)
filled_append [] ys ds = refl
filled_append (x ∷ xs) ys [] =
    ap (λ zs. x ∷ zs) (none_filled_of (xs ++ ys) ∙ (ap (λ zs. zs ++ ys) (sym (none_filled_of xs)) ∙ ap (λ zs. filled xs [] ++ zs) (sym (none_filled_of ys))))
filled_append (x ∷ xs) ys (d ∷ ds) = elim (cases_Bool (is_managed x)) [
  | inl t ↦ rw t (ap (λ zs. d ∷ zs) (filled_append xs ys ds))
  | inr t ↦ rw t (ap (λ zs. x ∷ zs) (filled_append xs ys (d ∷ ds)))
]

pub due_filled : (due : List Due) (ds : List Id) → flat_map ids_due (filled_due due ds) ≡ filled (flat_map ids_due due) ds
due_filled [] ds = refl
due_filled (PrintDue bytes ∷ rest) ds = due_filled rest ds
due_filled (MessageDue m ∷ rest) ds =
    ap (λ zs. filled m.ids ds ++ zs) (due_filled rest (unused m.ids ds)) ∙ sym (filled_append m.ids (flat_map ids_due rest) ds)

-- what each id has, and each that was dealt, each that is filled has
pub filled_all : (P : Id → Type 0) (ids ds : List Id) → AllByRecursion P ids → AllByRecursion P ds → AllByRecursion P (filled ids ds)
filled_all P [] ds h i = tt
filled_all P (id ∷ ids) [] h i = (h.0, filled_all P ids [] h.1 tt)
filled_all P (id ∷ ids) (d ∷ ds) h i = elim (cases_Bool (is_managed id)) [
  | inl t ↦ rw t (i.0, filled_all P ids ds h.1 i.1)
  | inr t ↦ rw t (h.0, filled_all P ids (d ∷ ds) h.1 i)
]

pub unused_all : (P : Id → Type 0) (ids ds : List Id) → AllByRecursion P ds → AllByRecursion P (unused ids ds)
unused_all P [] ds i = i
unused_all P (id ∷ ids) [] i = tt
unused_all P (id ∷ ids) (d ∷ ds) i = elim (cases_Bool (is_managed id)) [
  | inl t ↦ rw t (unused_all P ids ds i.1)
  | inr t ↦ rw t (unused_all P ids (d ∷ ds) i)
]
