-- Objects are made one after another.
use Rattle.hpx_node.proofs.Common.{AllByRecursion, Birth, Id, List, Makes, None, Standing, Tables, [], all_append, all_imp, ap, arith, bare_id, cases_Bool, find, inl, inr, is_standing, refl, same_object, ℕ, ◌++◌, ◌+◌, ◌∙◌, ◌∷◌, ◌≡◌, ◌≤◌}
use Rattle.hpx_journal.proofs.Same.{same_object-true}

pub makes_none : (xs : List Birth) (t : Tables) → Makes xs xs t t
makes_none xs t = record { rest = refl; objects = refl; records = refl; births = refl }

pub makes_then : (xs ys zs : List Birth) (t u v : Tables) → Makes xs ys t u → Makes ys zs u v → Makes xs zs t v
makes_then xs ys zs t u v a b = record {
  rest = b.rest ∙ ap (λ (x : Tables). record x { births = v.births; records = v.records; objects = v.objects }) a.rest;
  objects = b.objects ∙ a.objects;
  records = b.records ∙ a.records;
  births = b.births ∙ a.births;
}

-- ---- what is born was not there

-- managed objects of k among these have numbers up to n
abbrev UpTo : ℕ → ℕ → Standing → Type 0
UpTo k n x = 16 ≤ x.object.kind → x.object.home ≡ k → x.object.number ≤ n

pub none_stands : (k n kind : ℕ) (xs : List Standing) → 16 ≤ kind → AllByRecursion (λ x. 16 ≤ x.object.kind → x.object.home ≡ k → x.object.number ≤ n) xs
    → find (is_standing (bare_id k kind (n + 1))) xs ≡ None
none_stands k n kind [] least h = refl
none_stands k n kind (x ∷ xs) least h = elim (cases_Bool (same_object (bare_id k kind (n + 1)) x.object)) [
  | inl t ↦
      let same = same_object-true (bare_id k kind (n + 1)) x.object t in
      let home : k ≡ x.object.home = ap (λ (o : Id). o.home) same in
      let sort : kind ≡ x.object.kind = ap (λ (o : Id). o.kind) same in
      let number : n + 1 ≡ x.object.number = ap (λ (o : Id). o.number) same in
      let up : x.object.number ≤ n = h.0 (omega (arith, least, sort)) (omega (arith, home)) in
      absurd (omega (arith, number, up))
  | inr t ↦ rw t (none_stands k n kind xs least h.1)
]

pub drawn_more : (k n : ℕ) (xs : List Standing) (x : Standing) → x.object.number ≡ n + 1 → AllByRecursion (λ y. 16 ≤ y.object.kind → y.object.home ≡ k → y.object.number ≤ n) xs
    → AllByRecursion (λ y. 16 ≤ y.object.kind → y.object.home ≡ k → y.object.number ≤ n + 1) (xs ++ x ∷ [])
drawn_more k n xs x is h =
    all_append (UpTo k (n + 1)) xs (x ∷ []) (all_imp (UpTo k n) (UpTo k (n + 1)) (λ y up least home. omega (arith, up least home)) xs h)
    ((λ least home. omega (arith, is)), tt)
