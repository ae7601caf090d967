-- What stands at the places of ids, and which places are of managed objects.
use Rattle.std.proofs.Common.{ℕ, zero, suc, true, false, cond, nat_le, List, [], ◌∷◌, ◌++◌, ◌≡◌, ◌<◌, ◌≤◌, take, drop, length, map, refl, sym, ap, ◌∙◌, arith, inl, inr, subst}
use Rattle.std.specs.List.{AllByRecursion, slice_index_or}
use Rattle.std.proofs.lemmas.Bool.{cases_Bool, cases_eq}
use Rattle.std.proofs.lemmas.Bool.Decides.{nat_tests}
use Rattle.std.proofs.lemmas.List.{map-append}
use Rattle.hpx_value.specs.Ids.{Id, bare}
use Rattle.hpx_value.specs.Hands.{id_at, session, hand_ids}
use Rattle.hpx_value.specs.declared.value.State.{State}
use Rattle.hpx_value.specs.declared.value.Act.{Act}
use Rattle.hpx_commit.specs.Deals.{is_managed, named, managed_places}
use Rattle.hpx_commit.proofs.Deals.{named_cons, named_miss}
use Rattle.hpx_commit.proofs.Fills.{head_is, tail_is, none_is}

-- ---- ids

pub take_parts : (xs ys ids : List Id) → take (length (xs ++ ys)) ids ≡ take (length xs) ids ++ take (length ys) (drop (length xs) ids)
take_parts [] ys ids = refl
take_parts (x ∷ xs) ys [] = sym (none (length ys))
  where
    none : (n : ℕ) → take {A = Id} n [] ≡ []
    none zero = refl
    none (suc n) = refl
take_parts (x ∷ xs) ys (id ∷ ids) = ap (λ zs. id ∷ zs) (take_parts xs ys ids)

-- what is read of an id is read of those of all
pub at_map : {X : Type 0} (f : Id → X) (ids : List Id) (p : ℕ) → slice_index_or (map f ids) p (f session) ≡ f (id_at ids p)
at_map f [] p = refl
at_map f (id ∷ ids) zero = refl
at_map f (id ∷ ids) (suc p) = at_map f ids p

pub same_at : {X : Type 0} (f : Id → X) (xs ys : List Id) (p : ℕ) → map f xs ≡ map f ys → f (id_at xs p) ≡ f (id_at ys p)
same_at f xs ys p e = sym (at_map f xs p) ∙ (ap (λ zs. slice_index_or zs p (f session)) e ∙ at_map f ys p)

pub map_each : (g h : ℕ → Id) (ps : List ℕ) → ((p : ℕ) → g p ≡ h p) → map g ps ≡ map h ps
map_each g h [] e = refl
map_each g h (p ∷ ps) e = ap (λ x. x ∷ map g ps) (e p) ∙ ap (λ xs. h p ∷ xs) (map_each g h ps e)

module _ (P : Id → Type 0) where
  pub all_from : (ids : List Id) → ((p : ℕ) → p < length ids → P (id_at ids p)) → AllByRecursion P ids
  all_from [] h = tt
  all_from (id ∷ ids) h = (h 0 (omega arith), all_from ids (λ p lt. h (suc p) (omega (arith, lt))))

  pub behind_all : (xs ys : List Id) (p : ℕ) → AllByRecursion P ys → length xs ≤ p → p < length (xs ++ ys) → P (id_at (xs ++ ys) p)
  behind_all [] [] p h le lt = absurd (omega (arith, lt))
  behind_all [] (y ∷ ys) zero h le lt = h.0
  behind_all [] (y ∷ ys) (suc p) h le lt = behind_all [] ys p h.1 (omega arith) (omega (arith, lt))
  behind_all (x ∷ xs) ys zero h le lt = absurd (omega (arith, le))
  behind_all (x ∷ xs) ys (suc p) h le lt = behind_all xs ys p h (omega (arith, le)) (omega (arith, lt))

-- ---- kinds

abbrev pub kind_of : Id → ℕ
kind_of id = id.kind

pub is_least : (kind : ℕ) → nat_le 16 kind ≡ true → 16 ≤ kind
is_least kind e = grind (arith, nat_tests)

pub is_below : (kind : ℕ) → nat_le 16 kind ≡ false → kind < 16
is_below kind e = grind (arith, nat_tests)

-- a kind that is read, and is not 0, is that of the id there
pub kind_found : (ids : List Id) (p : ℕ) → 16 ≤ slice_index_or (map kind_of ids) p 0 → (id_at ids p).kind ≡ slice_index_or (map kind_of ids) p 0
kind_found [] p h = absurd (omega arith)
kind_found (id ∷ ids) zero h = refl
kind_found (id ∷ ids) (suc p) h = kind_found ids p h

pub kind_there : (ids : List Id) (p : ℕ) → 16 ≤ (id_at ids p).kind → slice_index_or (map kind_of ids) p 0 ≡ (id_at ids p).kind
kind_there [] p h = absurd (omega (arith, h))
kind_there (id ∷ ids) zero h = refl
kind_there (id ∷ ids) (suc p) h = kind_there ids p h

pub hand_kinds : (s : State) (a : Act) (xs ys : List Id) → map kind_of xs ≡ map kind_of ys → map kind_of (hand_ids s a xs) ≡ map kind_of (hand_ids s a ys)
hand_kinds s a xs ys e =
    map-append kind_of s.ids (a.ids ++ xs)
    ∙ (ap (λ ks. map kind_of s.ids ++ ks) (map-append kind_of a.ids xs ∙ (ap (λ ks. map kind_of a.ids ++ ks) e ∙ sym (map-append kind_of a.ids ys)))
    ∙ sym (map-append kind_of s.ids (a.ids ++ ys)))

-- ---- the places of managed objects

-- those of the same kinds
pub managed_same : (xs ys : List Id) (ps : List ℕ) → map kind_of xs ≡ map kind_of ys → managed_places xs ps ≡ managed_places ys ps
managed_same xs ys [] e = refl
managed_same xs ys (p ∷ ps) e =
    ap (λ k. cond (nat_le 16 k) (p ∷ managed_places xs ps) (managed_places xs ps)) (same_at kind_of xs ys p e)
    ∙ ap (λ qs. cond (is_managed (id_at ys p)) (p ∷ qs) qs) (managed_same xs ys ps e)

pub managed_named : (hand : List Id) (ps : List ℕ) → AllByRecursion (λ p. is_managed (id_at hand p) ≡ true) (managed_places hand ps)
managed_named hand [] = tt
managed_named hand (q ∷ qs) = elim (cases_Bool (is_managed (id_at hand q))) [
  | inl t ↦ rw t (t, managed_named hand qs)
  | inr t ↦ rw t (managed_named hand qs)
]

-- what holds of all holds of one that is named
pub all_named : (P : ℕ → Type 0) (ps : List ℕ) (p : ℕ) → 1 ≤ named ps p → AllByRecursion P ps → P p
all_named P [] p some h = absurd (omega (arith, some))
all_named P (q ∷ qs) p some h = elim (cases_eq q p) [
  | inl e ↦ subst P e h.0
  | inr d ↦ all_named P qs p (omega (arith, some, named_miss q qs p d)) h.1
]

pub managed_there : (hand : List Id) (ps : List ℕ) (p : ℕ) → 1 ≤ named (managed_places hand ps) p → is_managed (id_at hand p) ≡ true
managed_there hand ps p some = all_named (λ q. is_managed (id_at hand q) ≡ true) (managed_places hand ps) p some (managed_named hand ps)

-- no place is named more often among them
pub fewer_named : (hand : List Id) (ps : List ℕ) (p : ℕ) → named (managed_places hand ps) p ≤ named ps p
fewer_named hand [] p = omega arith
fewer_named hand (q ∷ qs) p = elim (cases_Bool (is_managed (id_at hand q))) [
  | inl t ↦ rw t (omega (arith, named_cons q qs p, named_cons q (managed_places hand qs) p, fewer_named hand qs p))
  | inr f ↦ rw f (omega (arith, named_cons q qs p, fewer_named hand qs p))
]

-- a place of an unmanaged id is not among those that are named, where they name what is managed
pub plain_named : (hand other : List Id) (ps qs : List ℕ) → map (λ p. bare (id_at hand p)) ps ≡ map (λ p. bare (id_at other p)) qs
    → AllByRecursion (λ p. is_managed (id_at other p) ≡ true) qs → (p : ℕ) → is_managed (id_at hand p) ≡ false → named ps p ≡ 0
plain_named hand other [] qs same all p un = refl
plain_named hand other (x ∷ ps) [] same all p un = absurd (none_is (bare (id_at hand x)) (map (λ q. bare (id_at hand q)) ps) (sym same))
plain_named hand other (x ∷ ps) (y ∷ qs) same all p un =
    let first = head_is (bare (id_at hand x)) (bare (id_at other y)) (map (λ q. bare (id_at hand q)) ps) (map (λ q. bare (id_at other q)) qs) same in
    let is : is_managed (id_at hand x) ≡ true = ap is_managed first ∙ all.0 in
    named_miss x ps p (λ e. let t : true ≡ false = sym is ∙ (ap (λ k. is_managed (id_at hand k)) e ∙ un) in absurd (cc))
    ∙ plain_named hand other ps qs (tail_is (bare (id_at hand x)) (bare (id_at other y)) (map (λ q. bare (id_at hand q)) ps) (map (λ q. bare (id_at other q)) qs) same) all.1 p un
