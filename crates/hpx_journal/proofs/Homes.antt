-- What stands goes on standing until it is freed or sets off, so roots stand at their homes.
use Rattle.std.proofs.Common.{ℕ, Bool, true, false, cond, List, [], ◌∷◌, ◌++◌, ◌≡◌, ◌<◌, ◌≤◌, ◌⊎◌, refl, sym, ap, ◌∙◌, subst, arith, inl, inr}
use Rattle.std.specs.Prelude.{◌==◌}
use Rattle.std.specs.List.{list_any}
use Rattle.std.proofs.lemmas.Bool.{eq-eqb, cases_eq}
use Rattle.hpx_value.specs.Ids.{Id, bare_id, same_object}
use Rattle.hpx_value.specs.Laws.{IsRoot}
use Rattle.hpx_journal.specs.Bags.{without}
use Rattle.hpx_journal.specs.Entries.{Event, Born, Done, Freed, Left, Landed, Entry, Standing, Rules}
use Rattle.hpx_journal.specs.Local.{Local, after, is_standing, stood}
use Rattle.hpx_journal.specs.Rows.{Row}
use Rattle.hpx_journal.specs.Roots.{root, roots, roots_of_first}
use Rattle.hpx_journal.specs.Whole.{Space, IsLegal, IsLegalFrom, run, step, at_place, replayed}
use Rattle.hpx_journal.specs.Natives.{IsRootId, StandsAtHome}
use Rattle.hpx_journal.proofs.Bools.{or_right, false_from, and_false}
use Rattle.hpx_journal.proofs.Same.{same_object-true, same_object-sym}
use Rattle.hpx_journal.proofs.Done.{done_settles, new_standing}
use Rattle.hpx_journal.proofs.Stands.{any_without, apart_from, settled_stand}
use Rattle.hpx_journal.proofs.Wholes.{at_same, at_other}
use Rattle.hpx_journal.proofs.Start.{first}

-- ---- one entry

-- an entry frees an object, or lets it set off
abbrev takes_away : Id → Event → Bool
takes_away o (Freed x) = same_object o x
takes_away o (Left x to) = same_object o x
takes_away o _ = false

not_taken : (o x : Id) (objects : List Standing) → same_object o x ≡ false → list_any (is_standing o) objects ≡ true
    → list_any (is_standing o) (without (is_standing x) objects) ≡ true
not_taken o x objects d h =
    any_without (is_standing o) (is_standing x) objects
    (apart_from o x (false_from (same_object x o) (λ t. let u : same_object o x ≡ true = same_object-sym x o t in cc))) ∙ h

pub stands_still : (r : Rules) (s : Local) (e : Event) → Row r s e → (o : Id) → takes_away o e ≡ false
    → list_any (is_standing o) s.objects ≡ true → list_any (is_standing o) (after r s e).objects ≡ true
unfolding after
stands_still r s (Born x state) row o stays h = or_right (same_object o x) _ h
stands_still r s (Done a true) row o stays h = h
stands_still r s (Done a false) row o stays h =
    let x = row.0 in
    rw (done_settles r s a x.act x.target x.fired x.stands)
    (settled_stand s.objects x.target.object (new_standing r s x.act x.target).state o h)
stands_still r s (Freed x) row o stays h = not_taken o x s.objects stays h
stands_still r s (Left x to) row o stays h = not_taken o x s.objects stays h
stands_still r s (Landed x) row o stays h = rw row.1.1 (or_right (is_standing o (stood row.1.0)) _ h)
stands_still r s _ row o stays h = h

-- no root is taken away
root_stays : (r : Rules) (s : Local) (e : Event) → Row r s e → (o : Id) → o.kind < 16 → takes_away o e ≡ false
root_stays r s (Freed x) row o small =
    false_from (same_object o x) (λ t. let k : o.kind ≡ x.kind = ap (λ y. y.kind) (same_object-true o x t) in absurd (omega (arith, row.0.0)))
root_stays r s (Left x to) row o small =
    false_from (same_object o x) (λ t. let k : o.kind ≡ x.kind = ap (λ y. y.kind) (same_object-true o x t) in absurd (omega (arith, row.0.0)))
root_stays r s _ row o small = refl

-- ---- the whole

-- what each entry keeps of a locality stays there
module _ (r : Rules) (Q : Local → Type 0) (k : ℕ) where
  pub kept_step : (w : Space) (e : Entry) → (Q (w.places e.at) → Q (after r (w.places e.at) e.event)) → Q (w.places k) → Q ((step r w e).places k)
  unfolding step
  kept_step w e keeps h = elim (cases_eq e.at k) [
    | inl same ↦
        subst (λ j. Q (at_place w.places e.at (after r (w.places e.at) e.event) j)) same
        (subst Q (sym (at_same w.places e.at (after r (w.places e.at) e.event))) (keeps (subst (λ j. Q (w.places j)) (sym same) h)))
    | inr other ↦ subst Q (sym (at_other w.places e.at (after r (w.places e.at) e.event) k other)) h
  ]

roots_run : (r : Rules) (w : Space) (es : List Entry) → IsLegalFrom r w es → (k : ℕ) (o : Id) → o.kind < 16
    → list_any (is_standing o) (w.places k).objects ≡ true → list_any (is_standing o) ((run r w es).places k).objects ≡ true
roots_run r w [] legal k o small h = h
roots_run r w (e ∷ es) legal k o small h =
    roots_run r (step r w e) es legal.1 k o small
    (kept_step r (λ s. list_any (is_standing o) s.objects ≡ true) k w e
    (stands_still r (w.places e.at) e.event legal.0.allowed.row o (root_stays r (w.places e.at) e.event legal.0.allowed.row o small)) h)

-- ---- at boot

each_there : (n k kind : ℕ) → (kind ≡ 3) ⊎ ((kind ≡ 5) ⊎ (kind ≡ 7)) → (b : Bool)
    → list_any (is_standing (bare_id k kind 1)) (cond b (roots_of_first n) [] ++ (root k 3 [] ∷ root k 5 [] ∷ root k 7 [] ∷ [])) ≡ true
each_there n k kind (inl e) true = rw e (rw (eq-eqb k k refl, and_false (k == 0)) refl)
each_there n k kind (inl e) false = rw e (rw (eq-eqb k k refl) refl)
each_there n k kind (inr (inl e)) true = rw e (rw (eq-eqb k k refl, and_false (k == 0)) refl)
each_there n k kind (inr (inl e)) false = rw e (rw (eq-eqb k k refl) refl)
each_there n k kind (inr (inr e)) true = rw e (rw (eq-eqb k k refl, and_false (k == 0)) refl)
each_there n k kind (inr (inr e)) false = rw e (rw (eq-eqb k k refl) refl)

first_there : (n kind : ℕ) → (kind ≡ 1) ⊎ ((kind ≡ 2) ⊎ (kind ≡ 4)) → list_any (is_standing (bare_id 0 kind 1)) (roots n 0) ≡ true
first_there n kind (inl e) = rw e refl
first_there n kind (inr (inl e)) = rw e refl
first_there n kind (inr (inr e)) = rw e refl

root_there : (n kind at : ℕ) → IsRoot n kind at → list_any (is_standing (bare_id at kind 1)) (roots n at) ≡ true
root_there n kind at (inl (e, z)) = rw z (first_there n kind e)
root_there n kind at (inr (e, z)) = each_there n at kind e (at == 0)

boot_there : (n : ℕ) (o : Id) → IsRootId n o → list_any (is_standing o) (roots n o.home) ≡ true
boot_there n o h =
    subst (λ number. list_any (is_standing (bare_id o.home o.kind number)) (roots n o.home) ≡ true) (sym h.number)
    (root_there n o.kind o.home h.root)

pub root_home : (n kind at : ℕ) → 1 ≤ n → IsRoot n kind at → at < n
root_home n kind at h (inl (e, z)) = omega arith
root_home n kind at h (inr (e, z)) = z

root_small : (n kind at : ℕ) → IsRoot n kind at → kind < 16
root_small n kind at (inl (e, z)) = kinds kind e
  where
    kinds : (kind : ℕ) → (kind ≡ 1) ⊎ ((kind ≡ 2) ⊎ (kind ≡ 4)) → kind < 16
    kinds kind (inl e) = omega arith
    kinds kind (inr (inl e)) = omega arith
    kinds kind (inr (inr e)) = omega arith
root_small n kind at (inr (e, z)) = kinds kind e
  where
    kinds : (kind : ℕ) → (kind ≡ 3) ⊎ ((kind ≡ 5) ⊎ (kind ≡ 7)) → kind < 16
    kinds kind (inl e) = omega arith
    kinds kind (inr (inl e)) = omega arith
    kinds kind (inr (inr e)) = omega arith

-- ---- legal journals

module _ (r : Rules) (es : List Entry) (legal : IsLegal r es) (o : Id) where
  pub root_stands : 1 ≤ r.localities → IsRootId r.localities o → StandsAtHome r.localities (replayed r es) o
  root_stands some h = record {
    home = root_home r.localities o.kind o.home some h.root;
    stands = roots_run r (first r) es legal o.home o (root_small r.localities o.kind o.home h.root) (boot_there r.localities o h);
  }
