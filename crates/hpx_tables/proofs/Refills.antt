-- What was asked for is found, and given.
use Rattle.std.proofs.Common.{ℕ, Bool, true, List, [], ◌∷◌, ◌≡◌, ◌+◌, ◌<◌, ◌==◌, cond, Option, Some, None, set, drop, get_or, length, subst, sym, ap, ◌∙◌, inl, inr}
use Rattle.std.proofs.lemmas.Bool.{cases_Bool, eqb-true, eq-eqb}
use Rattle.std.specs.List.{find, list_any, slice_get, remove}
use Rattle.hpx_value.specs.Ids.{bare}
use Rattle.hpx_journal.specs.Data.{Id}
use Rattle.hpx_part.proofs.Keyed.{find_step, get_slice_get}
use Rattle.hpx_commit.specs.Deals.{log_of}
use Rattle.hpx_tables.specs.Pending.{Asked, Waits, is_asked_for, Refills}
use Rattle.hpx_tables.proofs.Alls.{find_passes}

-- what passes is found
pub any_found : {X : Type 0} (p : X → Bool) (xs : List X) → list_any p xs ≡ true → find p xs ≡ None → ⊥
any_found p [] h none = cc
any_found p (z ∷ xs) h none = elim (cases_Bool (p z)) [
  | inl t ↦ let e : Some z ≡ None = rw t at none in cc
  | inr f ↦ any_found p xs (rw f at h) (rw f at none)
]

pub refills_by : (w w' : Waits) (id : Id) (entry k : ℕ) (ask : Asked) → slice_get w.asked k ≡ Some ask → find (is_asked_for w id entry) w.asked ≡ Some ask
    → w' ≡ record w { hand = set w.hand ask.place id; asked = remove w.asked k; refused = w'.refused }
    → w'.refused ≡ cond (log_of id.log == 0) (Some (bare id)) w.refused → Refills id entry w w'
refills_by w w' id entry k ask there found rest refused = record {
  k = k;
  ask = ask;
  first = found;
  there = there;
  for = find_passes (is_asked_for w id entry) w.asked ask found;
  now = rest ∙ ap (λ o. record w { hand = set w.hand ask.place id; asked = remove w.asked k; refused = o }) refused;
}

pub refused_is : (id : Id) (o : Option Id) → log_of id.log ≡ 0 → Some (bare id) ≡ cond (log_of id.log == 0) (Some (bare id)) o
refused_is id o e = sym (ap (λ b. cond b (Some (bare id)) o) (eq-eqb (log_of id.log) 0 e))

pub refused_not : (id : Id) (o : Option Id) → (log_of id.log ≡ 0 → ⊥) → o ≡ cond (log_of id.log == 0) (Some (bare id)) o
refused_not id o ne = elim (cases_Bool (log_of id.log == 0)) [
  | inl t ↦ absurd (ne (eqb-true (log_of id.log) 0 t))
  | inr f ↦ sym (ap (λ b. cond b (Some (bare id)) o) f)
]

-- the first that passes, behind those that do not
pub found_on : {X : Type 0} (p : X → Bool) (xs ys : List X) (k : ℕ) (d : X) → ys ≡ xs → k < length ys → p (get_or ys k d) ≡ true
    → find p xs ≡ find p (drop k xs) → find p xs ≡ slice_get xs k
found_on p xs ys k d same lt passes past =
    let less : k < length xs = subst (λ (zs : List _). k < length zs) same lt in
    let is : p (get_or xs k d) ≡ true = subst (λ (zs : List _). p (get_or zs k d) ≡ true) same passes in
    past
    ∙ (find_step p xs k d less
    ∙ (ap (λ b. cond b (Some (get_or xs k d)) (find p (drop (k + 1) xs))) is ∙ sym (get_slice_get xs k d less)))
