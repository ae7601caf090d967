-- A rider is merged at the place of the first id that is like it.
use Rattle.std.proofs.Common.{ℕ, zero, suc, ◌+◌, true, false, take, set, List, [], ◌∷◌, ◌≡◌, Some, None, refl, sym, ap, ◌∙◌, inl, inr}
use Rattle.std.proofs.lemmas.Bool.{cases_Bool}
use Rattle.std.specs.List.{slice_get, find, list_any}
use Rattle.hpx_journal.specs.Data.{Id}
use Rattle.hpx_tables.specs.Merged.{is_like, merged}

module _ (rider : Id) (log : ℕ) where
  abbrev above : Id → Id
  above x = record { home = x.home; kind = x.kind; number = x.number; log = Some (log + 1) }

  pub merged_at : (ids : List Id) (k : ℕ) (x : Id) → slice_get ids k ≡ Some x → find (is_like rider log) (take k ids) ≡ None → is_like rider log x ≡ true
      → merged rider log ids ≡ set ids k (record { home = x.home; kind = x.kind; number = x.number; log = Some (log + 1) })
  merged_at [] k x there before like = cc
  merged_at (y ∷ ys) zero x there before like =
      let same : y ≡ x = cc in rw (same, like) refl
  merged_at (y ∷ ys) (suc k) x there before like = elim (cases_Bool (is_like rider log y)) [
    | inl t ↦ absurd (let e : Some y ≡ None = rw t at before in cc)
    | inr f ↦ rw f (ap (λ is. y ∷ is) (merged_at ys k x there (rw f at before) like))
  ]

  pub none_like : (ids : List Id) → find (is_like rider log) ids ≡ None → (merged rider log ids ≡ ids) × (list_any (is_like rider log) ids ≡ false)
  none_like [] h = (refl, refl)
  none_like (y ∷ ys) h = elim (cases_Bool (is_like rider log y)) [
    | inl t ↦ absurd (let e : Some y ≡ None = rw t at h in cc)
    | inr f ↦ let k = none_like ys (rw f at h) in rw f (ap (λ is. y ∷ is) k.0, k.1)
  ]

  pub some_like : (ids : List Id) (x : Id) → find (is_like rider log) ids ≡ Some x → (is_like rider log x ≡ true) × (list_any (is_like rider log) ids ≡ true)
  some_like [] x h = cc
  some_like (y ∷ ys) x h = elim (cases_Bool (is_like rider log y)) [
    | inl t ↦ let same : y ≡ x = (let e : Some y ≡ Some x = rw t at h in cc) in rw t (ap (is_like rider log) (sym same) ∙ t, refl)
    | inr f ↦ let k = some_like ys x (rw f at h) in rw f (k.0, k.1)
  ]
