-- Ids that have a credit exactly where their objects are managed.
use Rattle.std.proofs.Common.{ℕ, zero, suc, Bool, true, false, List, [], ◌∷◌, ◌≡◌, ◌+◌, ◌==◌, ◌&&◌, set, refl, ◌∙◌, inl, inr}
use Rattle.std.specs.Prelude.{is_some}
use Rattle.std.specs.List.{filter, AllByRecursion}
use Rattle.std.proofs.lemmas.Bool.{cases_Bool}
use Rattle.hpx_value.specs.Ids.{Id}
use Rattle.hpx_value.specs.Hands.{id_at, session}
use Rattle.hpx_commit.specs.Deals.{is_managed, half, named, share, dealt, unnamed_from}
use Rattle.hpx_commit.proofs.Ahead.{some_half}
use Rattle.hpx_commit.proofs.AheadMore.{all_set}
use Rattle.hpx_commit.proofs.Lists.{all_imp}

-- P says so of an id, and Q that it has a credit, of a managed object
pub record AreRight (P Q : Id → Type 0) : Type 0 where
  pub says : (id : Id) → P id → is_some id.log ≡ is_managed id
  pub so : (id : Id) → is_some id.log ≡ is_managed id → P id
  pub has : (id : Id) → is_some id.log ≡ true → is_managed id ≡ true → Q id
  pub had : (id : Id) → Q id → P id

module _ (P Q : Id → Type 0) (are : AreRight P Q) where
  pub right_half : (id : Id) → P id → P (half id)
  right_half id h = are.so (half id) (some_half id.log ∙ are.says id h)

  pub right_session : P session
  right_session = are.so session refl

  pub right_at : (ids : List Id) (p : ℕ) → AllByRecursion P ids → P (id_at ids p)
  right_at [] p h = right_session
  right_at (id ∷ ids) zero h = h.0
  right_at (id ∷ ids) (suc p) h = right_at ids p h.1

  right_share : (id : Id) (n : ℕ) → P id → P (share id n)
  right_share id zero h = h
  right_share id (suc n) h = right_half id h

  -- what is dealt has its credits
  pub right_dealt : (hand : List Id) (ps : List ℕ) → AllByRecursion P hand → AllByRecursion P (dealt hand ps)
  right_dealt hand [] h = tt
  right_dealt hand (p ∷ ps) h =
      let part : P (share (id_at hand p) (named ps p)) = right_share (id_at hand p) (named ps p) (right_at hand p h) in
      (part, right_dealt (set hand p (share (id_at hand p) (named ps p))) ps (all_set P hand p (share (id_at hand p) (named ps p)) part h))

  has_right : (id : Id) → is_managed id ≡ true → P id → Q id
  has_right id t h = are.has id (are.says id h ∙ t) t

  and_first : (b c : Bool) → (b && c) ≡ true → b ≡ true
  and_first true c h = refl
  and_first false c h = h

  -- what nobody names has credit, and so has what is managed
  pub unnamed_has : (p : ℕ) (ids : List Id) (places : List ℕ) → AllByRecursion P ids → AllByRecursion Q (unnamed_from p ids places)
  unnamed_has p [] places h = tt
  unnamed_has p (id ∷ ids) places h = elim (cases_Bool (is_managed id && (named places p == 0))) [
    | inl t ↦ rw t (has_right id (and_first (is_managed id) (named places p == 0) t) h.0, unnamed_has (p + 1) ids places h.1)
    | inr t ↦ rw t (unnamed_has (p + 1) ids places h.1)
  ]

  pub managed_has : (ids : List Id) → AllByRecursion P ids → AllByRecursion Q (filter is_managed ids)
  managed_has [] h = tt
  managed_has (id ∷ ids) h = elim (cases_Bool (is_managed id)) [
    | inl t ↦ rw t (has_right id t h.0, managed_has ids h.1)
    | inr f ↦ rw f (managed_has ids h.1)
  ]

  pub had_right : (ids : List Id) → AllByRecursion Q ids → AllByRecursion P ids
  had_right ids h = all_imp Q P are.had ids h
