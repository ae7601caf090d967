-- None of the roots stands twice.
use Rattle.std.proofs.Common.{ℕ, Bool, true, false, List, [], ◌∷◌, ◌++◌, ◌≡◌, ◌==◌, None, find, refl}
use Rattle.std.specs.Prelude.{◌&&◌, cond, Some}
use Rattle.std.proofs.lemmas.Bool.{cases_Bool}
use Rattle.std.proofs.Common.{inl, inr}
use Rattle.hpx_value.specs.Ids.{bare_id}
use Rattle.hpx_journal.specs.Local.{is_standing}
use Rattle.hpx_journal.specs.Roots.{root, roots_of_first}
use Rattle.hpx_part.specs.Data.{Standing}

off : (a : Bool) → (a && false) ≡ false
off true = refl
off false = refl

-- one of another kind
pub apart_own : (here kind other : ℕ) → (kind == other) ≡ false → find (is_standing (bare_id here kind 1)) (root here other [] ∷ []) ≡ None
apart_own here kind other e = rw (e, off (here == here)) refl

-- those that locality 0 has alone
pub apart_first : (b : Bool) (here kind n : ℕ) → (kind == 1) ≡ false → (kind == 2) ≡ false → (kind == 4) ≡ false
    → find (is_standing (bare_id here kind 1)) (cond b (roots_of_first n) []) ≡ None
apart_first true here kind n e f g = rw (e, f, g, off (here == 0)) refl
apart_first false here kind n e f g = refl

pub apart_both : (p : Standing → Bool) (xs ys : List Standing) → find p xs ≡ None → find p ys ≡ None → find p (xs ++ ys) ≡ None
apart_both p [] ys a b = b
apart_both p (x ∷ xs) ys a b = elim (cases_Bool (p x)) [
  | inl t ↦ absurd (let e : Some x ≡ None = rw t at a in cc)
  | inr t ↦ rw t (apart_both p xs ys (rw t at a) b)
]
