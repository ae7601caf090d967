-- What a commit does to its target, and births.
use Rattle.std.proofs.Common.{ℕ, true, cond, List, ◌∷◌, ◌≡◌, ◌+◌, ◌≤◌, Some, refl, sym, ◌∙◌, ap, arith, inl, inr}
use Rattle.std.specs.List.{find}
use Rattle.std.specs.Prelude.{◌&&◌, ◌==◌, nat_lt, nat_le}
use Rattle.std.proofs.lemmas.Bool.Decides.{nat_tests}
use Rattle.std.proofs.lemmas.Bool.{cases_Bool}
use Rattle.hpx_value.specs.Ids.{Id, same_object, bare}
use Rattle.hpx_value.specs.Hands.{state_after}
use Rattle.hpx_journal.specs.Bags.{without}
use Rattle.hpx_journal.specs.Data.{Act}
use Rattle.hpx_value.specs.Riders.{plain}
use Rattle.hpx_journal.specs.Entries.{Name, Standing, Rules, target_of}
use Rattle.hpx_journal.specs.Local.{Local, is_act, is_standing, settled, outcome}
use Rattle.hpx_journal.proofs.Bags.{find-passes, find-same}
use Rattle.hpx_journal.proofs.Same.{same_object-true, same_object-from}

-- whether h has drawn the object o, n being its last number
abbrev pub born_at : Id → ℕ → ℕ → ℕ
born_at o h n = cond ((o.home == h) && (nat_lt 0 o.number && nat_le o.number n)) 1 0

pub born_next : (x o : Id) (h n : ℕ) → x.home ≡ h → x.number ≡ n + 1
    → cond (same_object o x) 1 0 + born_at o h n ≤ born_at o h (n + 1)
born_next x o h n home number =
    elim (cases_Bool (same_object o x)) [
      | inl t ↦
          let e : bare o ≡ bare x = same_object-true o x t in
          let a : o.home ≡ x.home = ap (λ y. y.home) e in
          let b : o.number ≡ x.number = ap (λ y. y.number) e in
          rw (t, a, b, home, number) (grind (arith, nat_tests))
      | inr t ↦ rw t (grind (arith, nat_tests))
    ]

pub found_same : (target : Id) (objects : List Standing) (y : Standing) → find (is_standing target) objects ≡ Some y
    → same_object target y.object ≡ true
found_same target objects y h = find-passes (is_standing target) objects y h

-- what is found is found by its own id too
pub found_again : (x : Id) (objects : List Standing) (y : Standing) → find (is_standing x) objects ≡ Some y
    → find (is_standing y.object) objects ≡ Some y
found_again x objects y h =
    find-same (is_standing y.object) (is_standing x)
    (λ z. sym (same_object-from x y.object z.object (found_same x objects y h))) objects ∙ h

-- the target of a committed action, with its new state
abbrev pub new_standing : Rules → Local → Act → Standing → Standing
new_standing r s act x = record { object = x.object; state = state_after x.state (plain act) s.fresh (outcome r s act x) }

pub done_settles : (r : Rules) (s : Local) (a : Name) (act : Act) (y : Standing) → find (is_act a) s.fired ≡ Some act
    → find (is_standing (target_of act)) s.objects ≡ Some y
    → settled r s (find (is_act a) s.fired) ≡ new_standing r s act y ∷ without (is_standing y.object) s.objects
done_settles r s a act y h i = rw (h, i) refl
