-- The roots at boot.
use Rattle.std.proofs.Common.{ℕ, Bool, true, false, cond, List, [], ◌∷◌, ◌++◌, ◌+◌, ◌≤◌, refl, arith}
use Rattle.std.specs.Prelude.{◌==◌, ◌&&◌, pos}
use Rattle.std.specs.List.{count_by}
use Rattle.std.proofs.lemmas.Bool.Decides.{nat_tests}
use Rattle.hpx_value.specs.Ids.{Id}
use Rattle.hpx_journal.specs.Data.{Value, Int}
use Rattle.hpx_journal.specs.Entries.{Rules}
use Rattle.hpx_journal.specs.Local.{is_standing, boot}
use Rattle.hpx_journal.specs.Roots.{root, roots, roots_of_first}
use Rattle.hpx_journal.proofs.Keys.{one_if}
use Rattle.hpx_journal.proofs.Start.{roots_nameless}
use Rattle.hpx_part.specs.View.{IsCovered}
use Rattle.hpx_part.specs.Shows.{Shows}
use Rattle.hpx_part.specs.Parts.{StandsFor, view_at_boot}

-- a kind is at most one of six
six_kinds : (kind : ℕ) → one_if (kind == 1) + one_if (kind == 2) + one_if (kind == 4) + one_if (kind == 3) + one_if (kind == 5) + one_if (kind == 7) ≤ 1
six_kinds kind = grind (arith, nat_tests)

middle_holds : (a b c : Bool) → one_if (a && (b && c)) ≤ one_if b
middle_holds true true true = omega arith
middle_holds true true false = omega arith
middle_holds true false c = omega arith
middle_holds false b c = omega arith

root_counts : (o : Id) (k kind : ℕ) (values : List Value) → one_if (is_standing o (root k kind values)) ≤ one_if (o.kind == kind)
root_counts o k kind values = middle_holds (o.home == k) (o.kind == kind) (o.number == 1)

-- a root is there once
roots_once_at : (n k : ℕ) (first : Bool) (o : Id)
    → count_by (is_standing o) (cond first (roots_of_first n) [] ++ (root k 3 [] ∷ root k 5 [] ∷ root k 7 [] ∷ [])) ≤ 1
roots_once_at n k true o =
    omega (
      arith,
      six_kinds o.kind,
      root_counts o 0 1 [],
      root_counts o 0 2 [],
      root_counts o 0 4 (Int (pos n) ∷ []),
      root_counts o k 3 [],
      root_counts o k 5 [],
      root_counts o k 7 [],
    )
roots_once_at n k false o =
    omega (arith, six_kinds o.kind, root_counts o k 3 [], root_counts o k 5 [], root_counts o k 7 [])

boot_covered : (n k : ℕ) → IsCovered (view_at_boot n k)
boot_covered n k o managed = record { named = omega (arith, roots_nameless n k o); pending = omega arith }

boot_shown : (n k : ℕ) → Shows (view_at_boot n k) (boot (roots n k) k)
boot_shown n k = record {
  acts = record {
    here = refl;
    serial = refl;
    waiting = record { single = λ a. omega arith; counts = λ a. refl; finds = λ a. refl };
    fired = record { single = λ a. omega arith; counts = λ a. refl; finds = λ a. refl };
    due = refl;
  };
  objects = record {
    number = refl;
    objects = record { single = λ o. roots_once_at n k (k == 0) o; counts = λ o. refl; finds = λ o. refl };
    travels = record { single = λ o. omega arith; counts = λ o. refl; finds = λ o. refl };
    fresh = refl;
  };
  credit = record { tokens = λ f weight. refl; asking = λ o. refl; asks = λ o. refl };
  counts = record { live = λ o home. refl; dead = tt; refusals = tt; failing = omega arith };
  last = tt;
}

pub stands_at_boot : (r : Rules) (k : ℕ) → StandsFor r (view_at_boot r.localities k) []
stands_at_boot r k = record {
  covered = boot_covered r.localities k;
  keeps = tt;
  shows = λ clean. boot_shown r.localities k;
  forms = tt;
}
