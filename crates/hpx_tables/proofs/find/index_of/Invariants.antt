use Rattle.std.proofs.Common.{◌≡◌, ℕ, ◌<◌, Some}
use Rattle.std.specs.List.{slice_get}
use Rattle.hpx_tables.proofs.find.index_of.Given as goal

abbrev pub invariant-loop-i : goal.invariant-loop-i
invariant-loop-i l = (k : ℕ) → k < l.i → slice_get l.running k ≡ Some l.act → ⊥
