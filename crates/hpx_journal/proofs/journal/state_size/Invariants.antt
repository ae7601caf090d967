-- The bytes so far, with those of the values that are left, are those of all.
use Rattle.std.proofs.Common.{◌≡◌, ◌≤◌, ◌+◌, ◌-◌, ◌^◌, min, drop}
use Rattle.hpx_value.specs.Shapes.{values_size}
use Rattle.hpx_journal.specs.Weights.{state_size}
use Rattle.hpx_journal.proofs.journal.state_size.Given as goal

abbrev pub invariant-loop-value : goal.invariant-loop-value
invariant-loop-value l = record {
  so_far : min (2 ^ 64 - 1) (l.size + values_size (drop l.value-index l.value-items)) ≡ min (2 ^ 64 - 1) (state_size l.state);
  small : l.size ≤ 2 ^ 64 - 1;
}
