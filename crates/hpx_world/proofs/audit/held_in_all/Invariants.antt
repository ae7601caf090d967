use Rattle.std.proofs.Common.{◌≡◌, ◌-◌, ◌^◌, min, take}
use Rattle.std.specs.List.{sum_by}
use Rattle.hpx_tables.specs.Kept.{held_here}
use Rattle.hpx_world.proofs.audit.held_in_all.Given as goal

abbrev pub invariant-loop-i : goal.invariant-loop-i
invariant-loop-i g l = l.sum ≡ min (2 ^ 128 - 1) (sum_by (λ n. held_here n.tables l.o) (take l.i l.nodes))
