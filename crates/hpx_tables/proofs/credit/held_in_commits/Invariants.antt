use Rattle.std.proofs.Common.{◌≡◌, ◌-◌, ◌^◌, min, take}
use Rattle.std.specs.List.{sum_by}
use Rattle.hpx_tables.specs.Pending.{Waits, ids_kept}
use Rattle.hpx_tables.specs.Kept.{credit_in}
use Rattle.hpx_tables.proofs.credit.held_in_commits.Given as goal

abbrev pub invariant-loop-i : goal.invariant-loop-i
invariant-loop-i g l = l.sum ≡ min (2 ^ 128 - 1) (sum_by (λ (w : Waits). credit_in l.o (ids_kept w)) (take l.i l.pending))
