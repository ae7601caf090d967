use Rattle.std.proofs.Common.{◌≡◌, ◌≤◌, ◌-◌, take, length}
use Rattle.hpx_value.proofs.items.same_slices.Given as goal

abbrev pub invariant-loop-i : goal.invariant-loop-i
invariant-loop-i g l = (length l.xs ≡ length l.ys) × (l.i ≤ length l.xs) × (take l.i l.xs ≡ take l.i l.ys)

abbrev pub decreases-loop-i : goal.decreases-loop-i
decreases-loop-i g l = length l.xs - l.i
