use Rattle.std.proofs.Common.{◌≡◌}
use Rattle.app_compute.specs.Ring.{points_from}
use Rattle.app_compute.proofs.stencil.points_from.Given as goal

abbrev pub invariant-loop-i : goal.invariant-loop-i
invariant-loop-i l = l.points ≡ points_from l.first l.i
