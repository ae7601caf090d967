use Rattle.std.proofs.Common.{◌≡◌, ◌++◌, drop}
use Rattle.app_compute.specs.Ring.{joined}
use Rattle.app_compute.proofs.stencil.joined.Given as goal

abbrev pub invariant-loop-row : goal.invariant-loop-row
invariant-loop-row l = l.numbers.items ++ joined (drop l.row-index l.rows) ≡ joined l.rows
