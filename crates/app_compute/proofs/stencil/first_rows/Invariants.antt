use Rattle.std.proofs.Common.{◌≡◌}
use Rattle.app_compute.specs.StencilSession.{first_rows}
use Rattle.app_compute.proofs.stencil.first_rows.Given as goal

abbrev pub invariant-loop-q : goal.invariant-loop-q
invariant-loop-q l = l.rows ≡ first_rows l.size 0 l.q
