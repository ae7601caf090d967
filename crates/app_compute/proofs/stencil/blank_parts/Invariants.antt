use Rattle.std.proofs.Common.{◌≡◌}
use Rattle.app_compute.specs.StencilSession.{blank_parts}
use Rattle.app_compute.proofs.stencil.blank_parts.Given as goal

abbrev pub invariant-loop : goal.invariant-loop
invariant-loop l = l.parts ≡ blank_parts l.counter
