use Rattle.std.proofs.Common.{◌≡◌, ◌++◌, drop}
use Rattle.app_compute.specs.StencilSession.{cleared}
use Rattle.app_compute.proofs.stencil.cleared.Given as goal

abbrev pub invariant-loop-part : goal.invariant-loop-part
invariant-loop-part l = l.new ++ cleared (drop l.part-index l.parts) ≡ cleared l.parts
