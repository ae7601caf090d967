use Rattle.std.proofs.Common.{◌≡◌}
use Rattle.app_compute.specs.StencilSession.{new_calls}
use Rattle.app_compute.proofs.stencil.new_calls.Given as goal

abbrev pub invariant-loop-q : goal.invariant-loop-q
invariant-loop-q l = l.sends ≡ new_calls l.localities l.slot l.size 0 l.q
