use Rattle.std.proofs.Common.{◌≡◌, drop}
use Rattle.hpx_calls.proofs.Fronts.{after}
use Rattle.app_compute.specs.StencilSession.{rows_of}
use Rattle.app_compute.proofs.stencil.rows_of.Given as goal

abbrev pub invariant-loop-part : goal.invariant-loop-part
invariant-loop-part l = after l.rows (rows_of (drop l.part-index l.parts)) ≡ rows_of l.parts
