use Rattle.std.proofs.Common.{◌≡◌, ◌++◌, drop}
use Rattle.app_compute.proofs.stencil.push_copies.Given as goal

abbrev pub invariant-loop-part : goal.invariant-loop-part
invariant-loop-part l = l.new ++ drop l.part-index l.parts ≡ l.fn.new ++ l.parts
