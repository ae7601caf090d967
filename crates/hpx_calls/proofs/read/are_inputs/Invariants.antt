use Rattle.std.proofs.Common.{◌≡◌, length}
use Rattle.hpx_calls.specs.Contents
use Rattle.hpx_calls.proofs.read.are_inputs.Given as goal

abbrev pub invariant-inputs : goal.invariant-inputs
invariant-inputs l = Contents.are_inputs l.fn.inputs l.left ≡ Contents.are_inputs l.fn.inputs l.given

abbrev pub decreases-inputs : goal.decreases-inputs
decreases-inputs l = length l.left
