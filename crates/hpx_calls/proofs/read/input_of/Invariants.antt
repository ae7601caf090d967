use Rattle.std.proofs.Common.{◌≡◌, length}
use Rattle.hpx_calls.specs.Contents
use Rattle.hpx_calls.proofs.read.input_of.Given as goal

abbrev pub invariant-inputs : goal.invariant-inputs
invariant-inputs l = Contents.input_of l.slot l.left ≡ Contents.input_of l.slot l.given

abbrev pub decreases-inputs : goal.decreases-inputs
decreases-inputs l = length l.left
