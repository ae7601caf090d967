use Rattle.std.proofs.Common.{◌≡◌, ◌+◌, length}
use Rattle.hpx_calls.specs.Contents
use Rattle.hpx_calls.specs.Values.{spelled}
use Rattle.hpx_calls.proofs.read.given_size.Given as goal

abbrev pub invariant-inputs : goal.invariant-inputs
invariant-inputs l = l.total + Contents.given_size spelled l.left ≡ Contents.given_size spelled l.given

abbrev pub decreases-inputs : goal.decreases-inputs
decreases-inputs l = length l.left
