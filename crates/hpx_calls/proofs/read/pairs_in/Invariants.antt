use Rattle.std.proofs.Common.{◌≡◌, length}
use Rattle.hpx_calls.specs.Contents
use Rattle.hpx_calls.specs.Values.{spelled}
use Rattle.hpx_calls.proofs.Fronts.{after}
use Rattle.hpx_calls.proofs.read.pairs_in.Given as goal

abbrev pub invariant-pairs : goal.invariant-pairs
invariant-pairs l = after l.pairs (Contents.pairs_in spelled l.left) ≡ Contents.pairs_in spelled l.values

abbrev pub decreases-pairs : goal.decreases-pairs
decreases-pairs l = length l.left
