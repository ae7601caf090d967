use Rattle.std.proofs.Common.{◌≡◌, length}
use Rattle.hpx_calls.specs.Contents
use Rattle.hpx_calls.proofs.read.rises.Given as goal

abbrev pub invariant-pairs : goal.invariant-pairs
invariant-pairs l = Contents.rises_from l.last l.left ≡ Contents.rises l.pairs

abbrev pub decreases-pairs : goal.decreases-pairs
decreases-pairs l = length l.left
