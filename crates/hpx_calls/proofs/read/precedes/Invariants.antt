use Rattle.std.proofs.Common.{◌≡◌, length}
use Rattle.hpx_calls.specs.Contents
use Rattle.hpx_calls.proofs.read.precedes.Given as goal

abbrev pub invariant-bytes : goal.invariant-bytes
invariant-bytes l = Contents.precedes l.xs l.ys ≡ Contents.precedes l.fn.xs l.fn.ys

abbrev pub decreases-bytes : goal.decreases-bytes
decreases-bytes l = length l.xs
