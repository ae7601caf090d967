use Rattle.std.proofs.Common.{◌≡◌, length}
use Rattle.hpx_calls.proofs.Fronts.{after}
use Rattle.app_compute.specs.Stencil.{parts_in}
use Rattle.app_compute.proofs.ring.parts_in.Given as goal

abbrev pub invariant-pairs : goal.invariant-pairs
invariant-pairs l = after l.parts (parts_in l.size l.left) ≡ parts_in l.size l.values

abbrev pub decreases-pairs : goal.decreases-pairs
decreases-pairs l = length l.left
