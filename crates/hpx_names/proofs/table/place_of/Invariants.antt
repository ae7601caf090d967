use Rattle.std.proofs.Common.{◌≡◌, ◌+◌, length}
use Rattle.hpx_names.specs.Places
use Rattle.hpx_names.proofs.table.place_of.Given as goal

abbrev pub invariant-pairs : goal.invariant-pairs
invariant-pairs l = (l.place + Places.place_of l.key l.left ≡ Places.place_of l.key l.pairs) × (l.place + length l.left ≡ length l.pairs)

abbrev pub decreases-pairs : goal.decreases-pairs
decreases-pairs l = length l.left
