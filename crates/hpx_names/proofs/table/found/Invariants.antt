use Rattle.std.proofs.Common.{◌≡◌, length}
use Rattle.hpx_calls.specs.Tables
use Rattle.hpx_names.proofs.table.found.Given as goal

abbrev pub invariant-pairs : goal.invariant-pairs
invariant-pairs l = Tables.found l.key l.left ≡ Tables.found l.key l.pairs

abbrev pub decreases-pairs : goal.decreases-pairs
decreases-pairs l = length l.left
