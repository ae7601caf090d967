use Rattle.std.proofs.Common.{◌≡◌, ◌++◌, length}
use Rattle.hpx_calls.specs.Tables
use Rattle.hpx_names.proofs.table.listed.Given as goal

abbrev pub invariant-pairs : goal.invariant-pairs
invariant-pairs l = l.text.items ++ Tables.listed l.left ≡ Tables.listed l.pairs

abbrev pub decreases-pairs : goal.decreases-pairs
decreases-pairs l = length l.left
