use Rattle.std.proofs.Common.{◌≡◌, ◌++◌, length}
use Rattle.hpx_calls.specs.Tables
use Rattle.hpx_numbers.proofs.row.stepped.Given as goal

abbrev pub invariant-numbers : goal.invariant-numbers
invariant-numbers l = l.next ++ Tables.stepped l.before l.rest l.right ≡ Tables.stepped l.left l.numbers l.right

abbrev pub decreases-numbers : goal.decreases-numbers
decreases-numbers l = length l.rest
