use Rattle.std.proofs.Common.{◌≡◌, ◌+◌}
use Rattle.app_compute.specs.Numbers.{fibonacci}
use Rattle.app_compute.proofs.plain.fibonacci.Given as goal

abbrev pub invariant-loop : goal.invariant-loop
invariant-loop l = (l.this ≡ fibonacci l.counter) × (l.next ≡ fibonacci (l.counter + 1))
