use Rattle.std.proofs.Common.{◌≡◌, ◌≤◌}
use Rattle.hpx_calls.specs.Outcomes
use Rattle.hpx_calls.proofs.effect.numbers.Given as goal

abbrev pub invariant-loop-i : goal.invariant-loop-i
invariant-loop-i l = (l.items ≡ Outcomes.numbers l.first l.i) × (l.count ≤ 65536)
