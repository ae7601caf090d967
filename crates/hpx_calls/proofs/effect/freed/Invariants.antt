use Rattle.std.proofs.Common.{◌≡◌}
use Rattle.hpx_calls.specs.Outcomes
use Rattle.hpx_calls.proofs.effect.freed.Given as goal

abbrev pub invariant-loop-cont : goal.invariant-loop-cont
invariant-loop-cont l = l.replies ≡ Outcomes.freed l.value 0 l.cont
