use Rattle.std.proofs.Common.{arith}
use Rattle.hpx_counters.proofs.CounterLemmas.{shared_at_end}
use Rattle.hpx_counters.proofs.counters.shared.Goals as goal

pub returns-else-n-other-clause-value : goal.returns-else-n-other-clause-value
returns-else-n-other-clause-value c =
    omega (arith, c.loop-n.invariant.rest, shared_at_end c.args.text.now c.args.other.now c.loop-n.n (omega arith))
