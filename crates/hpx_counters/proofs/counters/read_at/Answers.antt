use Rattle.std.proofs.Common.{arith, refl}
use Rattle.hpx_counters.specs.Counters.{all_counted}
use Rattle.hpx_counters.proofs.CounterLemmas.{none_more, front_more}
use Rattle.hpx_counters.proofs.counters.read_at.Goals as goal

pub loop-what-preserved : goal.loop-what-preserved
loop-what-preserved c = record {
  none = none_more c.args.name.now c.args.locality all_counted c.loop-what.what-index _ _ (omega arith) c.loop-what.invariant.none c.in-Err.ensures.named refl;
  longest = front_more c.args.name.now c.args.locality all_counted c.loop-what.what-index _ c.loop-what.longest c.in-Err.front _
      (omega arith) c.loop-what.invariant.longest c.in-Err.ensures.front c.max-longest.ensures;
}
