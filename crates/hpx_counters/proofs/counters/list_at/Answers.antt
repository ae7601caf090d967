use Rattle.std.proofs.Common.{arith}
use Rattle.hpx_counters.specs.Counters.{all_counted}
use Rattle.hpx_counters.proofs.CounterLemmas.{names_more}
use Rattle.hpx_counters.proofs.counters.list_at.Goals as goal

pub loop-what-preserved : goal.loop-what-preserved
loop-what-preserved c =
    names_more c.args.locality all_counted c.loop-what.what-index _ c.args.names.now c.loop-what.names c.push.new.self c.in_ok-name.field-0
    (omega arith) c.loop-what.invariant c.in_ok-push.ensures.ok c.in_ok-name.ensures
