use Rattle.hpx_counters.specs.Counters.{counters_below}
use Rattle.hpx_counters.proofs.CounterLemmas.{all_names_more}
use Rattle.hpx_counters.proofs.counters.list.Goals as goal

pub loop-locality-init : goal.loop-locality-init
unfolding counters_below
loop-locality-init c = c.new-names.ensures

pub loop-locality-preserved : goal.loop-locality-preserved
loop-locality-preserved c = all_names_more c.loop-locality.locality c.loop-locality.names _ c.loop-locality.invariant c.in_ok-list_at.ensures
