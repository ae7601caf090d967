use Rattle.std.proofs.Common.{◌≡◌, None}
use Rattle.hpx_counters.specs.Counters.{counter_in, counters_below, longest_front}
use Rattle.hpx_counters.proofs.counters.read.Given as goal

abbrev pub invariant-loop-locality : goal.invariant-loop-locality
invariant-loop-locality l = record {
  none : counter_in l.name (counters_below l.locality) ≡ None;
  longest : l.longest ≡ longest_front l.name (counters_below l.locality);
}
