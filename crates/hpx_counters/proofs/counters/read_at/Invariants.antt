use Rattle.std.proofs.Common.{◌≡◌, map, take, None}
use Rattle.hpx_counters.specs.Counters.{counter_in, counter_at, longest_front}
use Rattle.hpx_counters.proofs.counters.read_at.Given as goal

abbrev pub invariant-loop-what : goal.invariant-loop-what
invariant-loop-what l = record {
  none : counter_in l.name (map (counter_at l.locality) (take l.what-index l.what-items)) ≡ None;
  longest : l.longest ≡ longest_front l.name (map (counter_at l.locality) (take l.what-index l.what-items));
}
