use Rattle.std.proofs.Common.{◌≡◌, map}
use Rattle.hpx_counters.specs.Counters.{name_of, counters_below}
use Rattle.hpx_counters.proofs.counters.list.Given as goal

abbrev pub invariant-loop-locality : goal.invariant-loop-locality
invariant-loop-locality l = l.names ≡ map name_of (counters_below l.locality)
