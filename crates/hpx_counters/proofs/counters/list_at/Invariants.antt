use Rattle.std.proofs.Common.{◌≡◌, ◌++◌, map, take}
use Rattle.hpx_counters.specs.Counters.{name_of, counter_at}
use Rattle.hpx_counters.proofs.counters.list_at.Given as goal

abbrev pub invariant-loop-what : goal.invariant-loop-what
invariant-loop-what l = l.names ≡ l.fn.names ++ map name_of (map (counter_at l.locality) (take l.what-index l.what-items))
