use Rattle.std.specs.List.{concat}
use Rattle.std.proofs.Common.{◌≡◌, map, drop}
use Rattle.hpx_counters.specs.Counters.{counter_value, value_text}
use Rattle.hpx_top.specs.Printed.{counters_text}
use Rattle.hpx_top.specs.Session.{WritesUpTo}
use Rattle.hpx_top.proofs.printed.write_values.Given as goal

-- the values of the counters before this one were written
abbrev pub invariant-loop-counter : goal.invariant-loop-counter
invariant-loop-counter g l =
    WritesUpTo (concat (map (λ counter. value_text counter (counter_value counter l.fn.journal.entries)) (drop l.counter-index l.counters)))
    (counters_text l.counters l.fn.journal.entries) (g.K.Sink.held l.fn.sink) (g.K.Sink.held l.sink)
    × (g.K.Sink.faults l.sink ≡ g.K.Sink.faults l.fn.sink)
