use Rattle.std.specs.List.{concat}
use Rattle.std.proofs.Common.{◌≡◌, drop}
use Rattle.hpx_journal.specs.Pool.{prints_of}
use Rattle.hpx_top.specs.Session.{WritesUpTo}
use Rattle.hpx_top.proofs.session.show.Given as goal

-- what the entries before i print was written
abbrev pub invariant-loop-i : goal.invariant-loop-i
invariant-loop-i g l =
    WritesUpTo (concat (prints_of (drop l.i l.journal.entries))) (concat (prints_of (drop l.fn.cut l.journal.entries)))
    (g.K.Sink.held l.fn.sink) (g.K.Sink.held l.sink)
    × (g.K.Sink.faults l.sink ≡ g.K.Sink.faults l.fn.sink)
