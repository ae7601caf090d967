use Rattle.std.proofs.Common.{length, ◌-◌, ◌≡◌, ◌≤◌, take}
use Rattle.hpx_ports.specs.Told.{followed}
use Rattle.hpx_ports.proofs.sink.write_all.Given as goal

-- the first bytes are written
abbrev pub invariant-loop-at : goal.invariant-loop-at
invariant-loop-at g l =
    record {
      within : l.at ≤ length l.bytes;
      written : g.K.Sink.held l.sink ≡ followed (g.K.Sink.held l.fn.sink) (take l.at l.bytes);
      stands : g.K.Sink.faults l.sink ≡ g.K.Sink.faults l.fn.sink;
    }

abbrev pub decreases-loop-at : goal.decreases-loop-at
decreases-loop-at g l = length l.bytes - l.at
