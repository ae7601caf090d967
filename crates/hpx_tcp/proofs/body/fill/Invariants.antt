use Rattle.std.proofs.Common.{length, ◌-◌, ◌≡◌, ◌≤◌, take}
use Rattle.hpx_ports.specs.Told.{preceded}
use Rattle.hpx_tcp.proofs.body.fill.Given as goal

-- the first bytes of the buffer are those that were read
abbrev pub invariant-loop-done : goal.invariant-loop-done
invariant-loop-done g l =
    record {
      within : l.done ≤ length l.buf;
      size : length l.buf ≡ length l.fn.buf;
      read : g.S.Source.left l.fn.source ≡ preceded (take l.done l.buf) (g.S.Source.left l.source);
    }

abbrev pub decreases-loop-done : goal.decreases-loop-done
decreases-loop-done g l = length l.initial.buf - l.done
