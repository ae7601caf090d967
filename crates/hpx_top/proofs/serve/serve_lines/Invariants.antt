use Rattle.std.proofs.Common.{◌≡◌, ◌+◌, ◌≤◌, [], false, length}
use Rattle.hpx_journal.specs.Weights.{HasRoom}
use Rattle.hpx_world.specs.Heard.{KeepsLatest}
use Rattle.hpx_world.specs.Quiet.{NoneRuns}
use Rattle.hpx_top.specs.Reader.{HasRead, bytes_left, lines_left}
use Rattle.hpx_top.specs.Session.{rules, Carries, IsRested, IsHandling}
use Rattle.hpx_top.proofs.serve.serve_lines.Given as goal

abbrev pub invariant-loop-reader : goal.invariant-loop-reader
invariant-loop-reader g l =
    record {
      handling : IsHandling l.fn.console (rules l.fn.world) (g.S.Source.left l.fn.source)
          (lines_left (record { pending = []; read = 0; ended = false }) (g.S.Source.left l.fn.source))
          (g.K.Sink.held l.fn.sink) l.reader (g.S.Source.left l.source) l.progress.held l.progress.cuts.items l.world.journal.entries (g.K.Sink.held l.sink);
      reads : HasRead (g.S.Source.left l.fn.source) l.reader (g.S.Source.left l.source);
      counted : l.reader.read + g.S.Source.taken l.fn.source ≡ g.S.Source.taken l.source;
      limit : l.reader.read ≤ 67108864;
      rest : l.progress.held ≡ false → IsRested l.world;
      jobs : NoneRuns l.world.nodes;
      profile : l.world.profile ≡ l.fn.world.profile;
      carrying : Carries l.fn.world (g.F.Fabric.flight l.fn.fabric) (g.F.Fabric.trace l.fn.fabric) → Carries l.world (g.F.Fabric.flight l.fabric) (g.F.Fabric.trace l.fabric);
      hears : KeepsLatest l.fn.world.hand (g.F.Fabric.latest l.fn.fabric) l.world.hand (g.F.Fabric.latest l.fabric);
      count : length l.world.nodes ≡ length l.fn.world.nodes;
      source_stands : g.S.Source.faults l.source ≡ g.S.Source.faults l.fn.source;
      sink_stands : g.K.Sink.faults l.sink ≡ g.K.Sink.faults l.fn.sink;
      fabric_stands : g.F.Fabric.faults l.fabric ≡ g.F.Fabric.faults l.fn.fabric;
      room : HasRoom l.world.journal.entries;
    }

abbrev pub decreases-loop-reader : goal.decreases-loop-reader
decreases-loop-reader g l = bytes_left l.reader
