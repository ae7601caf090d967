use Rattle.std.proofs.Common.{◌≡◌, List, ℕ}
use Rattle.hpx_top.specs.Reader.{bytes_left}
use Rattle.hpx_process.specs.Asked.{HasTyped}
use Rattle.hpx_process.specs.Deeds.{sitting}
use Rattle.hpx_process.specs.declared.sheet.Sheet.TheVariants.{Open}
use Rattle.hpx_process.proofs.desk.Desk.ask.Given as goal

abbrev pub invariant-loop-line : goal.invariant-loop-line
invariant-loop-line g l = record {
  source : l.self.source.ghost_name ≡ l.fn.self.source.ghost_name;
  sink : l.self.sink.ghost_name ≡ l.fn.self.sink.ghost_name;
  sheet : l.self.sheet ≡ Open;
  typed : (longs : List (List ℕ)) × HasTyped longs
      (sitting l.fn.self.sheet l.fn.self.reader.now (g.S.Source.left l.fn.self.source.now) (g.S.Source.taken l.fn.self.source.now) (g.K.Sink.held l.fn.self.sink.now))
      (sitting l.self.sheet l.self.reader.now (g.S.Source.left l.self.source.now) (g.S.Source.taken l.self.source.now) (g.K.Sink.held l.self.sink.now));
  calm : (g.S.Source.faults l.self.source.now ≡ g.S.Source.faults l.fn.self.source.now) × (g.K.Sink.faults l.self.sink.now ≡ g.K.Sink.faults l.fn.self.sink.now);
}

abbrev pub decreases-loop-line : goal.decreases-loop-line
decreases-loop-line g l = bytes_left l.self.reader.now
