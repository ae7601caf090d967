use Rattle.hpx_top.specs.Runs.{ports_of}
use Rattle.hpx_process.proofs.Served.{cause_back, sat, sat_back, sat_cause}
use Rattle.hpx_process.proofs.join.serve.Goals as goal
use Rattle.std.proofs.Common.{refl, sym}

pub returns-clause-sat : goal.returns-clause-sat
returns-clause-sat g c =
    sat_back g.S.Source.left g.S.Source.taken g.S.Source.faults g.K.Sink.held g.K.Sink.faults _ _ _ _ c.sit.new.desk.source.now _ c.sit.new.desk.sink.now
    (c.source-1.given.1 (sym c.sit.ensures.source)) (c.sink-1.given.1 (sym c.sit.ensures.sink))
    (sat _ _ _ (ports_of (g.S.Source.left c.sit.new.desk.source.now) (g.S.Source.taken c.sit.new.desk.source.now) (g.K.Sink.held c.sit.new.desk.sink.now)
    (g.S.Source.faults c.sit.new.desk.source.now) (g.K.Sink.faults c.sit.new.desk.sink.now) _) _ _ _ _ refl c.new-reader.ensures c.sit.ensures.served c.sit.ensures.due)

pub returns-clause-cause : goal.returns-clause-cause
returns-clause-cause g c =
    cause_back g.S.Source.left g.S.Source.taken g.S.Source.faults g.K.Sink.held g.K.Sink.faults _ _ _ _ c.sit.new.desk.source.now _ c.sit.new.desk.sink.now
    (c.source-1.given.1 (sym c.sit.ensures.source)) (c.sink-1.given.1 (sym c.sit.ensures.sink))
    (sat_cause _ _ _ _ _ _ (ports_of (g.S.Source.left c.sit.new.desk.source.now) (g.S.Source.taken c.sit.new.desk.source.now) (g.K.Sink.held c.sit.new.desk.sink.now)
    (g.S.Source.faults c.sit.new.desk.source.now) (g.K.Sink.faults c.sit.new.desk.sink.now) _) _ _ _ _ refl c.new-reader.ensures c.sit.ensures.served c.sit.ensures.console c.sit.ensures.lines refl)
