use Rattle.std.proofs.Common.{refl, sym}
use Rattle.hpx_top.specs.Runs.{ports_of}
use Rattle.hpx_process.proofs.Served.{reckoned, reckoned_back}
use Rattle.hpx_process.proofs.join.reckon.Goals as goal

pub returns-clause-reckoned : goal.returns-clause-reckoned
returns-clause-reckoned g c =
    reckoned_back g.K.Sink.held g.K.Sink.faults _ _ _ _ _ c.pass.new.slip.sink.now (c.sink-1.given.1 (sym c.pass.ensures.sink))
    (reckoned _ _ _ (ports_of _ _ (g.K.Sink.held c.pass.new.slip.sink.now) _ (g.K.Sink.faults c.pass.new.slip.sink.now) _) _ _ _ _ refl refl c.pass.ensures.served c.pass.ensures.due refl refl)
