use Rattle.hpx_process.specs.Deeds.{Shows}
use Rattle.hpx_process.proofs.Results.{if_err, on_ok}
use Rattle.hpx_process.proofs.Talking.{shows_broken, shows_does, talked_more}
use Rattle.hpx_process.proofs.desk.DeskLines.show.Goals as goal

pub returns-clause-said : goal.returns-clause-said
returns-clause-said g c = λ first talk w.
    on_ok c.show.result _ _ (λ held. (w.0, w.1, talked_more (Shows _) _ _ _ talk w.2 (shows_does _ _ _ _ _ _ _ held))) c.show.ensures.held

pub returns-clause-unsaid : goal.returns-clause-unsaid
returns-clause-unsaid g c = λ first talk w.
    if_err c.show.result _ _ _
    (λ fault front cause. (w.0, w.1, shows_broken fault _ _ _ _ _ _ _ _ talk w.2 cause.0 front))
    c.show.ensures.front c.show.ensures.cause
