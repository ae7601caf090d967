use Rattle.std.proofs.Common.{◌∙◌}
use Rattle.hpx_process.specs.Deeds.{Asking, Rests}
use Rattle.hpx_process.proofs.Results.{err_as, ok_as}
use Rattle.hpx_process.proofs.Talking.{rests_does, talked_broken, talked_more, talked_next, talked_opening}
use Rattle.hpx_process.proofs.desk.DeskLines.next.Goals as goal

pub returns-in-Ok-clause-said : goal.returns-in-Ok-clause-said
returns-in-Ok-clause-said g c = λ first talk w.
    (c.open.ensures.source ∙ w.0, c.open.ensures.sink ∙ w.1, talked_opening c.in-Ok.line _ _ _ talk w.2 c.in-Ok.ensures.does c.in-Ok.ensures.line)

pub returns-in-Open-clause-said : goal.returns-in-Open-clause-said
returns-in-Open-clause-said g c = λ first talk w.
    ok_as c.ask.result _ _ (λ next d. (c.ask.ensures.source ∙ w.0, c.ask.ensures.sink ∙ w.1, talked_next next d.0 _ _ _ talk w.2 d.1 d.2)) c.ask.ensures.does

pub returns-in-Open-clause-unsaid : goal.returns-in-Open-clause-unsaid
returns-in-Open-clause-unsaid g c = λ first talk w.
    err_as c.ask.result _ _ (λ fault f. (c.ask.ensures.source ∙ w.0, c.ask.ensures.sink ∙ w.1, talked_broken fault (Asking f.0 f.1) _ _ _ talk w.2 f.2)) c.ask.ensures.fails

pub returns-in-Full-clause-said : goal.returns-in-Full-clause-said
returns-in-Full-clause-said g c = λ first talk w. (w.0, w.1, talked_more Rests _ _ _ talk w.2 (rests_does _ _ _ _ _ c.in-Full.is))
