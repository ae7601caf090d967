use Rattle.std.proofs.lemmas.Result.{on_ok_weaker}
use Rattle.hpx_site.proofs.Helds.{drained, idle_room}
use Rattle.hpx_site.proofs.workers.drain_by.Goals as goal

pub returns-clause-room : goal.returns-clause-room
returns-clause-room g c = on_ok_weaker c.drain.result (λ goes. idle_room goes.last _ goes.thus) c.drain.ensures.goes

pub returns-clause-held : goal.returns-clause-held
returns-clause-held g c =
    drained _ _ _ _ c.in_default.ensures.held
    (record { localities = c.drain.ensures.count; profile = c.drain.ensures.profile; unfed = c.drain.ensures.unfed; carrying = c.drain.ensures.carrying; hears = c.drain.ensures.hears })
    c.drain.result c.drain.ensures.faults c.drain.ensures.stops c.drain.ensures.finds c.drain.ensures.never
