use Rattle.hpx_member.proofs.Seated.{sits_heard}
use Rattle.hpx_member.proofs.seat.Seat.listen.Goals as goal

pub returns-in-Ok-clause-heard : goal.returns-in-Ok-clause-heard
returns-in-Ok-clause-heard g c = sits_heard g.A.Acts.act_of _ _ _ _ _ _ c.requires.sits c.in-Ok.ensures.trace
