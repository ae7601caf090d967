use Rattle.hpx_member.proofs.Seated.{sits_acted}
use Rattle.hpx_member.proofs.seat.Seat.act.Goals as goal

pub returns-clause-sits : goal.returns-clause-sits
returns-clause-sits g c = sits_acted g.A.Acts.act_of _ _ _ _ _ c.requires.sits c.turn.ensures.stays
