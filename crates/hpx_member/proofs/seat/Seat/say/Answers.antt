use Rattle.hpx_member.proofs.Seated.{sits_said}
use Rattle.hpx_member.proofs.seat.Seat.say.Goals as goal

pub returns-in-Ok-clause-sits : goal.returns-in-Ok-clause-sits
returns-in-Ok-clause-sits g c =
    sits_said g.A.Acts.act_of _ _ _ _ c.args.to c.args.body.now c.requires.sits c.requires.word c.requires.silent c.in-Ok.ensures.trace
