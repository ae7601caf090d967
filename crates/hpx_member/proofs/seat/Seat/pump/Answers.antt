use Rattle.std.proofs.Common.{refl}
use Rattle.hpx_node.proofs.Turns.{turn_within}
use Rattle.hpx_member.proofs.Seated.{grows_same, sits_sent}
use Rattle.hpx_member.proofs.seat.Seat.pump.Goals as goal

pub returns-in-Ok-None-clause-grows : goal.returns-in-Ok-None-clause-grows
returns-in-Ok-None-clause-grows g c = grows_same _ _ _ _ refl c.front.ensures.entries

pub returns-in-Err-clause-grows : goal.returns-in-Err-clause-grows
returns-in-Err-clause-grows g c = grows_same _ _ _ _ refl c.front.ensures.entries

pub returns-in-Err-send-clause-grows : goal.returns-in-Err-send-clause-grows
returns-in-Err-send-clause-grows g c = grows_same _ _ _ _ refl c.front.ensures.entries

pub returns-clause-sits : goal.returns-clause-sits
returns-clause-sits g c =
    sits_sent g.A.Acts.act_of _ _ c.args.self.now.book.entries _ _ _ _ _ _ c.requires.sits
    (rw c.in-Ok-Some.field-0-is at c.in-Ok-Some.ensures.spelled) (rw c.in-Ok-Some.field-0-is at c.in-Ok-Some.ensures.frame)
    (rw c.front.ensures.entries at c.gone.ensures.writes) c.gone.ensures.stands
    (turn_within _ _ c.requires.room (rw c.front.ensures.entries at c.gone.ensures.turn)) c.in-Ok.ensures.trace c.as_slice.ensures
