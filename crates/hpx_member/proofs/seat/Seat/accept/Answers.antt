use Rattle.std.proofs.Common.{refl, rules}
use Rattle.hpx_journal.specs.Weights.{HasRoom}
use Rattle.hpx_node.proofs.Turns.{turn_within}
use Rattle.hpx_member.proofs.Seated.{grows_same, grows_taken, sits_taken}
use Rattle.hpx_member.proofs.seat.Seat.accept.Goals as goal

pub returns-in-Ok-clause-sits : goal.returns-in-Ok-clause-sits
returns-in-Ok-clause-sits g c =
    let room : HasRoom c.args.self.now.book.entries = search rules in
    sits_taken g.A.Acts.act_of _ _ _ _ _ _ c.requires.heard c.requires.frame c.in-Ok.ensures.ok c.take.ensures.stands
    (turn_within _ _ room c.take.ensures.turn)

pub returns-in-Ok-clause-grows : goal.returns-in-Ok-clause-grows
returns-in-Ok-clause-grows g c = grows_taken _ _ _ _ _ c.in-Ok.ensures.ok

pub returns-in-Err-clause-grows : goal.returns-in-Err-clause-grows
returns-in-Err-clause-grows g c = grows_same _ _ _ _ c.in-Err.ensures.err.tables c.in-Err.ensures.err.entries

pub returns-then-not-room-clause-grows : goal.returns-then-not-room-clause-grows
returns-then-not-room-clause-grows g c = grows_same _ _ _ _ refl refl
