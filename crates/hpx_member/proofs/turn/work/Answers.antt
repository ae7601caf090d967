use Rattle.std.proofs.Common.{◌≡◌, false, rules, true}
use Rattle.hpx_journal.specs.Weights.{HasRoom}
use Rattle.hpx_node.proofs.Passive.{starts_none}
use Rattle.hpx_node.proofs.Turns.{turn_within}
use Rattle.hpx_member.proofs.Causes.{started_busy}
use Rattle.hpx_member.proofs.Turned.{stays_fired, stays_more}
use Rattle.hpx_member.proofs.Written.{finish_plain}
use Rattle.hpx_member.proofs.turn.work.Goals as goal

pub returns-in-Err-compute-clause-stays : goal.returns-in-Err-compute-clause-stays
returns-in-Err-compute-clause-stays g c =
    stays_fired g.A.Acts.act_of _ _ c.args.book.now c.fire.new.book c.fire.ensures.stands (turn_within _ _ c.requires.room c.fire.ensures.turn) c.in-Ok-Some.job
    (rw c.in-Ok-Some.field-0-is at c.in-Ok-Some.ensures.fired) (rw c.in-Ok-Some.field-0-is at c.in-Ok-Some.ensures.job)

pub returns-clause-stays : goal.returns-clause-stays
returns-clause-stays g c =
    let room : HasRoom c.fire.new.book.entries = search rules in
    let starts = rw c.in-Ok-Some.field-0-is at c.in-Ok-Some.ensures.job in
    stays_more g.A.Acts.act_of _ c.fire.new.self.tables _ _ c.fire.new.book.entries _
    (stays_fired g.A.Acts.act_of _ _ c.args.book.now c.fire.new.book c.fire.ensures.stands (turn_within _ _ c.requires.room c.fire.ensures.turn) c.in-Ok-Some.job
    (rw c.in-Ok-Some.field-0-is at c.in-Ok-Some.ensures.fired) starts)
    (λ passive. starts_none _ _ c.in-Ok-Some.job passive starts)
    (finish_plain c.fire.new.self.tables c.finish.new.self.tables c.fire.new.book c.finish.new.book _ _ _ c.in-Ok.done.job c.in-Ok.done.outcome c.finish.result
    c.finish.ensures.committed c.finish.ensures.asks c.finish.ensures.not_running c.finish.ensures.err)
    c.finish.ensures.stands (turn_within _ _ room c.finish.ensures.turn)

pub returns-then-not-room-clause-stops : goal.returns-then-not-room-clause-stops
returns-then-not-room-clause-stops g c = (
  λ room. absurd (let no : c.room.result ≡ false = c.if-not-room.true in let yes : c.room.result ≡ true = c.room.ensures.1 room in cc),
  started_busy _ _ c.in-Ok-Some.job (rw c.in-Ok-Some.field-0-is at c.in-Ok-Some.ensures.job),
)
