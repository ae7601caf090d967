use Rattle.std.proofs.Common.{sym, subst}
use Rattle.hpx_node.proofs.Turns.{turn_within}
use Rattle.hpx_node.specs.Handled.{NotTended}
use Rattle.hpx_member.specs.Stops.{MayStop}
use Rattle.hpx_member.proofs.Causes.{desk_stops}
use Rattle.hpx_member.proofs.Turned.{stays_tended}
use Rattle.hpx_member.proofs.turn.tend.Goals as goal

pub returns-in-Ok-clause-stays : goal.returns-in-Ok-clause-stays
returns-in-Ok-clause-stays g c =
    stays_tended g.A.Acts.act_of _ _ c.args.book.now c.desk.new.book c.desk.ensures.stands (turn_within _ _ c.requires.room c.desk.ensures.turn) _
    c.desk.result c.desk.ensures.tends c.desk.ensures.none c.desk.ensures.err

pub returns-in-Err-clause-stops : goal.returns-in-Err-clause-stops
returns-in-Err-clause-stops g c =
    subst (MayStop c.desk.new.self.tables c.desk.new.book.entries) (sym c.stop_of_desk.ensures)
    (desk_stops c.desk.new.self.tables c.desk.new.book.entries c.here.result c.in-Err.fault c.here.ensures
    (subst (λ t. NotTended t c.in-Err.fault) (sym c.in-Err.ensures.err.tables) c.in-Err.ensures.cause))
