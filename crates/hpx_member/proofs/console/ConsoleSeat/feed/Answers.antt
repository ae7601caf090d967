use Rattle.std.proofs.Common.{◌≡◌, false, length, rules, sym, subst}
use Rattle.hpx_journal.specs.Weights.{HasRoom}
use Rattle.hpx_ended.specs.Tally.{waits}
use Rattle.hpx_node.proofs.Turns.{turn_within}
use Rattle.hpx_member.proofs.Led.{leads_fed, waits_fresh}
use Rattle.hpx_member.proofs.console.ConsoleSeat.feed.Goals as goal

pub returns-in-Ok-clause-leads : goal.returns-in-Ok-clause-leads
returns-in-Ok-clause-leads g c =
    let room : HasRoom c.args.self.now.seat.book.entries = search rules in
    leads_fed g.A.Acts.act_of _ _ _ _ _ _ _ _ _ _ _ _ c.requires.leads c.requires.next c.in-Ok.ensures.line c.feed.ensures.stands
    (turn_within _ _ room c.feed.ensures.turn) c.restart.ensures

pub returns-in-Ok-clause-done : goal.returns-in-Ok-clause-done
returns-in-Ok-clause-done g c = subst (λ t. waits t ≡ false) (sym c.restart.ensures) (waits_fresh (length c.args.self.now.waves.answers))
