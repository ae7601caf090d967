use Rattle.std.proofs.Common.{◌≡◌, ◌∙◌, ap, subst}
use Rattle.hpx_member.specs.Leads.{IsNoFrame}
use Rattle.hpx_member.specs.Stops.{IsCauseBy}
use Rattle.hpx_member.proofs.Causes.{cause_more}
use Rattle.hpx_member.proofs.Feeding.{feeds_then, most_fed}
use Rattle.hpx_member.proofs.console.ConsoleSeat.answer.Goals as goal

pub returns-in-Err-settle-clause-most : goal.returns-in-Err-settle-clause-most
returns-in-Err-settle-clause-most g c = most_fed _ _ _ (feeds_then _ _ _ _ c.in-Ok.ensures.fed c.settle.ensures.unfed)

pub returns-in-Ok-round-clause-most : goal.returns-in-Ok-round-clause-most
returns-in-Ok-round-clause-most g c =
    most_fed _ _ _ (feeds_then _ _ _ _ (feeds_then _ _ _ _ c.in-Ok.ensures.fed c.settle.ensures.unfed) c.round.ensures.unfed)

pub returns-in-Err-round-clause-most : goal.returns-in-Err-round-clause-most
returns-in-Err-round-clause-most g c =
    most_fed _ _ _ (feeds_then _ _ _ _ (feeds_then _ _ _ _ c.in-Ok.ensures.fed c.settle.ensures.unfed) c.round.ensures.unfed)

pub returns-in-Err-round-clause-stops : goal.returns-in-Err-round-clause-stops
returns-in-Err-round-clause-stops g c =
    let calm : g.L.Link.faults c.settle.new.self.seat.link ≡ g.L.Link.faults c.args.self.now.seat.link = c.in-Ok-settle.ensures.calm ∙ ap g.L.Link.faults c.feed.ensures.link in
    subst (λ n. IsCauseBy IsNoFrame (c.round.new.self.seat.book.entries ≡ c.args.self.now.seat.book.entries) c.round.new.self.seat.node.tables c.round.new.self.seat.book.entries
    (g.L.Link.latest c.round.new.self.seat.link) n (g.L.Link.faults c.round.new.self.seat.link) c.in-Err-round.stop) calm
    (cause_more IsNoFrame _ _ _ _ _ _ c.in-Err-round.stop c.in-Err-round.ensures.stops)
