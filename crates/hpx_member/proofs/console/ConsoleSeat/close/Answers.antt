use Rattle.hpx_member.proofs.Led.{leads_closed}
use Rattle.hpx_member.proofs.Serving.{last_shown, last_stopped, last_unshown}
use Rattle.hpx_member.proofs.console.ConsoleSeat.close.Goals as goal

pub returns-in-Err-clause-broken : goal.returns-in-Err-clause-broken
returns-in-Err-clause-broken g c = λ first s.
    last_stopped g.A.Acts.act_of _ _ _ _ (g.I.Lines.went first c.args.lines.now) c.round.ensures.site s c.round.ensures.unfed
    _ _ _ c.in-Err.stop c.in-Err.ensures.stops

pub returns-in-Ok-show-clause-serves : goal.returns-in-Ok-show-clause-serves
returns-in-Ok-show-clause-serves g c = λ first s.
    last_shown g.A.Acts.act_of _ _ _ _ (g.I.Lines.went first c.args.lines.now) c.round.ensures.site s c.round.ensures.unfed
    (g.I.Lines.went first c.show.new.self) _ c.entries-cut.ensures (λ talk w. c.in-Ok-show.ensures.said first talk w)

pub returns-in-Err-show-clause-broken : goal.returns-in-Err-show-clause-broken
returns-in-Err-show-clause-broken g c = λ first s.
    last_unshown g.A.Acts.act_of _ _ _ _ (g.I.Lines.went first c.args.lines.now) c.round.ensures.site s c.round.ensures.unfed
    (g.I.Lines.broke first c.show.new.self c.in-Err-show.fault) _ c.entries-cut.ensures (λ talk w. c.in-Err-show.ensures.unsaid first talk w)

pub round-requires-clause-leads : goal.round-requires-clause-leads
round-requires-clause-leads g c = leads_closed g.A.Acts.act_of _ _ _ _ _ _ _ _ c.requires.leads c.requires.next c.restart.ensures
