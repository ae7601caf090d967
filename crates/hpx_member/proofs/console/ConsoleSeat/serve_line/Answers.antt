use Rattle.hpx_member.proofs.Led.{leads_ready}
use Rattle.hpx_member.proofs.Serving.{line_most, line_served, line_unshown}
use Rattle.hpx_member.proofs.console.ConsoleSeat.serve_line.Goals as goal

pub returns-in-Err-answer-clause-broken : goal.returns-in-Err-answer-clause-broken
returns-in-Err-answer-clause-broken g c = λ first s.
    line_most g.A.Acts.act_of _ _ _ _ (g.I.Lines.went first c.args.lines.now) (g.I.Lines.went first c.next.new.self) c.in-Ok-Some.line
    c.answer.ensures.site s (λ talk w. rw c.in-Ok-Some.field-0-is at (c.in-Ok-Some.ensures.said first talk w)) _ _ _ c.in-Err-answer.stop
    c.in-Err-answer.ensures.stops c.answer.ensures.most

pub returns-in-Ok-show-clause-serves : goal.returns-in-Ok-show-clause-serves
returns-in-Ok-show-clause-serves g c = λ first s same.
    line_served g.A.Acts.act_of _ _ _ _ (g.I.Lines.went first c.args.lines.now) (g.I.Lines.went first c.next.new.self) c.in-Ok-Some.line
    c.answer.ensures.site s (λ talk w. rw c.in-Ok-Some.field-0-is at (c.in-Ok-Some.ensures.said first talk w)) (g.I.Lines.went first c.show.new.self) _
    c.entries-cut.ensures c.in-Ok.ensures.fed (leads_ready g.A.Acts.act_of _ _ _ _ _ _ _ c.in-Ok.ensures.leads c.in-Ok.ensures.ready)
    (λ talk w. c.in-Ok-show.ensures.said first talk w)

pub returns-in-Err-show-clause-broken : goal.returns-in-Err-show-clause-broken
returns-in-Err-show-clause-broken g c = λ first s.
    line_unshown g.A.Acts.act_of _ _ _ _ (g.I.Lines.went first c.args.lines.now) (g.I.Lines.went first c.next.new.self) c.in-Ok-Some.line
    c.answer.ensures.site s (λ talk w. rw c.in-Ok-Some.field-0-is at (c.in-Ok-Some.ensures.said first talk w))
    (g.I.Lines.broke first c.show.new.self c.in-Err-show.fault) _ c.entries-cut.ensures c.in-Ok.ensures.fed
    (λ talk w. c.in-Err-show.ensures.unsaid first talk w)
