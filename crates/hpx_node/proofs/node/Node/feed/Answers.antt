use Rattle.hpx_node.proofs.Common.{Stands, arith, line_stands, refl, subst, sym}
use Rattle.hpx_node.proofs.Fed.{accepts_line}
use Rattle.hpx_node.proofs.Same.{same_too}
use Rattle.hpx_node.proofs.Turns.{turn_from, adds_one}
use Rattle.hpx_node.proofs.node.Node.feed.Goals as goal

pub returns-in_err-reserve-clause-stands : goal.returns-in_err-reserve-clause-stands
returns-in_err-reserve-clause-stands g c =
    same_too (Stands g.A.Acts.act_of) c.args.self.now.tables _ _ _ c.requires.stands c.in_err-reserve.ensures.same refl

pub returns-in_err-reserve-2-clause-stands : goal.returns-in_err-reserve-2-clause-stands
returns-in_err-reserve-2-clause-stands g c =
    same_too (Stands g.A.Acts.act_of) c.args.self.now.tables _ _ _ c.requires.stands c.in_ok-reserve.ensures.same c.in_err-reserve-2.ensures.entries

pub returns-clause-stands : goal.returns-clause-stands
returns-clause-stands g c =
    let stands = rw (← c.self.view_is) at c.requires.stands in
    let line = rw (c.in_ok-reserve.ensures.same, c.in_ok-reserve-2.ensures.entries, ← c.self.view_is) at c.enter_line.ensures.line in
    subst (Stands g.A.Acts.act_of c.enter_line.new.self.tables) (sym line.grows)
    (line_stands g.A.Acts.act_of _ c.enter_line.new.self.tables _ stands (omega (arith, c.self.invariant.3.log_least)) c.args.line
    (rw (← c.self.view_is) at c.requires.here) c.requires.short
    (rw (c.in_ok-reserve.ensures.same, c.in_ok-act.ensures.act, ← c.self.view_is) at c.enter_line.ensures.waits))

pub returns-clause-accepted : goal.returns-clause-accepted
returns-clause-accepted g c =
    let stands = rw (← c.self.view_is) at c.requires.stands in
    rw (← c.self.view_is) (accepts_line g.A.Acts.act_of _ c.enter_line.new.self.tables _ _ c.args.line _ stands (rw (← c.self.view_is) at c.requires.here)
    (rw (c.in_ok-reserve.ensures.same, c.in_ok-act.ensures.act, ← c.self.view_is) at c.enter_line.ensures.waits))

pub returns-clause-turn : goal.returns-clause-turn
returns-clause-turn g c = turn_from _ _ _ c.in_ok-reserve-2.ensures.entries
    (adds_one _ _ _ _ c.enter_line.ensures.line.grows (omega (arith, c.requires.short)))
