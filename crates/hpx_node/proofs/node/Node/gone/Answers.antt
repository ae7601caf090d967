use Rattle.hpx_node.proofs.Common.{Some, ap, arith, drop, out_stands, parcel_of, refl, rest_stands, ◌∙◌, ◌≡◌}
use Rattle.hpx_node.proofs.Few.{sent_few}
use Rattle.hpx_node.proofs.Turns.{adds_out}
use Rattle.hpx_node.proofs.node.Node.gone.Goals as goal

pub overflow_add-self : goal.overflow_add-self
overflow_add-self g c =
    let stands = rest_stands _ _ _ (rw (← c.self.view_is) at c.requires.stands) in
    omega (arith, sent_few _ _ _ _ _ stands.stands, c.requires.room.entries)

pub returns-clause-stands : goal.returns-clause-stands
returns-clause-stands g c =
    let spelled = rw (← c.self.view_is) at c.requires.front in
    let stands = rw (← c.self.view_is) at c.requires.stands in
    let front = spelled.front in
    let is : c.pop_front.new.self.items ≡ front.rest = c.pop_front.ensures.rest ∙ ap (λ xs. drop 1 xs) front.is in
    let bytes : parcel_of c.args.frame ≡ Some front.first.parcel = spelled.spelled ∙ ap (λ p. Some p) front.carried in
    rw (c.push.ensures.entries, is, front.place)
    (out_stands g.A.Acts.act_of _ _ _ stands (omega (arith, c.self.invariant.3.log_least)) front.first front.rest c.args.frame front.is bytes refl)

pub returns-clause-turn : goal.returns-clause-turn
returns-clause-turn g c =
    adds_out c.self.inside.here c.args.to c.args.frame c.requires.front.parcel _ _ c.requires.front.spelled c.push.ensures.entries
