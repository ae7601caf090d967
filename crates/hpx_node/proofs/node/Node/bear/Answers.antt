use Rattle.hpx_node.proofs.Common.{ap, refl, ◌+◌, ◌≡◌}
use Rattle.hpx_node.proofs.Made.{drawn_more, none_stands}
use Rattle.hpx_node.proofs.node.Node.bear.Goals as goal

pub put-requires-clause-absent : goal.put-requires-clause-absent
put-requires-clause-absent g c =
    let drawn = rw (← c.self.view_is) at c.requires.drawn in
    let fit = rw (c.in-Some.ensures.items) at c.requires.fit in
    rw (c.new.ensures, c.bare-object.ensures, c.born.ensures.answer, c.self.invariant.4)
    (none_stands c.self.inside.here c.self.inside.records.births c.in-Some.field-0.kind c.self.inside.objects.items fit.0.least drawn)

pub returns-in-Some-clause-drawn : goal.returns-in-Some-clause-drawn
returns-in-Some-clause-drawn g c =
    let drawn = rw (← c.self.view_is) at c.requires.drawn in
    let births : c.born.new.self.births ≡ c.self.inside.records.births + 1 = ap (λ r. r.births) c.born.ensures.rest in
    rw (c.put.ensures.items, births)
    (drawn_more c.self.inside.here c.self.inside.records.births c.self.inside.objects.items c.new.result
    (rw (c.new.ensures, c.bare-object.ensures, c.born.ensures.answer) refl) drawn)
