use Rattle.std.proofs.Common.{rules, ◌≡◌, ◌∙◌, sym, take}
use Rattle.app_compute.proofs.RingLists.{with_pieces, with_refused}
use Rattle.app_compute.proofs.stencil.parts_with.Goals as goal

pub returns-in_default-clause-is : goal.returns-in_default-clause-is
returns-in_default-clause-is c =
    sym (with_refused c.args.size c.args.places c.args.value.now c.args.parts.now c.args.q c.index-parts-at.result c.if-q-parts.false c.index-parts-at.is
    (sym c.in_default.is ∙ c.in_ok-part.ensures))

pub returns-clause-is : goal.returns-clause-is
returns-clause-is c =
    let front : c.push_copies.new.new ≡ take c.args.q c.args.parts.now = search rules in
    with_pieces c.args.size c.args.places c.args.value.now c.args.parts.now c.args.q c.index-parts-at.result c.in-Some.part c.push_copies.new.new c.push.new.self c.push_copies-2.new.new
    c.if-q-parts.false c.index-parts-at.is (sym c.in-Some.is ∙ c.in_ok-part.ensures) front c.in_ok-push.ensures.ok c.in_ok-push_copies-2.ensures
