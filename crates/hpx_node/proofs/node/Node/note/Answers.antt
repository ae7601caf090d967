use Rattle.hpx_node.proofs.Common.{Some, ap, refl, slice_get, subst, sym, ◌∙◌, ◌≡◌}
use Rattle.hpx_node.specs.Moving.{Moving}
use Rattle.hpx_node.proofs.Told.{is_there, same_arrival}
use Rattle.hpx_node.proofs.node.Node.note.Goals as goal

pub returns-then-not-tells-clause-notes : goal.returns-then-not-tells-clause-notes
returns-then-not-tells-clause-notes g c = (refl, λ t i at. absurd (let e = sym t ∙ (sym c.tells.ensures ∙ c.if-not-tells.true) in cc))

pub returns-in_default-clause-notes : goal.returns-in_default-clause-notes
returns-in_default-clause-notes g c =
    let none = rw (c.came.ensures, c.name_of.ensures, c.target-object.ensures) at c.in_default.ensures.none in
    rw (← c.self.view_is) (refl, λ t i at. is_there c.args.act.now c.self.inside.moves.came none i at)

pub returns-clause-notes : goal.returns-clause-notes
returns-clause-notes g c =
    let found = rw (c.came.ensures, c.name_of.ensures, c.target-object.ensures) at c.in-Some.ensures.some in
    let there = subst (λ a. slice_get c.self.inside.moves.came c.in-Some.i ≡ Some a) (same_arrival c.args.act.now found.0 found.2) found.1 in
    let object = rw c.target-object.ensures at c.bare.ensures in
    let told = sym c.tells.ensures ∙ c.if-not-tells.false in
    rw (← c.self.view_is) (object, told, (c.in-Some.i, there, ap (λ (x : Moving). x.came) c.forget.ensures.rest))
