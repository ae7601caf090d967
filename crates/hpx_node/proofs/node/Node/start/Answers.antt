use Rattle.hpx_node.proofs.Common.{Fire, Some, [], ap, length, name_of, refl, slice_get, slice_get_is, some_same, sym, ◌++◌, ◌<◌, ◌∙◌, ◌∷◌, ◌≡◌}
use Rattle.hpx_node.proofs.node.Node.start.Goals as goal

pub returns-in-Some-clause-fired : goal.returns-in-Some-clause-fired
returns-in-Some-clause-fired g c =
    let inside : c.args.i < length c.self.inside.accepted.items = rw (← c.self.view_is) at c.requires.inside in
    let is : slice_get c.self.inside.accepted.items c.args.i ≡ Some c.in-Some.act =
    slice_get_is c.self.inside.accepted.items c.args.i c.in-Some.act inside c.in-Some.ensures.value in
    λ act h. let e : c.in-Some.act ≡ act = some_same c.in-Some.act act (sym is ∙ (rw (← c.self.view_is) at h)) in
    rw (← c.self.view_is) (record {
      here = refl;
      localities = refl;
      profile = refl;
      grows = c.push.ensures.entries ∙ ap (λ n. c.args.book.now.entries ++ record { at = c.self.inside.here; event = Fire n } ∷ []) (c.name-action.ensures ∙ ap name_of e);
    })

pub returns-in-Some-clause-started : goal.returns-in-Some-clause-started
returns-in-Some-clause-started g c =
    let inside : c.args.i < length c.self.inside.accepted.items = rw (← c.self.view_is) at c.requires.inside in
    let is : slice_get c.self.inside.accepted.items c.args.i ≡ Some c.in-Some.act =
    slice_get_is c.self.inside.accepted.items c.args.i c.in-Some.act inside c.in-Some.ensures.value in
    λ act h. let e : c.in-Some.act ≡ act = some_same c.in-Some.act act (sym is ∙ (rw (← c.self.view_is) at h)) in
    rw (← c.self.view_is, c.in-Some.ensures.items, c.push_reserved.ensures.items, e) refl
