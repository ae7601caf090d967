use Rattle.hpx_node.proofs.Common.{Done, Some, [], ap, false, name_of, slice_get, slice_get_is, some_same, sym, ◌++◌, ◌∙◌, ◌∷◌, ◌≡◌}
use Rattle.hpx_node.proofs.node.Node.settle.Goals as goal

pub returns-clause-entries : goal.returns-clause-entries
returns-clause-entries g c =
    let inside = rw (← c.self.view_is) at c.requires.action in
    let is : slice_get c.self.inside.running.items c.args.i ≡ Some c.remove-act.result =
    slice_get_is c.self.inside.running.items c.args.i c.remove-act.result inside c.remove-act.ensures.value in
    λ act h. let e : c.remove-act.result ≡ act = some_same c.remove-act.result act (sym is ∙ (rw (← c.self.view_is) at h)) in
    rw (← c.self.view_is) (c.push.ensures.entries
    ∙ ap (λ n. c.args.book.now.entries ++ record { at = c.self.inside.here; event = Done n false } ∷ []) (c.name.ensures ∙ ap name_of e))
