use Rattle.hpx_node.proofs.Common.{Done, Some, Waits, [], ap, name_of, slice_get, slice_get_is, some_same, sym, ◌++◌, ◌∙◌, ◌∷◌, ◌≡◌}
use Rattle.hpx_node.proofs.node.Node.settle_waiting.Goals as goal

pub returns-clause-entries : goal.returns-clause-entries
returns-clause-entries g c =
    let inside = rw (← c.self.view_is) at c.requires.waits in
    let is : slice_get c.self.inside.pending.items c.args.i ≡ Some c.remove-waits.result =
    slice_get_is c.self.inside.pending.items c.args.i c.remove-waits.result inside c.remove-waits.ensures.value in
    λ w h. let e : c.remove-waits.result ≡ w = some_same c.remove-waits.result w (sym is ∙ (rw (← c.self.view_is) at h)) in
    rw (← c.self.view_is) (c.push.ensures.entries
    ∙ ap (λ n. c.args.book.now.entries ++ record { at = c.self.inside.here; event = Done n c.args.failed } ∷ []) (c.name_of.ensures ∙ (ap name_of c.action-2.ensures ∙ ap (λ (v : Waits). name_of v.job.action) e)))
