use Rattle.hpx_node.proofs.Common.{refl, get_some}
use Rattle.hpx_node.proofs.Waited.{pauses_by}
use Rattle.hpx_node.proofs.node.Node.pause.Goals as goal

pub returns-clause-pauses : goal.returns-clause-pauses
returns-clause-pauses g c =
    let inside = rw (← c.self.view_is) at c.requires.object in
    let x = get_some c.self.inside.objects.items c.args.j inside in
    let at = rw (← c.self.view_is) at c.requires.at in
    rw (← c.self.view_is, c.remove.ensures.items, c.push_reserved.ensures.items, c.put_state.ensures.items x.0 x.1, c.requires.state)
    (pauses_by _ _ c.args.i c.args.j c.args.waits.job c.args.waits at x.0 x.1 refl)
