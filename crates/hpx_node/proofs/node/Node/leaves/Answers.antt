use Rattle.hpx_node.proofs.Common.{◌∙◌}
use Rattle.hpx_node.proofs.Routed.{granted_by}
use Rattle.hpx_node.proofs.node.Node.leaves.Goals as goal

pub returns : goal.returns
returns g c =
    c.is_some.ensures
    ∙ rw (← c.self.view_is) (granted_by c.args.o c.self.inside.moves.leaving c.granted_at.result (rw c.leaving.ensures at c.granted_at.ensures.some) (rw c.leaving.ensures at c.granted_at.ensures.none))
