use Rattle.hpx_node.proofs.Queued.{queued_is}
use Rattle.hpx_node.proofs.node.Node.is_queued.Goals as goal

pub returns : goal.returns
returns g c =
    let n = c.self.inside in
    let live = rw (← c.self.view_is) at c.requires.live in
    rw (c.queued.ensures, ← c.self.view_is) (queued_is n.here n.records.records n.records.waiting c.args.o live)
