use Rattle.hpx_tables.specs.Kept.{HasRecords}
use Rattle.hpx_world.proofs.Tabled.{all_more}
use Rattle.hpx_world.proofs.locals.Locals.records_law.Goals as goal

pub loop-node-preserved : goal.loop-node-preserved
loop-node-preserved g c =
    all_more c.args.self.now.nodes.items c.deref-node-items.result.now c.loop-node.node-index c.node-item.result c.deref-node-items.ensures.value c.loop-node-test.true c.node-item.is HasRecords
    c.loop-node.invariant c.number.ensures.sound
