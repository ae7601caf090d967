use Rattle.std.proofs.Common.{◌++◌, ◌∙◌, ap, sym}
use Rattle.hpx_node.specs.Locality.{tables_of}
use Rattle.hpx_tables.specs.Kept.{HasRecords}
use Rattle.hpx_world.specs.Audit.{lines_at}
use Rattle.hpx_world.proofs.Tabled.{all_more, flat_more}
use Rattle.hpx_world.proofs.locals.Locals.audit.Goals as goal

pub loop-node-preserved : goal.loop-node-preserved
loop-node-preserved g c = (
  (rw c.as_slice.ensures.value at c.in_ok-push_lines.ensures.lines)
      ∙ (ap (λ xs. xs ++ lines_at (tables_of c.args.self.now.nodes.items) c.node-item.result.tables) c.loop-node.invariant.0
      ∙ sym (flat_more c.args.self.now.nodes.items c.deref-node-items.result.now c.loop-node.node-index c.node-item.result c.deref-node-items.ensures.value c.loop-node-test.true c.node-item.is
      (lines_at (tables_of c.args.self.now.nodes.items)))),
  all_more c.args.self.now.nodes.items c.deref-node-items.result.now c.loop-node.node-index c.node-item.result c.deref-node-items.ensures.value c.loop-node-test.true c.node-item.is HasRecords
      c.loop-node.invariant.1 c.in_ok-push_lines.ensures.records,
)
