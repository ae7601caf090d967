use Rattle.std.proofs.Common.{refl}
use Rattle.hpx_tables.specs.Tables.{IsPassive}
use Rattle.hpx_world.proofs.Tabled.{all_more, of_all}
use Rattle.hpx_world.proofs.locals.Locals.are_passive.Goals as goal

pub loop-node-preserved : goal.loop-node-preserved
loop-node-preserved g c =
    all_more c.args.self.now.nodes.items c.deref-node-items.result.now c.loop-node.node-index c.node-item.result c.deref-node-items.ensures.value c.loop-node-test.true c.node-item.is IsPassive
    c.loop-node.invariant (c.if-not-is_passive.ensures.0 refl)

pub returns-then-not-is_passive : goal.returns-then-not-is_passive
returns-then-not-is_passive g c = (
  λ e. absurd (let no = e in cc),
  λ all. c.if-not-is_passive.ensures.1
      (of_all c.args.self.now.nodes.items c.deref-node-items.result.now c.loop-node.node-index c.node-item.result c.deref-node-items.ensures.value c.loop-node-test.true c.node-item.is IsPassive all),
)
