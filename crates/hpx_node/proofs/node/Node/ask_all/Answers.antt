use Rattle.hpx_node.proofs.Common.{Locality, ap, arith}
use Rattle.hpx_node.proofs.Waited.{asks_more}
use Rattle.hpx_node.proofs.node.Node.ask_all.Goals as goal

pub loop-id-preserved : goal.loop-id-preserved
loop-id-preserved g c =
    let before = rw (← c.self.view_is) at c.loop-id.invariant.asks in
    let goes = rw (c.new.ensures, c.home.ensures) at c.mail.ensures.goes in record {
      asks = asks_more c.args.ids.now c.loop-id.id-index c.id-item.result _ _ _ c.loop-id-test.true c.id-item.is before goes;
      spare = omega (arith, c.loop-id.invariant.spare, c.mail.ensures.spare, ap (λ (x : Locality). x.spare) c.self.view_is);
    }
