use Rattle.hpx_node.proofs.Common.{Tables, ap, arith, get_or, length, take, ◌<◌, ◌∙◌, ◌≡◌}
use Rattle.hpx_node.proofs.Credits.{grows_more, returns_here, returns_more}
use Rattle.hpx_node.proofs.node.Node.let_go_all.Goals as goal

pub loop-i-preserved : goal.loop-i-preserved
loop-i-preserved g c =
    let is : c.index-as_slice-i.result ≡ get_or c.args.ids.now c.loop-i.i c.index-as_slice-i.result =
    rw (c.as_slice.ensures) at c.index-as_slice-i.is in
    let lt : c.loop-i.i < length c.args.ids.now = omega (arith, c.loop-i-test.true, c.len-i-end.ensures) in record {
      goes = returns_more c.args.ids.now c.loop-i.i _ _ _ _ lt is c.loop-i.invariant.goes c.let_go.ensures.goes;
      grows = grows_more c.args.ids.now c.loop-i.i _ c.args.self.now.tables.here c.loop-i.self.tables.here _ _ _ lt is
          (ap (λ (t : Tables). t.here) c.loop-i.invariant.goes ∙ returns_here (take c.loop-i.i c.args.ids.now) c.args.self.now.tables) c.loop-i.invariant.grows c.let_go.ensures.grows;
      spare = omega (arith, c.loop-i.invariant.spare, c.let_go.ensures.spare);
      page = omega (arith, c.loop-i.invariant.page, c.let_go.ensures.page);
    }
