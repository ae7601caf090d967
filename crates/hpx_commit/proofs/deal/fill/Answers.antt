use Rattle.std.proofs.Common.{sym, subst, ◌+◌}
use Rattle.hpx_commit.proofs.Deals.{IsFilling, filling_next}
use Rattle.hpx_commit.proofs.deal.fill.Goals as goal

pub loop-id-preserved : goal.loop-id-preserved
loop-id-preserved c =
    subst (λ out. IsFilling c.args.ids.now c.args.dealt.now.items (c.loop-id.id-index + 1) out c.fill_one.new.dealt.items)
    (sym c.in_ok-push.ensures.items)
    (filling_next c.args.ids.now c.args.dealt.now.items c.loop-id.id-index c.loop-id.out.items c.loop-id.dealt.items
    c.id-item.result c.fill_one.result c.fill_one.new.dealt.items c.loop-id-test.true c.id-item.is
    c.fill_one.ensures.id c.fill_one.ensures.rest c.loop-id.invariant)
