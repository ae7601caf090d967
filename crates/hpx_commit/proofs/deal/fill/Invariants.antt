use Rattle.hpx_commit.proofs.Deals.{IsFilling}
use Rattle.hpx_commit.proofs.deal.fill.Given as goal

abbrev pub invariant-loop-id : goal.invariant-loop-id
invariant-loop-id l = IsFilling l.ids l.fn.dealt.items l.id-index l.out.items l.dealt.items
