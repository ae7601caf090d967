use Rattle.hpx_commit.proofs.Deals.{IsDealing}
use Rattle.hpx_commit.proofs.deal.deal.Given as goal

abbrev pub invariant-loop-i : goal.invariant-loop-i
invariant-loop-i l = IsDealing l.fn.hand l.places l.i l.hand.items l.out.items
