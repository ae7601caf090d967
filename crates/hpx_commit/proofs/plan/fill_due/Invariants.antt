use Rattle.std.proofs.Common.{◌≡◌, ◌++◌, length}
use Rattle.hpx_commit.specs.Deals.{filled_due}
use Rattle.hpx_commit.proofs.plan.fill_due.Given as goal

abbrev pub decreases-loop-alloc : goal.decreases-loop-alloc
decreases-loop-alloc l = length l.rest.items

abbrev pub invariant-loop-alloc : goal.invariant-loop-alloc
invariant-loop-alloc l = l.out.items ++ filled_due l.rest.items l.dealt.items ≡ filled_due l.fn.due.items l.fn.dealt.items
