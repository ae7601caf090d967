use Rattle.std.proofs.Common.{ℕ, ◌<◌}
use Rattle.hpx_value.specs.Hands.{id_at}
use Rattle.hpx_commit.specs.Deals.{Lasts, named}
use Rattle.hpx_commit.proofs.deal.all_last.Given as goal

abbrev pub invariant-loop-p : goal.invariant-loop-p
invariant-loop-p l = (q : ℕ) → q < l.p → Lasts (id_at l.hand q) (named l.places q)
