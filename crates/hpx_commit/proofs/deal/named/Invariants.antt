use Rattle.std.proofs.Common.{◌≡◌, ◌≤◌, ◌+◌, drop}
use Rattle.hpx_commit.specs.Deals.{named}
use Rattle.hpx_commit.proofs.deal.named.Given as goal

abbrev pub invariant-loop-p : goal.invariant-loop-p
invariant-loop-p l = record {
  count : l.n + named (drop l.p-index l.places) l.place ≡ named l.places l.place;
  bound : l.n ≤ l.p-index;
}
