use Rattle.std.proofs.Common.{◌≡◌, ◌++◌, drop}
use Rattle.hpx_commit.specs.Deals.{unnamed_from}
use Rattle.hpx_commit.proofs.deal.unnamed.Given as goal

abbrev pub invariant-loop-p : goal.invariant-loop-p
invariant-loop-p l = l.some.items ++ unnamed_from l.p (drop l.p l.hand) l.places ≡ unnamed_from 0 l.hand l.places
