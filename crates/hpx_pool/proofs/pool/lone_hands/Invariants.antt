use Rattle.std.proofs.Common.{◌≡◌, length}
use Rattle.hpx_pool.specs.Bags.{Each}
use Rattle.hpx_pool.specs.Hands.{IsLone}
use Rattle.hpx_pool.proofs.pool.lone_hands.Given as goal

abbrev pub invariant-loop : goal.invariant-loop
invariant-loop l = (length l.all.items ≡ l.counter) × Each IsLone l.all.items
