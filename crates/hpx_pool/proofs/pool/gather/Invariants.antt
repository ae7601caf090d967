use Rattle.std.proofs.Common.{◌≡◌, map}
use Rattle.hpx_pool.specs.Bags.{joined, SameBag}
use Rattle.hpx_pool.specs.Hands.{frame_of, put_of, got_of, AreAll, thieving}
use Rattle.hpx_pool.proofs.pool.gather.Given as goal

abbrev pub invariant-loop : goal.invariant-loop
invariant-loop l = AreAll (map frame_of l.hands.items) × (map put_of l.hands.items ≡ map put_of l.initial.hands.items) × SameBag (joined got_of l.hands.items) (joined got_of l.initial.hands.items)

abbrev pub decreases-loop : goal.decreases-loop
decreases-loop l = thieving (map frame_of l.hands.items)
