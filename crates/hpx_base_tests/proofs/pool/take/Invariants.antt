use Rattle.std.proofs.Common.{◌≡◌}
use Rattle.hpx_pool.specs.Hands.{frame_of}
use Rattle.hpx_base_tests.proofs.pool.take.Given as goal

abbrev pub invariant-loop : goal.invariant-loop
invariant-loop g l = frame_of l.hand ≡ frame_of l.fn.hand
