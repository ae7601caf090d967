use Rattle.std.proofs.Common.{◌≡◌}
use Rattle.hpx_pool.specs.Hands.{frame_of}
use Rattle.hpx_base_tests.proofs.pool.fill.Given as goal

abbrev pub invariant-loop-at : goal.invariant-loop-at
invariant-loop-at l = frame_of l.hand ≡ frame_of l.fn.hand
