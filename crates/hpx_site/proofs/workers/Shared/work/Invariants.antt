use Rattle.std.proofs.Common.{◌≡◌}
use Rattle.hpx_pool.specs.Hands.{frame_of}
use Rattle.hpx_site.proofs.workers.Shared.work.Given as goal

abbrev pub invariant-loop : goal.invariant-loop
invariant-loop g l = frame_of l.hand ≡ frame_of l.initial.hand
