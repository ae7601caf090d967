use Rattle.std.proofs.Common.{◌≡◌, ◌-◌, vec_len, vec_capacity}
use Rattle.hpx_pool.specs.Hands.{frame_of}
use Rattle.hpx_site.proofs.workers.Shared.run_some.Given as goal

abbrev pub invariant-loop-hand : goal.invariant-loop-hand
invariant-loop-hand g l = frame_of l.hand ≡ frame_of l.initial.hand

abbrev pub decreases-loop-hand : goal.decreases-loop-hand
decreases-loop-hand g l = vec_capacity l.ran - vec_len l.ran
