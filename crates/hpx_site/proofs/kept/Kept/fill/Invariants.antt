use Rattle.std.proofs.Common.{◌≡◌, ◌≤◌, ◌+◌, length}
use Rattle.hpx_pool.specs.Hands.{frame_of, put_of}
use Rattle.hpx_site.proofs.kept.Kept.fill.Given as goal

abbrev pub invariant-loop-taken : goal.invariant-loop-taken
invariant-loop-taken g l = (frame_of l.hand ≡ frame_of l.initial.hand) × (length (put_of l.hand) ≤ length (put_of l.initial.hand) + l.taken)
