use Rattle.std.proofs.Common.{arith}
use Rattle.hpx_world.proofs.FewFrames.{few_sent, few_taken}
use Rattle.hpx_world.proofs.world.World.settled.Goals as goal

pub overflow_cast-result : goal.overflow_cast-result
overflow_cast-result g c = omega (arith, c.frames-sent.ensures.sent, few_sent _ _ _ _ c.standing.ensures c.requires)

pub overflow_cast-result-2 : goal.overflow_cast-result-2
overflow_cast-result-2 g c = omega (arith, c.frames-sent.ensures.taken, few_taken _ _ _ _ c.standing.ensures c.requires)
