use Rattle.hpx_lco.proofs.Latches.{down_tells, wait_tells, latch_tells}
use Rattle.hpx_lco.proofs.laws.latch_law.Goals as goal

pub returns : goal.returns
returns g c = record { down = λ x n h w. down_tells x n h w; wait = λ x n h w. wait_tells x n h w; every = λ x n h r w high. latch_tells x n h r w high }
