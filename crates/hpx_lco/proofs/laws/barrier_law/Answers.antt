use Rattle.hpx_lco.proofs.Barriers.{arrive_tells, barrier_tells}
use Rattle.hpx_lco.proofs.laws.barrier_law.Goals as goal

pub returns : goal.returns
returns g c = record { arrive = λ x n h w e. arrive_tells x n h w e; every = λ x n h r w e high. barrier_tells x n h r w e high }
