use Rattle.hpx_names.proofs.Maps.{count_tells, size_tells}
use Rattle.hpx_names.proofs.laws.localities_law.Goals as goal

pub returns : goal.returns
returns g c = record { count = λ x n h w. count_tells x n h w; every = λ x n h r w low. size_tells x n h r w low }
