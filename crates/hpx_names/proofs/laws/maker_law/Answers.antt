use Rattle.hpx_names.proofs.Maps.{new_tells, maker_tells}
use Rattle.hpx_names.proofs.laws.maker_law.Goals as goal

pub returns : goal.returns
returns g c = record { new = λ x h name values w. new_tells x h name values w; every = λ x h r w low. maker_tells x h r w low }
