use Rattle.hpx_names.proofs.Births.{new_born}
use Rattle.hpx_names.proofs.laws.births_law.Goals as goal

pub returns : goal.returns
returns c = λ n x h name values w y e. new_born n x h name values w y e
