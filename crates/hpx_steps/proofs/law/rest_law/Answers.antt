use Rattle.hpx_steps.proofs.law.rest_law.Goals as goal
use Rattle.hpx_steps.proofs.Still.{rest_sound}

pub returns : goal.returns
returns c = λ r s entries h. rest_sound r s entries h
