use Rattle.hpx_steps.proofs.Step.{step_sound, steps_sound}
use Rattle.hpx_steps.proofs.law.step_law.Goals as goal

pub returns-clause-step : goal.returns-clause-step
returns-clause-step c = λ r s s' label entries h g. (step_sound r s s' label entries h g).sound

pub returns-clause-steps : goal.returns-clause-steps
returns-clause-steps c = λ r s s' labels entries h g. (steps_sound r s s' labels entries h g).sound

pub returns-clause-numbered : goal.returns-clause-numbered
returns-clause-numbered c = λ r s s' labels entries h g. (steps_sound r s s' labels entries h g).numbered
