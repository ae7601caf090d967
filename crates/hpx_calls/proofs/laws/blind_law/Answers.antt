use Rattle.hpx_calls.proofs.Blind.{outcome_blind}
use Rattle.hpx_calls.proofs.laws.blind_law.Goals as goal

pub returns : goal.returns
returns c = λ n kind here s a. outcome_blind n kind here s a
