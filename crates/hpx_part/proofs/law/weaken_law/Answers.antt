use Rattle.hpx_part.proofs.Weaken.{weaker_leads}
use Rattle.hpx_part.proofs.law.weaken_law.Goals as goal

pub returns : goal.returns
returns c = λ r v w less. weaker_leads r v w less
