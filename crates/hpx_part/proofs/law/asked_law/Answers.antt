use Rattle.hpx_part.proofs.CreditRows.{follows_asked}
use Rattle.hpx_part.proofs.law.asked_law.Goals as goal

pub returns : goal.returns
returns c = λ r v o tokens asking asks due fresh bare one trades asked pending. follows_asked r v o bare tokens asking asks due fresh one trades asked pending
