use Rattle.hpx_part.proofs.CreditRows.{follows_given}
use Rattle.hpx_part.proofs.law.given_law.Goals as goal

pub returns : goal.returns
returns c = λ r v o log tokens asking asks due fresh bare logs one trades asked pending. follows_given r v o bare log tokens asking asks due fresh logs one trades asked pending
