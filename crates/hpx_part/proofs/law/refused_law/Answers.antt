use Rattle.hpx_part.proofs.CreditRows.{follows_refused}
use Rattle.hpx_part.proofs.law.refused_law.Goals as goal

pub returns : goal.returns
returns c = λ r v o count due fresh bare home is some limit one. follows_refused r v o bare home count due fresh is some limit one
