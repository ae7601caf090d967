use Rattle.hpx_part.proofs.CreditRows.{follows_granted}
use Rattle.hpx_part.proofs.law.granted_law.Goals as goal

pub returns : goal.returns
returns c = λ r v o old count tokens live due fresh bare home is some more limit one trades lives. follows_granted r v o bare home old count tokens live due fresh is some more limit one trades lives
