use Rattle.hpx_part.proofs.CreditRows.{follows_returned}
use Rattle.hpx_part.proofs.law.returned_law.Goals as goal

pub returns : goal.returns
returns c = λ r v o log count tokens live due fresh bare home is one trades lives covered. follows_returned r v o bare home log count tokens live due fresh is one trades lives covered
