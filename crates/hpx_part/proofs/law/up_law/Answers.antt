use Rattle.hpx_part.proofs.CreditRows.{follows_up}
use Rattle.hpx_part.proofs.law.up_law.Goals as goal

pub returns : goal.returns
returns c = λ r v o log tokens due fresh bare one trades covered. follows_up r v o bare log tokens due fresh one trades covered
