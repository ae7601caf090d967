use Rattle.hpx_part.proofs.ActRows.{follows_sent}
use Rattle.hpx_part.proofs.law.sent_law.Goals as goal

pub returns : goal.returns
returns c = λ r v message rest l m fresh due is. follows_sent r v message rest l m fresh due is
