use Rattle.hpx_part.proofs.ActRows.{follows_mail}
use Rattle.hpx_part.proofs.law.mail_law.Goals as goal

pub returns : goal.returns
returns c = λ r v kind due fresh low high. follows_mail r v kind due fresh low high
