use Rattle.hpx_part.proofs.ActRows.{follows_line}
use Rattle.hpx_part.proofs.law.line_law.Goals as goal

pub returns : goal.returns
returns c = λ r v l m bytes due fresh zero short is. follows_line r v l m bytes due fresh zero short is
