use Rattle.hpx_part.proofs.ObjectRows.{follows_fail}
use Rattle.hpx_part.proofs.law.fail_law.Goals as goal

pub returns : goal.returns
returns c = λ r v fl fm act x n due fresh fires stands refused few covered. follows_fail r v fl fm act x n due fresh fires stands refused few covered
