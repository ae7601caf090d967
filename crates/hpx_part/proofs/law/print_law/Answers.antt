use Rattle.hpx_part.proofs.ActRows.{follows_print}
use Rattle.hpx_part.proofs.law.print_law.Goals as goal

pub returns : goal.returns
returns c = λ r v bytes rest fresh due. follows_print r v bytes rest fresh due
