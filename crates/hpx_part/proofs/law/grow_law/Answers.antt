use Rattle.hpx_part.proofs.Grown.{grow}
use Rattle.hpx_part.proofs.law.grow_law.Goals as goal

pub returns : goal.returns
returns c = λ r v w entries events h leads. grow r v w entries events h leads
