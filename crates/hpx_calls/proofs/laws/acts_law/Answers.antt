use Rattle.hpx_calls.proofs.Lawful.{every_keeps}
use Rattle.hpx_calls.proofs.laws.acts_law.Goals as goal

pub returns : goal.returns
returns c = λ n kind here s a low plain h act. every_keeps n kind here s a low plain h act
