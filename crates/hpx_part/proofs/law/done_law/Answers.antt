use Rattle.hpx_part.proofs.ObjectRows.{follows_done}
use Rattle.hpx_part.proofs.law.done_law.Goals as goal

pub returns : goal.returns
returns c = λ r v fl fm l m act x out due fires objects stands right makes covered. follows_done r v fl fm l m act x out due fires objects stands right makes covered
