use Rattle.hpx_node.proofs.Turns.{turn_within}
use Rattle.hpx_node.proofs.law.limits_law.Goals as goal

pub returns : goal.returns
returns c = turn_within
