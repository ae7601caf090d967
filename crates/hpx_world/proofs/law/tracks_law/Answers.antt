use Rattle.hpx_world.proofs.Strange.{moves_tracked}
use Rattle.hpx_world.proofs.law.tracks_law.Goals as goal

pub returns : goal.returns
returns c = λ act_of profile nodes es sound laws carried. moves_tracked act_of profile nodes es sound laws carried
