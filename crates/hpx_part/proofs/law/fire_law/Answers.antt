use Rattle.hpx_part.proofs.ActRows.{follows_fire}
use Rattle.hpx_part.proofs.law.fire_law.Goals as goal

pub returns : goal.returns
returns c = λ r v l m fl fm act x due fresh waits fires stands idle moves. follows_fire r v l m fl fm act x due fresh waits fires stands idle moves
