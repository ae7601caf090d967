use Rattle.hpx_top.proofs.ShowLemmas.{part_front}
use Rattle.hpx_process.proofs.show.write.Goals as goal

pub returns-in-Err-clause-front : goal.returns-in-Err-clause-front
returns-in-Err-clause-front g c = part_front _ _ _ c.in-Err.ensures.err
