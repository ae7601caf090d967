use Rattle.hpx_top.proofs.ShowLemmas.{part_front}
use Rattle.hpx_program.proofs.program.say.Goals as goal

pub returns-in-Err : goal.returns-in-Err
returns-in-Err g c = record { front = part_front _ _ _ c.in-Err.ensures.err; whole = λ calm. absurd (calm c.in-Err.ensures.cause) }
