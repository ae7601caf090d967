use Rattle.hpx_patient.proofs.Lines.{legal_lines}
use Rattle.hpx_patient.proofs.law.lines_law.Goals as goal

pub returns : goal.returns
returns c = λ r es grammar laws legal stay. legal_lines r grammar laws es legal stay
