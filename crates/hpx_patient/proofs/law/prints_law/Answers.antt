use Rattle.hpx_patient.proofs.Prints.{legal_prints}
use Rattle.hpx_patient.proofs.law.prints_law.Goals as goal

pub returns : goal.returns
returns c = λ r es grammar laws legal. legal_prints r grammar laws es legal
