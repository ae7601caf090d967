use Rattle.hpx_journal.specs.Roots.{roots}
use Rattle.hpx_journal.specs.Whole.{start}
use Rattle.hpx_journal.proofs.Fronts.{legal_front}
use Rattle.hpx_journal.proofs.law.front_law.Goals as goal

pub returns : goal.returns
returns c = λ r es later h. legal_front r (start (roots r.localities)) es later h
