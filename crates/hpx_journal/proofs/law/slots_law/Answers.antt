use Rattle.hpx_journal.proofs.Fronts.{legal_front}
use Rattle.hpx_journal.proofs.Start.{first}
use Rattle.hpx_journal.proofs.SlotsWhole.{legal_formed, legal_slots}
use Rattle.hpx_journal.proofs.law.slots_law.Goals as goal

pub returns-clause-formed : goal.returns-clause-formed
returns-clause-formed c = λ r es k grammar laws h. legal_formed r grammar laws es h k

pub returns-clause-slots : goal.returns-clause-slots
returns-clause-slots c = λ r es later x grammar laws h. legal_slots r grammar laws es (legal_front r (first r) es later h) x
