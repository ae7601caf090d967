use Rattle.hpx_journal.proofs.Reduced.{boot_shows, legal_reduced}
use Rattle.hpx_journal.proofs.law.reduction_law.Goals as goal

pub returns-clause-boot : goal.returns-clause-boot
returns-clause-boot c = λ r. boot_shows r

pub returns-clause-plain : goal.returns-clause-plain
returns-clause-plain c = λ r es later p out grammar laws blind legal fine shows. legal_reduced r es later p out grammar laws blind legal fine shows
