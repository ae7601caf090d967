use Rattle.hpx_journal.specs.Whole.{replayed}
use Rattle.hpx_journal.proofs.Homes.{root_stands}
use Rattle.hpx_journal.proofs.Origins.{each_origin}
use Rattle.hpx_journal.proofs.RootNames.{root_names}
use Rattle.hpx_journal.proofs.Start.{legal_whole}
use Rattle.hpx_journal.proofs.Targets.{all_near}
use Rattle.hpx_journal.proofs.natives.natives_law.Goals as goal

pub returns-clause-origins : goal.returns-clause-origins
returns-clause-origins c = λ r es h. each_origin r (replayed r es) (legal_whole r es h)

pub returns-clause-roots : goal.returns-clause-roots
returns-clause-roots c = λ r es grammar laws h. root_names r grammar laws es h

pub returns-clause-stand : goal.returns-clause-stand
returns-clause-stand c = λ r es o some h root. root_stands r es h o some root

pub returns-clause-near : goal.returns-clause-near
returns-clause-near c = λ r es grammar laws some h. all_near r grammar laws some es h
