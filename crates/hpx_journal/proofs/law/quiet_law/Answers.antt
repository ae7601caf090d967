use Rattle.hpx_journal.proofs.Quiet.{legal_lengths, legal_road_empty, legal_quiet}
use Rattle.hpx_journal.proofs.Deaths.{legal_all_freed}
use Rattle.hpx_journal.proofs.Start.{quiet_fires, quiet_dones}
use Rattle.hpx_journal.proofs.law.quiet_law.Goals as goal

pub returns-clause-road_length : goal.returns-clause-road_length
returns-clause-road_length c = λ r es h. legal_lengths r es h

pub returns-clause-road : goal.returns-clause-road
returns-clause-road c = λ r es h same. legal_road_empty r es h same

pub returns-clause-freed : goal.returns-clause-freed
returns-clause-freed c = λ r es o h road frees dead. legal_all_freed r es h road frees o dead

pub returns-clause-quiet : goal.returns-clause-quiet
returns-clause-quiet c = λ r es h places same freed. legal_quiet r es h places same freed

pub returns-clause-all_fired : goal.returns-clause-all_fired
returns-clause-all_fired c = λ r es a h quiet. quiet_fires r es h quiet a

pub returns-clause-all_done : goal.returns-clause-all_done
returns-clause-all_done c = λ r es a h quiet. quiet_dones r es h quiet a
