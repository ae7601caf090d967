-- Each clause is a lemma of proofs/Start.antt.
use Rattle.hpx_journal.proofs.Start.{joined_legal, legal_part_clean, joined_backed}
use Rattle.hpx_journal.proofs.law.join_law.Goals as goal

pub returns-clause-legal : goal.returns-clause-legal
returns-clause-legal c = λ r es grammar h. joined_legal r grammar es h

pub returns-clause-clean : goal.returns-clause-clean
returns-clause-clean c = λ r es k grammar h i. legal_part_clean r es h grammar k i

pub returns-clause-backed : goal.returns-clause-backed
returns-clause-backed c = λ r es later k grammar h i. joined_backed r grammar es later h k i
