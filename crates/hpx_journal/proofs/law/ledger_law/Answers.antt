-- Each clause is a lemma of proofs/Start.antt.
use Rattle.hpx_journal.proofs.Start.{legal_sums, legal_dies}
use Rattle.hpx_journal.proofs.law.ledger_law.Goals as goal

pub returns-clause-sums : goal.returns-clause-sums
returns-clause-sums c = λ r es later o h. legal_sums r es later h o

pub returns-clause-dies : goal.returns-clause-dies
returns-clause-dies c = λ r es later o h. legal_dies r es later h o
