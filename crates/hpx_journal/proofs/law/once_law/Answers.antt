-- Each clause is a lemma of proofs/Start.antt.
use Rattle.hpx_journal.proofs.Start.{legal_begun, legal_fires, legal_dones, legal_dones_where, legal_running, legal_fires_begun, legal_stands, legal_commits, legal_fails}
use Rattle.hpx_journal.proofs.law.once_law.Goals as goal

pub returns-clause-begun_once : goal.returns-clause-begun_once
returns-clause-begun_once c = λ r es a h. legal_begun r es h a

pub returns-clause-fired_once : goal.returns-clause-fired_once
returns-clause-fired_once c = λ r es a h. legal_fires r es h a

pub returns-clause-done_once : goal.returns-clause-done_once
returns-clause-done_once c = λ r es a h. legal_dones r es h a

pub returns-clause-done_where : goal.returns-clause-done_where
returns-clause-done_where c = λ r es k a h. legal_dones_where r es h k a

pub returns-clause-fired_begun : goal.returns-clause-fired_begun
returns-clause-fired_begun c = λ r es a h. legal_fires_begun r es h a

pub returns-clause-stands : goal.returns-clause-stands
returns-clause-stands c = λ r es k h. legal_stands r es h k

pub returns-clause-committed : goal.returns-clause-committed
returns-clause-committed c = λ r es later k a h. legal_commits r es later k a h

pub returns-clause-failed : goal.returns-clause-failed
returns-clause-failed c = λ r es later k a h. legal_fails r es later k a h

pub returns-clause-runs : goal.returns-clause-runs
returns-clause-runs c = λ r es k a h. legal_running r es h k a
