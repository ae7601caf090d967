use Rattle.hpx_journal.proofs.Ample.{legal_ample}
use Rattle.hpx_journal.proofs.Failures.{legal_failures, legal_refusals}
use Rattle.hpx_journal.proofs.law.failure_law.Goals as goal

pub returns-clause-handed : goal.returns-clause-handed
returns-clause-handed c = λ r es k h. legal_failures r es h k

pub returns-clause-refused : goal.returns-clause-refused
returns-clause-refused c = λ r es h cause. legal_refusals r es h cause

pub returns-clause-ample : goal.returns-clause-ample
returns-clause-ample c = λ r es h log few ample. legal_ample r es h log few ample
