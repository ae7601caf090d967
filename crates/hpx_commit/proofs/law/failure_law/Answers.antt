use Rattle.hpx_commit.proofs.Failed.{state_same, action_same, due_bare, failed_sums}
use Rattle.hpx_commit.proofs.law.failure_law.Goals as goal

pub returns-clause-state : goal.returns-clause-state
returns-clause-state c = λ s a made ids same. state_same s a made ids same

pub returns-clause-action : goal.returns-clause-action
returns-clause-action c = λ s a made ids same. action_same s a made ids same

pub returns-clause-sums : goal.returns-clause-sums
returns-clause-sums c = λ f s a makes ids. failed_sums f s a makes ids

pub returns-clause-due : goal.returns-clause-due
returns-clause-due c = λ g message print ids cont. due_bare g message print ids cont
