use Rattle.hpx_commit.proofs.Fills.{filled_same, unused_rest, filled_sums, due_filled}
use Rattle.hpx_commit.proofs.law.fill_law.Goals as goal

pub returns-clause-same : goal.returns-clause-same
returns-clause-same c = λ ids ds rest h. filled_same ids ds rest h

pub returns-clause-left : goal.returns-clause-left
returns-clause-left c = λ ids ds rest h. unused_rest ids ds rest h

pub returns-clause-sums : goal.returns-clause-sums
returns-clause-sums c = λ f ids ds rest h. filled_sums f ids ds rest h

pub returns-clause-due : goal.returns-clause-due
returns-clause-due c = λ due ds. due_filled due ds
