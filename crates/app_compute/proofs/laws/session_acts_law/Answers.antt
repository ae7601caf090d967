use Rattle.app_compute.proofs.ComputingKeeps.{computing_blind, computing_keeps}
use Rattle.app_compute.proofs.SessionKeeps.{computes_blind}
use Rattle.app_compute.proofs.Still.{computing_still}
use Rattle.app_compute.proofs.laws.session_acts_law.Goals as goal

pub returns-clause-keeps : goal.returns-clause-keeps
returns-clause-keeps c = λ n here s a some h act. computing_keeps n here s a some h act

pub returns-clause-blind : goal.returns-clause-blind
returns-clause-blind c = λ n s a. computing_blind n s a

pub returns-clause-tells : goal.returns-clause-tells
returns-clause-tells c = λ s a. computes_blind s a

pub returns-clause-still : goal.returns-clause-still
returns-clause-still c = λ n s a. computing_still n s a
