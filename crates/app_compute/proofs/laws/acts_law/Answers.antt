use Rattle.app_compute.proofs.PlainKeeps.{is_blind, keeps_laws}
use Rattle.app_compute.proofs.laws.acts_law.Goals as goal

pub returns-clause-keeps : goal.returns-clause-keeps
returns-clause-keeps c = λ n kind here s a some place h act. keeps_laws n kind here s a some place h act

pub returns-clause-blind : goal.returns-clause-blind
returns-clause-blind c = λ n kind here s a. is_blind n kind here s a
