use Rattle.app_console.proofs.SessionLaws.{keeps_laws, is_blind}
use Rattle.app_console.proofs.session_law.acts_law.Goals as goal

pub returns-clause-keeps : goal.returns-clause-keeps
returns-clause-keeps c = λ n kind here s a some few low plain state act. keeps_laws n kind here s a some few low plain state act

pub returns-clause-blind : goal.returns-clause-blind
returns-clause-blind c = λ n kind here s a. is_blind n kind here s a
