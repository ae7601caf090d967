use Rattle.hpx_commit.proofs.Later.{later_one, later_made}
use Rattle.hpx_commit.proofs.law.later_law.Goals as goal

pub returns-clause-one : goal.returns-clause-one
returns-clause-one c = λ n q id s le lt. later_one n q id s le lt

pub returns-clause-made : goal.returns-clause-made
returns-clause-made c = λ n front old new places fits same. later_made n front old new places fits same
