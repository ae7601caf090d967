use Rattle.hpx_commit.proofs.Moved.{half_same, half_sums}
use Rattle.hpx_commit.proofs.law.half_law.Goals as goal

pub returns-clause-same : goal.returns-clause-same
returns-clause-same c = λ s p here within more. half_same s p here within more

pub returns-clause-sums : goal.returns-clause-sums
returns-clause-sums c = λ f s p here. half_sums s p here f
