use Rattle.hpx_commit.proofs.Ahead.{log_halved, bare_halved, some_halved}
use Rattle.hpx_commit.proofs.law.halved_law.Goals as goal

pub returns-clause-object : goal.returns-clause-object
returns-clause-object c = λ k id. bare_halved k id

pub returns-clause-log : goal.returns-clause-log
returns-clause-log c = λ k id. log_halved k id

pub returns-clause-credit : goal.returns-clause-credit
returns-clause-credit c = λ k id. some_halved k id
