use Rattle.hpx_commit.proofs.Short.{replaced_names, fewer_short, all_last, refilled}
use Rattle.hpx_commit.proofs.law.replaced_law.Goals as goal

pub returns-clause-names : goal.returns-clause-names
returns-clause-names c = λ s p id within same some. replaced_names s p id within same some

pub returns-clause-short : goal.returns-clause-short
returns-clause-short c = λ n s p id here lasts. fewer_short s p id here lasts n 0

pub returns-clause-none : goal.returns-clause-none
returns-clause-none c = λ n s none rest. all_last n s none rest

pub returns-clause-refilled : goal.returns-clause-refilled
returns-clause-refilled c = λ log n s hand rest few stays given. refilled log n s hand rest few stays given
