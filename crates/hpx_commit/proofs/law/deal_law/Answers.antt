use Rattle.hpx_commit.proofs.Deals.{names_dealt, sums_dealt}
use Rattle.hpx_commit.proofs.law.deal_law.Goals as goal

pub returns-clause-names : goal.returns-clause-names
returns-clause-names c = λ hand places. names_dealt hand places

pub returns-clause-sums : goal.returns-clause-sums
returns-clause-sums c = λ f hand places within. sums_dealt f hand places within
