use Rattle.hpx_part.proofs.Loads.{exchanges_then, exchanges_less}
use Rattle.hpx_part.proofs.law.exchange_law.Goals as goal

pub returns-clause-after : goal.returns-clause-after
returns-clause-after c = λ a b c d v m w s t. exchanges_then a b c d v m w s t

pub returns-clause-less : goal.returns-clause-less
returns-clause-less c = λ x a b v w s. exchanges_less x a b v w s
