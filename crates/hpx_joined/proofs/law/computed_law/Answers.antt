use Rattle.hpx_joined.proofs.Computed.{number_printed, ring_printed}
use Rattle.hpx_joined.proofs.law.computed_law.Goals as goal

pub returns-clause-number : goal.returns-clause-number
returns-clause-number c = λ r es n t judged question join ended calm one. number_printed r es judged join ended calm n t question one

pub returns-clause-ring : goal.returns-clause-ring
returns-clause-ring c = λ r es p q s judged asked join ended calm one. ring_printed r es judged join ended calm p q s asked one
