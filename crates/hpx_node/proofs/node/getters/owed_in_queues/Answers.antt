use Rattle.hpx_node.proofs.Common.{credit_owed}
use Rattle.hpx_node.proofs.node.getters.owed_in_queues.Goals as goal

pub returns : goal.returns
returns c = c.weight.ensures (credit_owed c.args.o) (λ item r h. rw (← h.shows) h.says.met)
