use Rattle.hpx_node.proofs.Common.{credit_in, ids_held}
use Rattle.hpx_node.proofs.node.getters.held_in_queues.Goals as goal

pub returns : goal.returns
returns c = c.weight.ensures (λ p. credit_in c.args.o (ids_held p)) (λ item r h. rw (← h.shows) h.says.met)
