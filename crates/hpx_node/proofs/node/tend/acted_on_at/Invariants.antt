use Rattle.hpx_node.proofs.Common.{◌≡◌, acts_on, false, list_any, take}
use Rattle.hpx_node.proofs.node.tend.acted_on_at.Given as goal

abbrev pub invariant-loop-i : goal.invariant-loop-i
invariant-loop-i l = list_any (acts_on l.o) (take l.i l.accepted.items) ≡ false
