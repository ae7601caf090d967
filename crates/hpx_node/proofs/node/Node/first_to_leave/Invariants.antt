use Rattle.hpx_node.proofs.Common.{◌≡◌, false, list_any, take}
use Rattle.hpx_node.specs.Behind.{may_leave}
use Rattle.hpx_node.proofs.node.Node.first_to_leave.Given as goal

abbrev pub invariant-loop-i : goal.invariant-loop-i
invariant-loop-i g l = list_any (may_leave l.self.tables) (take l.i l.self.tables.leaving) ≡ false
