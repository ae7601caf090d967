use Rattle.hpx_node.proofs.Common.{false, list_any, take, ◌≡◌}
use Rattle.hpx_node.specs.Commits.{is_arrival}
use Rattle.hpx_node.proofs.node.moves.arrival_at.Given as goal

abbrev pub invariant-loop-i : goal.invariant-loop-i
invariant-loop-i l = list_any (is_arrival l.name l.object) (take l.i l.came) ≡ false
