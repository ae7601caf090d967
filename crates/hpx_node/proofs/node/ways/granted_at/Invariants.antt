use Rattle.hpx_node.proofs.Common.{◌≡◌, false, take}
use Rattle.std.specs.List.{list_any}
use Rattle.hpx_tables.specs.Kept.{grants}
use Rattle.hpx_node.proofs.node.ways.granted_at.Given as goal

abbrev pub invariant-loop-i : goal.invariant-loop-i
invariant-loop-i l = list_any (grants l.o) (take l.i l.leaving.items) ≡ false
