use Rattle.std.proofs.Common.{◌≡◌, flat_map, take}
use Rattle.std.specs.List.{AllByRecursion}
use Rattle.hpx_node.specs.Locality.{tables_of}
use Rattle.hpx_tables.specs.Kept.{HasRecords}
use Rattle.hpx_world.specs.Audit.{lines_at}
use Rattle.hpx_world.proofs.locals.Locals.audit.Given as goal

abbrev pub invariant-loop-node : goal.invariant-loop-node
invariant-loop-node g l =
    let ts = tables_of l.self.nodes.items in
    (l.lines ≡ flat_map (lines_at ts) (take l.node-index ts)) × AllByRecursion HasRecords (take l.node-index ts)
