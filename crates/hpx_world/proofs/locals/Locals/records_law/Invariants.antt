use Rattle.std.proofs.Common.{take}
use Rattle.std.specs.List.{AllByRecursion}
use Rattle.hpx_node.specs.Locality.{tables_of}
use Rattle.hpx_tables.specs.Kept.{HasRecords}
use Rattle.hpx_world.proofs.locals.Locals.records_law.Given as goal

abbrev pub invariant-loop-node : goal.invariant-loop-node
invariant-loop-node g l = AllByRecursion HasRecords (take l.node-index (tables_of l.self.nodes.items))
