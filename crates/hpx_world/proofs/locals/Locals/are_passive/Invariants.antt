use Rattle.std.proofs.Common.{take}
use Rattle.std.specs.List.{AllByRecursion}
use Rattle.hpx_node.specs.Locality.{tables_of}
use Rattle.hpx_tables.specs.Tables.{IsPassive}
use Rattle.hpx_world.proofs.locals.Locals.are_passive.Given as goal

-- those so far are passive
abbrev pub invariant-loop-node : goal.invariant-loop-node
invariant-loop-node g l = AllByRecursion IsPassive (take l.node-index (tables_of l.self.nodes.items))
