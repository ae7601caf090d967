use Rattle.std.proofs.Common.{take}
use Rattle.std.specs.List.{AllByRecursion}
use Rattle.hpx_node.specs.Locality.{tables_of}
use Rattle.hpx_world.proofs.Jobs.{HasNoJob}
use Rattle.hpx_world.proofs.locals.Locals.none_runs.Given as goal

-- none so far runs a job
abbrev pub invariant-loop-node : goal.invariant-loop-node
invariant-loop-node g l = AllByRecursion HasNoJob (take l.node-index (tables_of l.self.nodes.items))
