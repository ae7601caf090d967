use Rattle.std.proofs.Common.{take}
use Rattle.hpx_tables.specs.Tallies.{Takes}
use Rattle.hpx_tables.proofs.tally.Tally.take.Given as goal

abbrev pub invariant-loop-id : goal.invariant-loop-id
invariant-loop-id l = Takes l.fn.self (take l.id-index l.ids) l.self
