use Rattle.std.proofs.Common.{take}
use Rattle.hpx_tables.specs.Tallies.{Adds}
use Rattle.hpx_tables.proofs.tally.Tally.add.Given as goal

abbrev pub invariant-loop-id : goal.invariant-loop-id
invariant-loop-id l = Adds l.fn.self (take l.id-index l.ids) l.self
