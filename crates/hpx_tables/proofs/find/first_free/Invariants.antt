use Rattle.std.proofs.Common.{take}
use Rattle.hpx_tables.specs.Free.{NoneIsFree}
use Rattle.hpx_tables.specs.Pending.{fired_of}
use Rattle.hpx_tables.proofs.find.first_free.Given as goal

abbrev pub invariant-loop-i : goal.invariant-loop-i
invariant-loop-i g l = NoneIsFree (fired_of l.running l.pending) l.objects.items (take l.i l.accepted.items)
