use Rattle.std.proofs.Common.{◌≡◌, None, drop, take}
use Rattle.std.specs.List.{find}
use Rattle.hpx_tables.specs.Pending.{awaits}
use Rattle.hpx_tables.proofs.find.waiting_at.Given as goal

abbrev pub invariant-loop-i : goal.invariant-loop-i
invariant-loop-i g l =
    (find (awaits l.o l.entry) l.pending ≡ find (awaits l.o l.entry) (drop l.i l.pending)) × (find (awaits l.o l.entry) (take l.i l.pending) ≡ None)
