use Rattle.std.proofs.Common.{◌≡◌, ◌-◌, ◌^◌, min, take}
use Rattle.hpx_tables.specs.Kept.{credit_in}
use Rattle.hpx_tables.proofs.credit.credit_in.Given as goal

abbrev pub invariant-loop-i : goal.invariant-loop-i
invariant-loop-i l = l.sum ≡ min (2 ^ 128 - 1) (credit_in l.o (take l.i l.ids))
