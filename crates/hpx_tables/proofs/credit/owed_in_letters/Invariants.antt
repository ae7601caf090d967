use Rattle.std.proofs.Common.{◌≡◌, ◌-◌, ◌^◌, min, take}
use Rattle.std.specs.List.{sum_by}
use Rattle.hpx_tables.specs.Kept.{credit_owed}
use Rattle.hpx_tables.proofs.credit.owed_in_letters.Given as goal

abbrev pub invariant-loop-i : goal.invariant-loop-i
invariant-loop-i l = l.sum ≡ min (2 ^ 128 - 1) (sum_by (credit_owed l.o) (take l.i l.letters.items))
