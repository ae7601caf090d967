use Rattle.std.proofs.Common.{◌≡◌, ◌-◌, ◌^◌, min, take}
use Rattle.std.specs.List.{sum_by}
use Rattle.hpx_tables.specs.declared.kept.Outgoing.{Outgoing}
use Rattle.hpx_tables.specs.Kept.{credit_owed}
use Rattle.hpx_tables.proofs.credit.owed_on_the_way.Given as goal

abbrev pub invariant-loop-i : goal.invariant-loop-i
invariant-loop-i l = l.sum ≡ min (2 ^ 128 - 1) (sum_by (λ (x : Outgoing). credit_owed l.o x.parcel) (take l.i l.outgoing.items))
