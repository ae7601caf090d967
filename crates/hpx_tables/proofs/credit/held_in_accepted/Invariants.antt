use Rattle.std.proofs.Common.{◌≡◌, ◌-◌, ◌^◌, min, take}
use Rattle.std.specs.List.{sum_by}
use Rattle.hpx_journal.specs.Data.{Act}
use Rattle.hpx_tables.specs.Kept.{credit_in}
use Rattle.hpx_tables.proofs.credit.held_in_accepted.Given as goal

abbrev pub invariant-loop-i : goal.invariant-loop-i
invariant-loop-i l = l.sum ≡ min (2 ^ 128 - 1) (sum_by (λ (a : Act). credit_in l.o a.ids) (take l.i l.accepted.items))
