use Rattle.std.proofs.Common.{◌≡◌, ◌-◌, ◌^◌, min, take}
use Rattle.std.specs.List.{sum_by}
use Rattle.hpx_journal.specs.Data.{Parcel}
use Rattle.hpx_tables.specs.Kept.{credit_in, ids_held}
use Rattle.hpx_tables.proofs.credit.held_in_letters.Given as goal

abbrev pub invariant-loop-i : goal.invariant-loop-i
invariant-loop-i l = l.sum ≡ min (2 ^ 128 - 1) (sum_by (λ (p : Parcel). credit_in l.o (ids_held p)) (take l.i l.letters.items))
