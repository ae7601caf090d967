use Rattle.std.proofs.Common.{◌≡◌, ◌-◌, ◌^◌, min, take}
use Rattle.std.specs.List.{sum_by}
use Rattle.hpx_part.specs.Data.{Standing}
use Rattle.hpx_tables.specs.Kept.{credit_in}
use Rattle.hpx_tables.proofs.credit.held_in_states.Given as goal

abbrev pub invariant-loop-i : goal.invariant-loop-i
invariant-loop-i l = l.sum ≡ min (2 ^ 128 - 1) (sum_by (λ (x : Standing). credit_in l.o x.state.ids) (take l.i l.objects.items))
