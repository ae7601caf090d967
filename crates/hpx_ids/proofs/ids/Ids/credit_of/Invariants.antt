use Rattle.std.proofs.Common.{◌≡◌, ◌≤◌, ◌*◌, ◌^◌, take}
use Rattle.std.specs.List.{sum_by}
use Rattle.hpx_ids.specs.Tables.{credit_at}
use Rattle.hpx_ids.proofs.ids.Ids.credit_of.Given as goal

abbrev pub invariant-loop-e : goal.invariant-loop-e
invariant-loop-e l = record {
  sum : l.sum ≡ sum_by (credit_at l.gid) (take l.e l.self.slots);
  bound : l.sum ≤ l.e * 2 ^ 31;
}
