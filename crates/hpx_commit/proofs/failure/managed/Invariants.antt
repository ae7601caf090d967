use Rattle.std.proofs.Common.{◌≡◌, ◌++◌, drop}
use Rattle.std.specs.List.{filter}
use Rattle.hpx_commit.specs.Deals.{is_managed}
use Rattle.hpx_commit.proofs.failure.managed.Given as goal

abbrev pub invariant-loop-id : goal.invariant-loop-id
invariant-loop-id l = l.some.items ++ filter is_managed (drop l.id-index l.ids) ≡ filter is_managed l.ids
