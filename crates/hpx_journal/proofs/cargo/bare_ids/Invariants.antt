use Rattle.std.proofs.Common.{◌≡◌, ◌++◌, drop, map}
use Rattle.hpx_value.specs.Ids.{bare}
use Rattle.hpx_journal.proofs.cargo.bare_ids.Given as goal

abbrev pub invariant-loop-id : goal.invariant-loop-id
invariant-loop-id l = l.out.items ++ map bare (drop l.id-index l.ids) ≡ map bare l.ids
