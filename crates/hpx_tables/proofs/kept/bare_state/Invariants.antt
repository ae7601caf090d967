use Rattle.std.proofs.Common.{◌≡◌, ◌++◌, drop, map}
use Rattle.hpx_value.specs.Ids.{bare}
use Rattle.hpx_tables.proofs.kept.bare_state.Given as goal

abbrev pub invariant-loop-id : goal.invariant-loop-id
invariant-loop-id l = l.ids.items ++ map bare (drop l.id-index l.state.ids) ≡ map bare l.state.ids
