use Rattle.std.proofs.Common.{◌≡◌, []}
use Rattle.hpx_calls.specs.Values.{spelled}
use Rattle.app_console.specs.Desks
use Rattle.app_console.proofs.keep.name_values.Given as goal

abbrev pub invariant-loop-naming : goal.invariant-loop-naming
invariant-loop-naming l = l.values ≡ Desks.names_out spelled l.yielded []
