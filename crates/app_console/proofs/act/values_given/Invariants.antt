use Rattle.std.proofs.Common.{◌≡◌, map}
use Rattle.hpx_calls.specs.Values.{spelled}
use Rattle.app_console.specs.Session.{given}
use Rattle.app_console.proofs.act.values_given.Given as goal

abbrev pub invariant-loop-arg : goal.invariant-loop-arg
invariant-loop-arg l = l.values ≡ map (given spelled l.names) l.yielded
