use Rattle.std.proofs.Common.{◌≡◌, ◌++◌}
use Rattle.hpx_calls.specs.Values.{spelled}
use Rattle.app_console.specs.Desks
use Rattle.app_console.proofs.keep.await_values.Given as goal

abbrev pub invariant-loop-waiting : goal.invariant-loop-waiting
invariant-loop-waiting l = l.values ≡ l.initial.values ++ Desks.awaits_out spelled l.yielded
