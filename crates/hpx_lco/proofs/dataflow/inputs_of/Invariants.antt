use Rattle.std.proofs.Common.{◌≡◌}
use Rattle.hpx_calls.specs.Values.{spelled}
use Rattle.hpx_calls.specs.Tables.{inputs_from}
use Rattle.hpx_lco.proofs.dataflow.inputs_of.Given as goal

abbrev pub invariant-loop-slot : goal.invariant-loop-slot
invariant-loop-slot l = l.values ≡ inputs_from spelled l.given 0 l.slot
