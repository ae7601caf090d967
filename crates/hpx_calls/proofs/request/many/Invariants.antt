use Rattle.std.proofs.Common.{◌≡◌, map, take}
use Rattle.hpx_calls.specs.Values.{shifted}
use Rattle.hpx_calls.proofs.request.many.Given as goal

abbrev pub invariant-loop-value : goal.invariant-loop-value
invariant-loop-value l = l.values ≡ map (shifted l.by) (take l.value-index l.rest)
