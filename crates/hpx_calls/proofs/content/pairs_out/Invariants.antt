use Rattle.std.proofs.Common.{◌≡◌}
use Rattle.hpx_calls.specs.Values.{spelled}
use Rattle.hpx_calls.specs.Contents
use Rattle.hpx_calls.proofs.content.pairs_out.Given as goal

abbrev pub invariant-loop-pair : goal.invariant-loop-pair
invariant-loop-pair l = l.values ≡ Contents.pairs_out spelled l.yielded
