use Rattle.std.proofs.Common.{◌≡◌, ◌++◌, drop}
use Rattle.hpx_value.specs.Values.{refs_in}
use Rattle.hpx_commit.proofs.mentions.push_refs.Given as goal

abbrev pub invariant-loop-value : goal.invariant-loop-value
invariant-loop-value l = l.places.items ++ refs_in (drop l.value-index l.values) ≡ l.fn.places.items ++ refs_in l.values
