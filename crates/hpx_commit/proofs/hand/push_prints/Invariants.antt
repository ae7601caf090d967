use Rattle.std.proofs.Common.{◌≡◌, ◌++◌, drop, map}
use Rattle.hpx_value.specs.declared.outcome.Due.TheVariants.{Print}
use Rattle.hpx_commit.proofs.hand.push_prints.Given as goal

abbrev pub invariant-loop-text : goal.invariant-loop-text
invariant-loop-text l = l.due.items ++ map Print (drop l.text-index l.prints) ≡ l.fn.due.items ++ map Print l.prints
