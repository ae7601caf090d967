use Rattle.std.proofs.Common.{◌≡◌, ◌++◌, drop, map}
use Rattle.hpx_tables.specs.Births.{birth_of}
use Rattle.hpx_tables.proofs.births.births.Given as goal

abbrev pub invariant-loop-make : goal.invariant-loop-make
invariant-loop-make l = l.out.items ++ map birth_of (drop l.make-index l.makes) ≡ map birth_of l.makes
