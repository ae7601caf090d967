use Rattle.std.proofs.Common.{◌≡◌, ◌++◌}
use Rattle.app_compute.specs.Load.{objects_from}
use Rattle.app_compute.proofs.load.push_objects.Given as goal

abbrev pub invariant-loop-j : goal.invariant-loop-j
invariant-loop-j l = l.texts ≡ l.fn.texts ++ objects_from l.n 0 l.j
