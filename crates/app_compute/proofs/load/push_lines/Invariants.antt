use Rattle.std.proofs.Common.{◌≡◌, ◌++◌}
use Rattle.app_compute.specs.Load.{lines_from}
use Rattle.app_compute.proofs.Lines.{number_after}
use Rattle.app_compute.proofs.load.push_lines.Given as goal

abbrev pub invariant-loop : goal.invariant-loop
invariant-loop l = (l.texts ≡ l.fn.texts ++ lines_from l.n l.start l.counter) × (l.number ≡ number_after l.start l.counter)
