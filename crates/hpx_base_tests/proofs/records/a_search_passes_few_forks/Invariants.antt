use Rattle.std.proofs.Common.{◌≤◌}
use Rattle.hpx_base_tests.proofs.records.a_search_passes_few_forks.Given as goal

abbrev pub invariant-loop-i : goal.invariant-loop-i
invariant-loop-i g l = l.records.births ≤ l.i
