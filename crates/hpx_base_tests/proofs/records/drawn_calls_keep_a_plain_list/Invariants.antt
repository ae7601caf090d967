use Rattle.std.proofs.Common.{◌≤◌}
use Rattle.hpx_base_tests.proofs.records.drawn_calls_keep_a_plain_list.Given as goal

abbrev pub invariant-loop : goal.invariant-loop
invariant-loop g l = l.records.births ≤ l.counter
