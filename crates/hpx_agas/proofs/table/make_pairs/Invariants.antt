use Rattle.std.proofs.Common.{◌≡◌, ◌≤◌, vec_len}
use Rattle.hpx_agas.proofs.table.make_pairs.Given as goal

abbrev pub invariant-loop : goal.invariant-loop
invariant-loop g l = (vec_len l.pairs ≡ l.counter) × (vec_len l.fn.pairs ≤ vec_len l.pairs)
