use Rattle.std.proofs.Common.{◌≡◌, ◌+◌, ◌-◌, ◌≤◌, length, drop}
use Rattle.hpx_counters.specs.Counters.{shared}
use Rattle.hpx_counters.proofs.counters.shared.Given as goal

-- what is left shares the rest
abbrev pub invariant-loop-n : goal.invariant-loop-n
invariant-loop-n l = record {
  within : l.n ≤ length l.text;
  short : l.n ≤ length l.other;
  rest : l.n + shared (drop l.n l.text) (drop l.n l.other) ≡ shared l.text l.other;
}

abbrev pub decreases-loop-n : goal.decreases-loop-n
decreases-loop-n l = length l.text - l.n
