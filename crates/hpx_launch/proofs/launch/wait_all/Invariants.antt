use Rattle.std.proofs.Common.{ℕ, List, ◌≡◌, ◌++◌, length}
use Rattle.std.specs.List.{zip}
use Rattle.hpx_launch.specs.Launches.{first_failure}
use Rattle.hpx_launch.proofs.launch.wait_all.Given as goal

-- the children before this one have ended
abbrev pub invariant-loop-child : goal.invariant-loop-child
invariant-loop-child g l =
    record {
      statuses : List ℕ;
      each : length statuses ≡ l.child-index;
      ended : g.P.Spawner.ended l.spawner ≡ g.P.Spawner.ended l.fn.spawner ++ zip l.children statuses;
      answer : l.first_failure ≡ first_failure statuses;
      started : g.P.Spawner.started l.spawner ≡ g.P.Spawner.started l.fn.spawner;
      calm : g.P.Spawner.faults l.spawner ≡ g.P.Spawner.faults l.fn.spawner;
    }
