use Rattle.std.proofs.Common.{◌≡◌, ◌++◌, length, map}
use Rattle.std.specs.List.{range_with_len}
use Rattle.hpx_launch.specs.Lines.{start_of}
use Rattle.hpx_launch.proofs.launch.start_all.Given as goal

-- the children of the localities before this one were started
abbrev pub invariant-loop-node : goal.invariant-loop-node
invariant-loop-node g l =
    record {
      children : l.children ≡ range_with_len (length (g.P.Spawner.started l.fn.spawner)) l.node;
      started : g.P.Spawner.started l.spawner ≡ g.P.Spawner.started l.fn.spawner ++ map (start_of l.launch) (range_with_len 0 l.node);
      ended : g.P.Spawner.ended l.spawner ≡ g.P.Spawner.ended l.fn.spawner;
      calm : g.P.Spawner.faults l.spawner ≡ g.P.Spawner.faults l.fn.spawner;
    }
