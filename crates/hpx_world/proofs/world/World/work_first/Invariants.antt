use Rattle.std.proofs.Common.{◌≡◌, length, take}
use Rattle.std.specs.List.{AllByRecursion}
use Rattle.hpx_world.specs.Quiet.{IsStuck}
use Rattle.hpx_world.specs.Heard.{KeepsLatest}
use Rattle.hpx_world.specs.Stages.{stage}
use Rattle.hpx_world.proofs.world.World.work_first.Given as goal

-- so far nothing was done, and nothing could be
abbrev pub invariant-loop-k : goal.invariant-loop-k
invariant-loop-k g l = record {
  count : length l.self.nodes ≡ length l.fn.self.nodes;
  profile : l.self.profile ≡ l.fn.self.profile;
  same : stage l.self (g.F.Fabric.flight l.fabric) (g.F.Fabric.trace l.fabric) ≡ stage l.fn.self (g.F.Fabric.flight l.fn.fabric) (g.F.Fabric.trace l.fn.fabric);
  hears : KeepsLatest l.fn.self.hand (g.F.Fabric.latest l.fn.fabric) l.self.hand (g.F.Fabric.latest l.fabric);
  faults : g.F.Fabric.faults l.fabric ≡ g.F.Fabric.faults l.fn.fabric;
  none : AllByRecursion IsStuck (take l.k l.fn.self.nodes);
}
