use Rattle.std.proofs.Common.{◌≡◌, ◌-◌, length}
use Rattle.hpx_world.specs.Away.{IsCarrying}
use Rattle.hpx_world.specs.Places.{rules_in}
use Rattle.hpx_world.specs.Quiet.{NoneRuns}
use Rattle.hpx_world.specs.Heard.{KeepsLatest}
use Rattle.hpx_world.specs.Stages.{stage}
use Rattle.hpx_world.specs.Steps.{IsUnfed, Goes}
use Rattle.hpx_world.proofs.world.World.drain.Given as goal

-- each step so far kept what all localities keep
abbrev pub invariant-loop : goal.invariant-loop
invariant-loop g l = record {
  count : length l.self.nodes ≡ length l.fn.self.nodes;
  profile : l.self.profile ≡ l.fn.self.profile;
  goes : Goes g.A.Acts.act_of (stage l.fn.self (g.F.Fabric.flight l.fn.fabric) (g.F.Fabric.trace l.fn.fabric)) (stage l.self (g.F.Fabric.flight l.fabric) (g.F.Fabric.trace l.fabric));
  hears : KeepsLatest l.fn.self.hand (g.F.Fabric.latest l.fn.fabric) l.self.hand (g.F.Fabric.latest l.fabric);
  faults : g.F.Fabric.faults l.fabric ≡ g.F.Fabric.faults l.fn.fabric;
  unfed : IsUnfed l.fn.self.journal.entries l.self.journal.entries;
  jobs : NoneRuns l.fn.self.nodes → NoneRuns l.self.nodes;
  carrying : IsCarrying (rules_in g.A.Acts.act_of l.fn.self) l.fn.self.hand (g.F.Fabric.flight l.fn.fabric) (g.F.Fabric.trace l.fn.fabric) l.fn.self.journal.entries
      → IsCarrying (rules_in g.A.Acts.act_of l.fn.self) l.self.hand (g.F.Fabric.flight l.fabric) (g.F.Fabric.trace l.fabric) l.self.journal.entries;
}

-- how many entries may still come
abbrev pub decreases-loop : goal.decreases-loop
decreases-loop g l = 2097152 - length l.self.journal.entries
