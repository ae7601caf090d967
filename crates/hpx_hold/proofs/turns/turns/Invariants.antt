use Rattle.std.proofs.Common.{◌≡◌, length}
use Rattle.hpx_world.specs.Away.{IsCarrying}
use Rattle.hpx_world.specs.Heard.{KeepsLatest}
use Rattle.hpx_world.specs.Places.{rules_in}
use Rattle.hpx_world.specs.Quiet.{NoneRuns}
use Rattle.hpx_world.specs.Stages.{stage}
use Rattle.hpx_world.specs.Steps.{IsUnfed}
use Rattle.hpx_hold.proofs.Turned.{StepsTo}
use Rattle.hpx_hold.proofs.turns.turns.Given as goal

-- so many steps were made so far
abbrev pub invariant-loop-made : goal.invariant-loop-made
invariant-loop-made g l = record {
  count : length l.world.nodes ≡ length l.fn.world.nodes;
  profile : l.world.profile ≡ l.fn.world.profile;
  goes : StepsTo g.A.Acts.act_of l.made (stage l.fn.world (g.F.Fabric.flight l.fn.fabric) (g.F.Fabric.trace l.fn.fabric)) (stage l.world (g.F.Fabric.flight l.fabric) (g.F.Fabric.trace l.fabric));
  hears : KeepsLatest l.fn.world.hand (g.F.Fabric.latest l.fn.fabric) l.world.hand (g.F.Fabric.latest l.fabric);
  faults : g.F.Fabric.faults l.fabric ≡ g.F.Fabric.faults l.fn.fabric;
  unfed : IsUnfed l.fn.world.journal.entries l.world.journal.entries;
  jobs : NoneRuns l.fn.world.nodes → NoneRuns l.world.nodes;
  carrying : IsCarrying (rules_in g.A.Acts.act_of l.fn.world) l.fn.world.hand (g.F.Fabric.flight l.fn.fabric) (g.F.Fabric.trace l.fn.fabric) l.fn.world.journal.entries
      → IsCarrying (rules_in g.A.Acts.act_of l.fn.world) l.world.hand (g.F.Fabric.flight l.fabric) (g.F.Fabric.trace l.fabric) l.world.journal.entries;
}
