use Rattle.std.proofs.Common.{◌≡◌, ◌-◌, length}
use Rattle.hpx_world.specs.Away.{IsCarrying}
use Rattle.hpx_world.specs.Heard.{KeepsLatest}
use Rattle.hpx_world.specs.Places.{rules_in}
use Rattle.hpx_world.specs.Quiet.{NoneRuns}
use Rattle.hpx_world.specs.Stages.{stage}
use Rattle.hpx_world.specs.Steps.{IsUnfed}
use Rattle.hpx_hold.specs.Home.{GrowsAtHome}
use Rattle.hpx_hold.proofs.Turning.{HomeTo}
use Rattle.hpx_hold.proofs.home.stay_home.Given as goal

-- each turn so far was made at home
abbrev pub invariant-loop : goal.invariant-loop
invariant-loop g l = record {
  count : length l.world.nodes ≡ length l.fn.world.nodes;
  profile : l.world.profile ≡ l.fn.world.profile;
  apart : l.fabric ≡ l.fn.fabric;
  hears : KeepsLatest l.fn.world.hand (g.F.Fabric.latest l.fn.fabric) l.world.hand (g.F.Fabric.latest l.fabric);
  goes : HomeTo g.A.Acts.act_of (stage l.fn.world (g.F.Fabric.flight l.fn.fabric) (g.F.Fabric.trace l.fn.fabric)) (stage l.world (g.F.Fabric.flight l.fabric) (g.F.Fabric.trace l.fabric));
  home : GrowsAtHome l.fn.world.journal.entries l.world.journal.entries;
  unfed : IsUnfed l.fn.world.journal.entries l.world.journal.entries;
  jobs : NoneRuns l.fn.world.nodes → NoneRuns l.world.nodes;
  carrying : IsCarrying (rules_in g.A.Acts.act_of l.fn.world) l.fn.world.hand (g.F.Fabric.flight l.fn.fabric) (g.F.Fabric.trace l.fn.fabric) l.fn.world.journal.entries
      → IsCarrying (rules_in g.A.Acts.act_of l.fn.world) l.world.hand (g.F.Fabric.flight l.fabric) (g.F.Fabric.trace l.fabric) l.world.journal.entries;
}

-- how many entries may still come
abbrev pub decreases-loop : goal.decreases-loop
decreases-loop g l = 2097152 - length l.world.journal.entries
