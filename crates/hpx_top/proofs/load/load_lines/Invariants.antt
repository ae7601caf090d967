use Rattle.std.proofs.Common.{length, ◌≡◌}
use Rattle.hpx_journal.specs.Weights.{HasRoom}
use Rattle.hpx_world.specs.Heard.{KeepsLatest}
use Rattle.hpx_top.specs.Loaded.{IsLoading}
use Rattle.hpx_top.specs.Session.{rules, Carries, IsRested}
use Rattle.hpx_top.proofs.load.load_lines.Given as goal

-- the lines that were handed out were fed and counted, and nothing is under way
abbrev pub invariant-lines : goal.invariant-lines
invariant-lines g l = record {
  loading : IsLoading (rules l.fn.world) l.fn.load l.session l.world.journal.entries l.tally;
  rest : IsRested l.world;
  carrying : Carries l.fn.world (g.F.Fabric.flight l.fn.fabric) (g.F.Fabric.trace l.fn.fabric) → Carries l.world (g.F.Fabric.flight l.fabric) (g.F.Fabric.trace l.fabric);
  hears : KeepsLatest l.fn.world.hand (g.F.Fabric.latest l.fn.fabric) l.world.hand (g.F.Fabric.latest l.fabric);
  count : length l.world.nodes ≡ length l.fn.world.nodes;
  profile : l.world.profile ≡ l.fn.world.profile;
  room : HasRoom l.world.journal.entries;
  stands : g.F.Fabric.faults l.fabric ≡ g.F.Fabric.faults l.fn.fabric;
}

abbrev pub decreases-lines : goal.decreases-lines
decreases-lines g l = length l.session
