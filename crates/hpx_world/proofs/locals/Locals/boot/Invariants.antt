use Rattle.std.proofs.Common.{◌≡◌, length}
use Rattle.hpx_node.specs.Locality.{tables_of}
use Rattle.hpx_world.specs.Quiet.{NoneRuns}
use Rattle.hpx_world.proofs.Booted.{AreBooted, AreIdle}
use Rattle.hpx_world.proofs.locals.Locals.boot.Given as goal

-- the nodes so far are at boot
abbrev pub invariant-loop-k : goal.invariant-loop-k
invariant-loop-k g l = record {
  count : length (tables_of l.nodes.items) ≡ l.k;
  booted : AreBooted g.A.Acts.act_of l.profile (g.A.Acts.count l.acts) (tables_of l.nodes.items);
  none : NoneRuns (tables_of l.nodes.items);
  idle : AreIdle (tables_of l.nodes.items);
}
