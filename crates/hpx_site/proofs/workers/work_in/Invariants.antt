use Rattle.hpx_site.specs.Seen.{seen}
use Rattle.hpx_site.proofs.workers.work_in.Given as goal

abbrev pub ghosts-work_on : goal.ghosts-work_on
ghosts-work_on g a =
    let world = a.lent.now.world in
    let fabric = a.lent.now.fabric in
    record {
      was = seen world.now (g.F.Fabric.flight fabric.now) (g.F.Fabric.trace fabric.now) (g.F.Fabric.faults fabric.now) (g.F.Fabric.latest fabric.now);
      lent = a.lent.ghost_name;
      world = world.ghost_name;
      fabric = fabric.ghost_name;
    }
