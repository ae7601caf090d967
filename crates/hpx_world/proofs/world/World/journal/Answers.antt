use Rattle.std.proofs.Common.{length}
use Rattle.hpx_node.specs.Locality.{tables_of}
use Rattle.hpx_world.proofs.Promised.{promised}
use Rattle.hpx_world.proofs.Sound.{spells_well}
use Rattle.hpx_world.proofs.world.World.journal.Goals as goal

pub returns-clause-promises : goal.returns-clause-promises
returns-clause-promises g c = rw (← c.self.view_is) (λ carried.
    let sound = c.self.invariant.1 in
    promised g.A.Acts.act_of c.self.inside.locals.profile (tables_of c.self.inside.locals.nodes.items) c.self.inside.locals.journal.entries c.self.invariant.1
    (spells_well g.A.Acts.act_of (length (tables_of c.self.inside.locals.nodes.items)) c.self.inside.locals.profile)
    (record { laws = λ kind here s a h state act. g.met.A.Acts.keeps_laws _ kind here s a sound.some sound.few h state act }) carried)
