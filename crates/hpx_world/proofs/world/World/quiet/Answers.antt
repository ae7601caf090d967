use Rattle.std.proofs.Common.{length, Bool, true, false, ◌≡◌, IsTrue, refl}
use Rattle.hpx_node.specs.Locality.{tables_of}
use Rattle.hpx_world.proofs.Rested.{quiet_rests}
use Rattle.hpx_world.proofs.Sound.{spells_well}
use Rattle.hpx_world.proofs.world.World.quiet.Goals as goal

truth : (b : Bool) → b ≡ true → IsTrue b
truth true h = refl
truth false h = cc

pub returns-clause-rest : goal.returns-clause-rest
returns-clause-rest g c = rw (← c.self.view_is) (λ carried h.
    quiet_rests g.A.Acts.act_of c.self.inside.locals.profile (tables_of c.self.inside.locals.nodes.items) c.self.inside.locals.journal.entries c.self.invariant.1
    (spells_well g.A.Acts.act_of (length (tables_of c.self.inside.locals.nodes.items)) c.self.inside.locals.profile) carried c.self.inside.locals.hand (c.quiet.ensures.0 (truth _ h)))
