use Rattle.hpx_journal.specs.Laws.{KeepsActLaws}
use Rattle.std.proofs.Common.{length, subst}
use Rattle.hpx_journal.specs.Whole.{part}
use Rattle.hpx_steps.specs.Rest.{IsPaid, rules_of}
use Rattle.hpx_node.specs.Locality.{tables_of}
use Rattle.hpx_world.specs.Audit.{audit_lines}
use Rattle.hpx_world.proofs.Audited.{audited}
use Rattle.hpx_world.proofs.Ordered.{ordered}
use Rattle.hpx_world.proofs.Promised.{promised}
use Rattle.hpx_world.proofs.Rested.{quiet_rests}
use Rattle.hpx_world.proofs.Sound.{spells_well, told_all}
use Rattle.hpx_world.proofs.WhereTold.{where_told}
use Rattle.hpx_world.proofs.world.World.law.Goals as goal

pub returns-clause-promises : goal.returns-clause-promises
returns-clause-promises g c = rw (← c.self.view_is) (λ carried.
    let sound = c.self.invariant.1 in
    promised g.A.Acts.act_of c.self.inside.locals.profile (tables_of c.self.inside.locals.nodes.items) c.self.inside.locals.journal.entries c.self.invariant.1
    (spells_well g.A.Acts.act_of (length (tables_of c.self.inside.locals.nodes.items)) c.self.inside.locals.profile)
    (record { laws = λ kind here s a h state act. g.met.A.Acts.keeps_laws _ kind here s a sound.some sound.few h state act }) carried)

pub returns-clause-rest : goal.returns-clause-rest
returns-clause-rest g c = rw (← c.self.view_is) (λ carried quiet.
    quiet_rests g.A.Acts.act_of c.self.inside.locals.profile (tables_of c.self.inside.locals.nodes.items) c.self.inside.locals.journal.entries c.self.invariant.1
    (spells_well g.A.Acts.act_of (length (tables_of c.self.inside.locals.nodes.items)) c.self.inside.locals.profile) carried c.self.inside.locals.hand quiet)

pub returns-clause-ordered : goal.returns-clause-ordered
returns-clause-ordered g c = rw (← c.self.view_is) (
    ordered (tables_of c.self.inside.locals.nodes.items) c.records_law.ensures (λ k t at. (c.self.invariant.1.stand k t at).here))

pub returns-clause-audit : goal.returns-clause-audit
returns-clause-audit g c = rw (← c.self.view_is) (λ carried.
    audited g.A.Acts.act_of c.self.inside.locals.profile (tables_of c.self.inside.locals.nodes.items) c.self.inside.locals.journal.entries c.self.invariant.1
    (spells_well g.A.Acts.act_of (length (tables_of c.self.inside.locals.nodes.items)) c.self.inside.locals.profile) carried c.self.invariant.2 c.records_law.ensures)

pub returns-clause-paid : goal.returns-clause-paid
returns-clause-paid g c = rw (← c.self.view_is) (λ k t at.
    let nodes = (tables_of c.self.inside.locals.nodes.items) in
    let profile = c.self.inside.locals.profile in
    let entries = c.self.inside.locals.journal.entries in
    subst (λ j. IsPaid (rules_of g.A.Acts.act_of (length nodes) profile) t (part j entries)) (c.self.invariant.1.stand k t at).here
    (told_all g.A.Acts.act_of profile nodes entries c.self.invariant.1 k t at).stands.paid)

pub returns-clause-stands : goal.returns-clause-stands
returns-clause-stands g c = rw (← c.self.view_is) (λ k t at.
    told_all g.A.Acts.act_of c.self.inside.locals.profile (tables_of c.self.inside.locals.nodes.items) c.self.inside.locals.journal.entries c.self.invariant.1 k t at)

pub returns-clause-stand : goal.returns-clause-stand
returns-clause-stand g c = rw (← c.self.view_is) (λ carried quiet.
    let sound = c.self.invariant.1 in
    let nodes = (tables_of c.self.inside.locals.nodes.items) in
    let profile = c.self.inside.locals.profile in
    let entries = c.self.inside.locals.journal.entries in
    let laws : KeepsActLaws (rules_of g.A.Acts.act_of (length (tables_of c.self.inside.locals.nodes.items)) c.self.inside.locals.profile) =
    record { laws = λ kind here s a h state act. g.met.A.Acts.keeps_laws _ kind here s a sound.some sound.few h state act } in
    where_told g.A.Acts.act_of profile nodes entries c.self.invariant.1 laws carried c.self.inside.locals.hand quiet c.records_law.ensures)
