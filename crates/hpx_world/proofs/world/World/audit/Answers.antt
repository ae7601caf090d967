use Rattle.hpx_journal.specs.Laws.{KeepsActLaws}
use Rattle.std.proofs.Common.{length}
use Rattle.hpx_steps.specs.Rest.{rules_of}
use Rattle.hpx_node.specs.Locality.{tables_of}
use Rattle.hpx_world.specs.Audit.{audit_lines, HaveRecords, AreOrdered, StandWhereTold, IsAudit}
use Rattle.hpx_world.proofs.Audited.{audited, audited_ok}
use Rattle.hpx_world.proofs.Ordered.{ordered}
use Rattle.hpx_world.proofs.Promised.{promised}
use Rattle.hpx_world.proofs.Sound.{spells_well}
use Rattle.hpx_world.proofs.WhereTold.{where_told}
use Rattle.hpx_world.proofs.world.World.audit.Goals as goal

pub returns-clause-tells : goal.returns-clause-tells
returns-clause-tells g c = rw (← c.self.view_is) (λ carried.
    let nodes = (tables_of c.self.inside.locals.nodes.items) in
    let profile = c.self.inside.locals.profile in
    let entries = c.self.inside.locals.journal.entries in
    let r = rules_of g.A.Acts.act_of (length nodes) profile in
    audited_ok c.audit.result (HaveRecords nodes) (IsAudit r entries) (audit_lines nodes) c.audit.ensures.lines c.audit.ensures.records
    (λ own. audited g.A.Acts.act_of profile nodes entries c.self.invariant.1
    (spells_well g.A.Acts.act_of (length nodes) profile) carried c.self.invariant.2 own))

pub returns-clause-ordered : goal.returns-clause-ordered
returns-clause-ordered g c =
    let nodes = (tables_of c.self.inside.locals.nodes.items) in
    audited_ok c.audit.result (HaveRecords nodes) (λ lines. AreOrdered lines) (audit_lines nodes) c.audit.ensures.lines c.audit.ensures.records
    (λ own. ordered nodes own (λ k t at. (c.self.invariant.1.stand k t at).here))

pub returns-clause-stand : goal.returns-clause-stand
returns-clause-stand g c = rw (← c.self.view_is) (λ carried quiet.
    let sound = c.self.invariant.1 in
    let nodes = (tables_of c.self.inside.locals.nodes.items) in
    let profile = c.self.inside.locals.profile in
    let entries = c.self.inside.locals.journal.entries in
    let r = rules_of g.A.Acts.act_of (length nodes) profile in
    let laws : KeepsActLaws (rules_of g.A.Acts.act_of (length (tables_of c.self.inside.locals.nodes.items)) c.self.inside.locals.profile) =
    record { laws = λ kind here s a h state act. g.met.A.Acts.keeps_laws _ kind here s a sound.some sound.few h state act } in
    audited_ok c.audit.result (HaveRecords nodes) (StandWhereTold r entries) (audit_lines nodes) c.audit.ensures.lines c.audit.ensures.records
    (λ own. where_told g.A.Acts.act_of profile nodes entries c.self.invariant.1 laws carried c.self.inside.locals.hand quiet own))
