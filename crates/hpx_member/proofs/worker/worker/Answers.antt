use Rattle.std.proofs.Common.{ap, arith, inr, sym, ◌∙◌, subst}
use Rattle.hpx_journal.specs.Weights.{Book, HasRoom}
use Rattle.hpx_steps.specs.Rest.{rules_of}
use Rattle.hpx_member.specs.Seats.{IsPart, Tells}
use Rattle.hpx_member.specs.Words.{Heeds}
use Rattle.hpx_member.proofs.Ended.{part_ran, tells_none, tells_ran}
use Rattle.hpx_member.proofs.Heeded.{heeds_ran}
use Rattle.hpx_member.proofs.Whys.{calm_ran, due_ran, end_ran, failed_ran, fault_ran, faultless_ran, full_ran, node_ran, status_ran}
use Rattle.hpx_member.specs.Bodies.{end_body}
use Rattle.hpx_member.specs.Seats.{IsNodeAt}
use Rattle.hpx_member.specs.Stops.{IsFault, IsTurnDue, IsWorkersStatus, end_status, status_of_fault}
use Rattle.hpx_ports.specs.Faults.{Rose}
use Rattle.hpx_ports.specs.declared.link.Latest.TheVariants.{Got}
use Rattle.std.specs.Prelude.{IfSome, ◌≡◌}
use Rattle.hpx_member.proofs.worker.worker.Goals as goal

pub returns-in-Err-clause-tells : goal.returns-in-Err-clause-tells
returns-in-Err-clause-tells g c = λ tr told.
    tells_none _ _ _ _ _ c.unbooted.ensures.journal (c.requires.empty tr (sym (ap g.L.Link.trace c.unbooted.ensures.link) ∙ told))

pub returns-clause-journal : goal.returns-clause-journal
returns-clause-journal g c =
    let ran = c.run-ran.new.self.seat in
    subst (λ (b : Book). IsPart (rules_of g.A.Acts.act_of (g.A.Acts.count c.args.acts) c.args.profile) c.args.here b.entries) (sym c.ended.ensures.journal)
    (part_ran g.A.Acts.act_of c.args.here (g.A.Acts.count c.args.acts) c.args.profile ran.node.tables ran.book.entries (g.L.Link.trace ran.link)
    (c.run-ran.ensures.site.here ∙ c.in-Ok.ensures.here) (c.run-ran.ensures.site.localities ∙ c.in-Ok.ensures.localities)
    (c.run-ran.ensures.site.profile ∙ c.in-Ok.ensures.profile) c.run-ran.result c.run-ran.ensures.sits c.run-ran.ensures.left)

pub returns-clause-tells : goal.returns-clause-tells
returns-clause-tells g c = λ tr told.
    let ran = c.run-ran.new.self.seat in
    subst (λ (b : Book). Tells (rules_of g.A.Acts.act_of (g.A.Acts.count c.args.acts) c.args.profile) c.args.here c.ended.result.status b.entries tr) (sym c.ended.ensures.journal)
    (subst (λ s. Tells (rules_of g.A.Acts.act_of (g.A.Acts.count c.args.acts) c.args.profile) c.args.here s ran.book.entries tr) (sym c.ended.ensures.status)
    (tells_ran g.A.Acts.act_of c.args.here (g.A.Acts.count c.args.acts) c.args.profile ran.node.tables ran.book.entries (g.L.Link.trace ran.link)
    (c.run-ran.ensures.site.here ∙ c.in-Ok.ensures.here) (c.run-ran.ensures.site.localities ∙ c.in-Ok.ensures.localities)
    (c.run-ran.ensures.site.profile ∙ c.in-Ok.ensures.profile) c.run-ran.result c.run-ran.ensures.sits c.run-ran.ensures.left tr
    (sym (ap g.L.Link.trace c.ended.ensures.link) ∙ told)))

pub returns-clause-heeds : goal.returns-clause-heeds
returns-clause-heeds g c = λ tr told.
    subst (λ s. Heeds s tr) (sym c.ended.ensures.status)
    (heeds_ran c.run-ran.result _ tr c.run-ran.ensures.ended c.run-ran.ensures.stopped (sym (ap g.L.Link.trace c.ended.ensures.link) ∙ told))

pub returns-clause-node : goal.returns-clause-node
returns-clause-node g c =
    let ran = c.run-ran.new.self.seat in
    subst (λ m. IfSome m (λ n. IsNodeAt g.A.Acts.act_of c.args.here (g.A.Acts.count c.args.acts) c.args.profile n.tables c.ended.result.journal.entries)) (sym c.ended.ensures.node)
    (subst (λ (b : Book). IsNodeAt g.A.Acts.act_of c.args.here (g.A.Acts.count c.args.acts) c.args.profile ran.node.tables b.entries) (sym c.ended.ensures.journal)
    (node_ran g.A.Acts.act_of c.args.here (g.A.Acts.count c.args.acts) c.args.profile ran.node.tables ran.book.entries (g.L.Link.trace ran.link)
    (c.run-ran.ensures.site.here ∙ c.in-Ok.ensures.here) (c.run-ran.ensures.site.localities ∙ c.in-Ok.ensures.localities)
    (c.run-ran.ensures.site.profile ∙ c.in-Ok.ensures.profile) c.run-ran.result c.run-ran.ensures.sits c.run-ran.ensures.left))

pub returns-clause-end : goal.returns-clause-end
returns-clause-end g c = λ e.
    let ran = c.run-ran.new.self.seat in
    subst (λ l. g.L.Link.latest l ≡ Got 0 end_body) (sym c.ended.ensures.link)
    (end_ran c.run-ran.result (g.L.Link.latest ran.link ≡ Got 0 end_body) c.run-ran.ensures.end (sym c.ended.ensures.status ∙ e))

pub returns-clause-failed : goal.returns-clause-failed
returns-clause-failed g c = λ e.
    let ran = c.run-ran.new.self.seat in
    subst (λ l. Rose (g.L.Link.faults c.args.link) (g.L.Link.faults l)) (sym c.ended.ensures.link)
    (failed_ran ran.node.tables ran.book.entries (g.L.Link.latest ran.link) (g.L.Link.faults c.args.link) (g.L.Link.faults ran.link)
    c.run-ran.result c.run-ran.ensures.stops (sym c.ended.ensures.status ∙ e))

pub returns-clause-calm : goal.returns-clause-calm
returns-clause-calm g c = λ other.
    let ran = c.run-ran.new.self.seat in
    subst (λ l. g.L.Link.faults l ≡ g.L.Link.faults c.args.link) (sym c.ended.ensures.link)
    (calm_ran ran.node.tables ran.book.entries (g.L.Link.latest ran.link) (g.L.Link.faults c.args.link) (g.L.Link.faults ran.link)
    c.run-ran.result c.run-ran.ensures.calm c.run-ran.ensures.stops (λ e. other (c.ended.ensures.status ∙ e)))

pub returns-clause-full : goal.returns-clause-full
returns-clause-full g c = λ e room.
    let ran = c.run-ran.new.self.seat in
    full_ran ran.node.tables ran.book.entries (g.L.Link.latest ran.link) (g.L.Link.faults c.args.link) (g.L.Link.faults ran.link)
    c.run-ran.result c.run-ran.ensures.stops (sym c.ended.ensures.status ∙ e) (subst (λ (b : Book). HasRoom b.entries) c.ended.ensures.journal room)

pub returns-clause-due : goal.returns-clause-due
returns-clause-due g c = λ e.
    let ran = c.run-ran.new.self.seat in
    subst (λ m. IfSome m (λ n. IsTurnDue n.tables (g.L.Link.latest c.ended.result.link))) (sym c.ended.ensures.node)
    (subst (λ l. IsTurnDue ran.node.tables (g.L.Link.latest l)) (sym c.ended.ensures.link)
    (due_ran ran.node.tables ran.book.entries (g.L.Link.latest ran.link) (g.L.Link.faults c.args.link) (g.L.Link.faults ran.link)
    c.run-ran.result c.run-ran.ensures.stops (sym c.ended.ensures.status ∙ e)))

pub returns-clause-fault : goal.returns-clause-fault
returns-clause-fault g c =
    let ran = c.run-ran.new.self.seat in
    subst (λ l. IfSome c.ended.result.fault (λ fault. (c.ended.result.status ≡ status_of_fault fault) × IfSome c.ended.result.node (λ n. IsFault n.tables (g.L.Link.latest l) fault))) (sym c.ended.ensures.link)
    (subst (λ m. IfSome c.ended.result.fault (λ fault. (c.ended.result.status ≡ status_of_fault fault) × IfSome m (λ n. IsFault n.tables (g.L.Link.latest ran.link) fault))) (sym c.ended.ensures.node)
    (subst (λ s. IfSome c.ended.result.fault (λ fault. (s ≡ status_of_fault fault) × IsFault ran.node.tables (g.L.Link.latest ran.link) fault)) (sym c.ended.ensures.status)
    (subst (λ f. IfSome f (λ fault. (end_status c.run-ran.result ≡ status_of_fault fault) × IsFault ran.node.tables (g.L.Link.latest ran.link) fault)) (sym c.ended.ensures.fault)
    (fault_ran ran.node.tables ran.book.entries (g.L.Link.latest ran.link) (g.L.Link.faults c.args.link) (g.L.Link.faults ran.link) c.run-ran.result c.run-ran.ensures.stops))))

pub returns-clause-faultless : goal.returns-clause-faultless
returns-clause-faultless g c = λ none.
    let f = faultless_ran c.run-ran.result (sym c.ended.ensures.fault ∙ none) in
    (λ e. f.0 (sym c.ended.ensures.status ∙ e), λ e. f.1 (sym c.ended.ensures.status ∙ e))

pub returns-in-Err-clause-ends : goal.returns-in-Err-clause-ends
returns-in-Err-clause-ends g c = subst IsWorkersStatus (sym c.unbooted.ensures.status) (inr (omega arith, omega arith))

pub returns-clause-ends : goal.returns-clause-ends
returns-clause-ends g c = subst IsWorkersStatus (sym c.ended.ensures.status) (status_ran c.run-ran.result)
