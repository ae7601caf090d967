use Rattle.std.proofs.Common.{◌≡◌, ◌-◌, ◌∙◌, [], suc, false, ap, inr, sym, subst, arith, rules}
use Rattle.hpx_journal.specs.Entries.{Rules}
use Rattle.hpx_journal.specs.Weights.{Book, HasRoom}
use Rattle.hpx_steps.specs.Limits.{IsWithin}
use Rattle.hpx_steps.specs.Rest.{rules_of}
use Rattle.hpx_ended.specs.Tally.{fresh, waits}
use Rattle.hpx_member.specs.Seats.{IsPart, Tells}
use Rattle.hpx_member.specs.Serves.{IsIdleBehind}
use Rattle.hpx_member.proofs.Ended.{tells_none}
use Rattle.hpx_member.proofs.Halted.{asked_end, asked_unbooted, due_end, lines_end, part_halted, rest_end, served_end, tells_halted}
use Rattle.hpx_member.proofs.Led.{leads_first, waits_fresh}
use Rattle.hpx_member.proofs.Seated.{sits_first}
use Rattle.hpx_member.proofs.Serving.{serves_first}
use Rattle.hpx_member.proofs.Whys.{calm_halted, failed_halted, fault_halted, faultless_halted, full_halted, node_halted, status_halted}
use Rattle.hpx_member.specs.Leads.{HasLineToFeed, IsConsolesStatus, IsNoFrame, halted_status}
use Rattle.hpx_member.specs.Seats.{IsNodeAt}
use Rattle.hpx_member.specs.Stops.{IsFaultBy, IsTurnDue, status_of_fault}
use Rattle.hpx_ports.specs.Faults.{Rose}
use Rattle.std.specs.Prelude.{IfSome, ◌⊎◌}
use Rattle.hpx_member.proofs.console.console.Goals as goal

-- at boot nothing is under way
idle_boot : (r : Rules) → IsIdleBehind r []
idle_boot r = λ clean. search rules

pub returns-in-Err-clause-tells : goal.returns-in-Err-clause-tells
returns-in-Err-clause-tells g c = λ tr told.
    tells_none _ _ _ _ _ c.unbooted.ensures.journal (c.requires.empty tr (sym (ap g.L.Link.trace c.unbooted.ensures.link) ∙ told))

pub returns-in-Err-clause-asked : goal.returns-in-Err-clause-asked
returns-in-Err-clause-asked g c =
    asked_unbooted _ _ _ _ _ _ c.unbooted.ensures.status c.unbooted.ensures.fault c.unbooted.ensures.journal
    (λ tr told. c.requires.empty tr (sym (ap g.L.Link.trace c.unbooted.ensures.link) ∙ told))

pub returns-in-Err-boot-clause-tells : goal.returns-in-Err-boot-clause-tells
returns-in-Err-boot-clause-tells g c = λ tr told.
    tells_none _ _ _ _ _ c.unbooted-in-Err-boot.ensures.journal (c.requires.empty tr (sym (ap g.L.Link.trace c.unbooted-in-Err-boot.ensures.link) ∙ told))

pub returns-in-Err-boot-clause-asked : goal.returns-in-Err-boot-clause-asked
returns-in-Err-boot-clause-asked g c =
    asked_unbooted _ _ _ _ _ _ c.unbooted-in-Err-boot.ensures.status c.unbooted-in-Err-boot.ensures.fault
    c.unbooted-in-Err-boot.ensures.journal
    (λ tr told. c.requires.empty tr (sym (ap g.L.Link.trace c.unbooted-in-Err-boot.ensures.link) ∙ told))

pub run-ran-requires-clause-next : goal.run-ran-requires-clause-next
run-ran-requires-clause-next g c = subst (λ t. waits t ≡ false) (sym c.in-Ok.ensures) (waits_fresh c.localities-members.result)

pub run-ran-requires-clause-leads : goal.run-ran-requires-clause-leads
run-ran-requires-clause-leads g c =
    let members : c.in-Ok-boot.node.tables.localities ≡ suc (c.localities-members.result - 1) =
    omega (arith, c.in-Ok-boot.ensures.localities, c.localities-members.ensures, c.requires.some) in
    let within : IsWithin [] = record { entries = omega arith; weight = omega arith } in
    leads_first g.A.Acts.act_of _ _ _ _ _ _ c.in-Ok-boot.ensures.here members
    (sits_first g.A.Acts.act_of _ _ _ c.in-Ok-boot.ensures.stands within c.in-Ok-boot.ensures.passive c.requires.empty c.new-2.ensures)
    c.new-2.ensures c.requires.empty
    (c.in-Ok.ensures ∙ ap fresh (c.localities-members.ensures ∙ sym c.in-Ok-boot.ensures.localities))

pub returns-clause-journal : goal.returns-clause-journal
returns-clause-journal g c =
    let ran = c.run-ran.new.self.seat in
    subst (λ (b : Book). IsPart (rules_of g.A.Acts.act_of (g.A.Acts.count c.args.acts) c.args.profile) 0 b.entries) (sym c.halted.ensures.journal)
    (part_halted g.A.Acts.act_of (g.A.Acts.count c.args.acts) c.args.profile ran.node.tables ran.book.entries (g.L.Link.trace ran.link)
    (c.run-ran.ensures.site.here ∙ c.in-Ok-boot.ensures.here) (c.run-ran.ensures.site.localities ∙ c.in-Ok-boot.ensures.localities)
    (c.run-ran.ensures.site.profile ∙ c.in-Ok-boot.ensures.profile)
    c.run-ran.new.self.settles c.run-ran.result c.run-ran.ensures.sits c.run-ran.ensures.left)

pub returns-clause-tells : goal.returns-clause-tells
returns-clause-tells g c = λ tr told.
    let ran = c.run-ran.new.self.seat in
    subst (λ (b : Book). Tells (rules_of g.A.Acts.act_of (g.A.Acts.count c.args.acts) c.args.profile) 0 c.halted.result.status b.entries tr) (sym c.halted.ensures.journal)
    (subst (λ s. Tells (rules_of g.A.Acts.act_of (g.A.Acts.count c.args.acts) c.args.profile) 0 s ran.book.entries tr) (sym c.halted.ensures.status)
    (tells_halted g.A.Acts.act_of (g.A.Acts.count c.args.acts) c.args.profile ran.node.tables ran.book.entries (g.L.Link.trace ran.link)
    (c.run-ran.ensures.site.here ∙ c.in-Ok-boot.ensures.here) (c.run-ran.ensures.site.localities ∙ c.in-Ok-boot.ensures.localities)
    (c.run-ran.ensures.site.profile ∙ c.in-Ok-boot.ensures.profile)
    c.run-ran.new.self.settles c.run-ran.result c.run-ran.ensures.sits c.run-ran.ensures.left tr (sym (ap g.L.Link.trace c.halted.ensures.link) ∙ told)))

pub returns-clause-asked : goal.returns-clause-asked
returns-clause-asked g c =
    let ran = c.run-ran.new.self.seat in
    let members : ran.node.tables.localities ≡ suc c.run-ran.new.self.others =
    omega (arith, c.run-ran.ensures.site.localities, c.in-Ok-boot.ensures.localities, c.localities-members.ensures, c.requires.some, c.run-ran.ensures.same.0) in
    asked_end g.A.Acts.act_of (g.A.Acts.count c.args.acts) c.args.profile ran.node.tables ran.book.entries (g.L.Link.trace ran.link)
    (c.run-ran.ensures.site.here ∙ c.in-Ok-boot.ensures.here) (c.run-ran.ensures.site.localities ∙ c.in-Ok-boot.ensures.localities)
    (c.run-ran.ensures.site.profile ∙ c.in-Ok-boot.ensures.profile)
    c.run-ran.result c.run-ran.new.self.settles c.args.settles c.run-ran.new.self.others _ _ _ _ members c.run-ran.ensures.asks c.run-ran.ensures.left
    c.run-ran.ensures.same.1 c.halted.ensures.status c.halted.ensures.fault (ap (λ (b : Book). b.entries) c.halted.ensures.journal)
    (ap g.L.Link.trace c.halted.ensures.link)

pub returns-clause-served : goal.returns-clause-served
returns-clause-served g c =
    let ran = c.run-ran.new.self.seat in
    let first = serves_first (rules_of g.A.Acts.act_of c.in-Ok-boot.node.tables.localities c.in-Ok-boot.node.tables.profile) c.new-2.result.entries
    (g.I.Lines.went c.args.lines.now c.args.lines.now) c.new-2.ensures c.requires.first
    (idle_boot (rules_of g.A.Acts.act_of c.in-Ok-boot.node.tables.localities c.in-Ok-boot.node.tables.profile)) in
    served_end g.A.Acts.act_of (g.A.Acts.count c.args.acts) c.args.profile ran.node.tables ran.book.entries (g.L.Link.trace ran.link)
    (c.run-ran.ensures.site.here ∙ c.in-Ok-boot.ensures.here) (c.run-ran.ensures.site.localities ∙ c.in-Ok-boot.ensures.localities)
    (c.run-ran.ensures.site.profile ∙ c.in-Ok-boot.ensures.profile)
    c.run-ran.result (g.L.Link.latest ran.link) (g.I.Lines.went c.args.lines.now c.run-ran.new.lines) (g.I.Lines.broke c.args.lines.now c.run-ran.new.lines) _ _
    (c.run-ran.ensures.serves c.args.lines.now first) (c.run-ran.ensures.broken c.args.lines.now first) c.halted.ensures.status
    (ap (λ (b : Book). b.entries) c.halted.ensures.journal)

pub returns-clause-rest : goal.returns-clause-rest
returns-clause-rest g c =
    let ran = c.run-ran.new.self.seat in
    rest_end g.A.Acts.act_of (g.A.Acts.count c.args.acts) c.args.profile ran.node.tables ran.book.entries (g.L.Link.trace ran.link)
    (c.run-ran.ensures.site.here ∙ c.in-Ok-boot.ensures.here) (c.run-ran.ensures.site.localities ∙ c.in-Ok-boot.ensures.localities)
    (c.run-ran.ensures.site.profile ∙ c.in-Ok-boot.ensures.profile)
    c.run-ran.result _ _ c.run-ran.ensures.sits c.run-ran.ensures.ready c.halted.ensures.status (ap (λ (b : Book). b.entries) c.halted.ensures.journal)

pub returns-clause-lines : goal.returns-clause-lines
returns-clause-lines g c =
    let ran = c.run-ran.new.self.seat in
    lines_end c.run-ran.result ran.node.tables ran.book.entries (g.L.Link.latest ran.link) _ _ _ _ _ (g.L.Link.faults c.args.link)
    (g.L.Link.faults ran.link) _ c.run-ran.ensures.calm c.run-ran.ensures.stops c.halted.ensures.status

pub returns-clause-node : goal.returns-clause-node
returns-clause-node g c =
    let ran = c.run-ran.new.self.seat in
    subst (λ m. IfSome m (λ n. IsNodeAt g.A.Acts.act_of 0 (g.A.Acts.count c.args.acts) c.args.profile n.tables c.halted.result.journal.entries)) (sym c.halted.ensures.node)
    (subst (λ (b : Book). IsNodeAt g.A.Acts.act_of 0 (g.A.Acts.count c.args.acts) c.args.profile ran.node.tables b.entries) (sym c.halted.ensures.journal)
    (node_halted g.A.Acts.act_of 0 (g.A.Acts.count c.args.acts) c.args.profile ran.node.tables ran.book.entries (g.L.Link.trace ran.link)
    (c.run-ran.ensures.site.here ∙ c.in-Ok-boot.ensures.here) (c.run-ran.ensures.site.localities ∙ c.in-Ok-boot.ensures.localities)
    (c.run-ran.ensures.site.profile ∙ c.in-Ok-boot.ensures.profile) c.run-ran.new.self.settles c.run-ran.result c.run-ran.ensures.sits c.run-ran.ensures.left))

pub returns-clause-failed : goal.returns-clause-failed
returns-clause-failed g c = λ e.
    let ran = c.run-ran.new.self.seat in
    subst (λ l. Rose (g.L.Link.faults c.args.link) (g.L.Link.faults l)) (sym c.halted.ensures.link)
    (failed_halted ran.node.tables ran.book.entries (g.L.Link.latest ran.link) _ _ _ _ _ (g.L.Link.faults c.args.link) (g.L.Link.faults ran.link)
    c.run-ran.result c.run-ran.ensures.stops (sym c.halted.ensures.status ∙ e))

pub returns-clause-calm : goal.returns-clause-calm
returns-clause-calm g c = λ other.
    let ran = c.run-ran.new.self.seat in
    subst (λ l. g.L.Link.faults l ≡ g.L.Link.faults c.args.link) (sym c.halted.ensures.link)
    (calm_halted ran.node.tables ran.book.entries (g.L.Link.latest ran.link) _ _ _ _ _ (g.L.Link.faults c.args.link) (g.L.Link.faults ran.link)
    c.run-ran.result c.run-ran.ensures.calm c.run-ran.ensures.stops (λ e. other (c.halted.ensures.status ∙ e)))

pub returns-clause-full : goal.returns-clause-full
returns-clause-full g c = λ e room.
    let ran = c.run-ran.new.self.seat in
    full_halted ran.node.tables ran.book.entries (g.L.Link.latest ran.link) _ _ _ _ _ (g.L.Link.faults c.args.link) (g.L.Link.faults ran.link)
    c.run-ran.result c.run-ran.ensures.stops (sym c.halted.ensures.status ∙ e) (subst (λ (b : Book). HasRoom b.entries) c.halted.ensures.journal room)

pub returns-clause-due : goal.returns-clause-due
returns-clause-due g c = λ e.
    let ran = c.run-ran.new.self.seat in
    let first = serves_first (rules_of g.A.Acts.act_of c.in-Ok-boot.node.tables.localities c.in-Ok-boot.node.tables.profile) c.new-2.result.entries
    (g.I.Lines.went c.args.lines.now c.args.lines.now) c.new-2.ensures c.requires.first
    (idle_boot (rules_of g.A.Acts.act_of c.in-Ok-boot.node.tables.localities c.in-Ok-boot.node.tables.profile)) in
    subst (λ m. HasLineToFeed (rules_of g.A.Acts.act_of (g.A.Acts.count c.args.acts) c.args.profile) c.halted.result.journal.entries (g.I.Lines.went c.args.lines.now c.run-ran.new.lines)
    ⊎ IfSome m (λ n. IsTurnDue n.tables (g.L.Link.latest c.halted.result.link))) (sym c.halted.ensures.node)
    (due_end g.A.Acts.act_of (g.A.Acts.count c.args.acts) c.args.profile ran.node.tables ran.book.entries (g.L.Link.trace ran.link)
    (c.run-ran.ensures.site.here ∙ c.in-Ok-boot.ensures.here) (c.run-ran.ensures.site.localities ∙ c.in-Ok-boot.ensures.localities)
    (c.run-ran.ensures.site.profile ∙ c.in-Ok-boot.ensures.profile)
    c.run-ran.result (g.L.Link.latest ran.link) (g.I.Lines.went c.args.lines.now c.run-ran.new.lines) (g.I.Lines.broke c.args.lines.now c.run-ran.new.lines) _ _ _
    (c.run-ran.ensures.broken c.args.lines.now first) c.halted.ensures.status (ap (λ (b : Book). b.entries) c.halted.ensures.journal)
    (ap g.L.Link.latest c.halted.ensures.link) e)

pub returns-clause-fault : goal.returns-clause-fault
returns-clause-fault g c =
    let ran = c.run-ran.new.self.seat in
    subst (λ l. IfSome c.halted.result.fault (λ fault. (c.halted.result.status ≡ status_of_fault fault) × IfSome c.halted.result.node (λ n. IsFaultBy IsNoFrame n.tables (g.L.Link.latest l) fault))) (sym c.halted.ensures.link)
    (subst (λ m. IfSome c.halted.result.fault (λ fault. (c.halted.result.status ≡ status_of_fault fault) × IfSome m (λ n. IsFaultBy IsNoFrame n.tables (g.L.Link.latest ran.link) fault))) (sym c.halted.ensures.node)
    (subst (λ s. IfSome c.halted.result.fault (λ fault. (s ≡ status_of_fault fault) × IsFaultBy IsNoFrame ran.node.tables (g.L.Link.latest ran.link) fault)) (sym c.halted.ensures.status)
    (subst (λ f. IfSome f (λ fault. (halted_status c.run-ran.result ≡ status_of_fault fault) × IsFaultBy IsNoFrame ran.node.tables (g.L.Link.latest ran.link) fault)) (sym c.halted.ensures.fault)
    (fault_halted ran.node.tables ran.book.entries (g.L.Link.latest ran.link) _ _ _ _ _ (g.L.Link.faults c.args.link) (g.L.Link.faults ran.link) c.run-ran.result c.run-ran.ensures.stops))))

pub returns-clause-faultless : goal.returns-clause-faultless
returns-clause-faultless g c = λ none.
    let f = faultless_halted c.run-ran.result (sym c.halted.ensures.fault ∙ none) in
    (λ e. f.0 (sym c.halted.ensures.status ∙ e), λ e. f.1 (sym c.halted.ensures.status ∙ e))

pub returns-in-Err-clause-ends : goal.returns-in-Err-clause-ends
returns-in-Err-clause-ends g c = subst IsConsolesStatus (sym c.unbooted.ensures.status) (inr (omega arith, omega arith))

pub returns-in-Err-boot-clause-ends : goal.returns-in-Err-boot-clause-ends
returns-in-Err-boot-clause-ends g c = subst IsConsolesStatus (sym c.unbooted-in-Err-boot.ensures.status) (inr (omega arith, omega arith))

pub returns-clause-ends : goal.returns-clause-ends
returns-clause-ends g c = subst IsConsolesStatus (sym c.halted.ensures.status) (status_halted c.run-ran.result)
