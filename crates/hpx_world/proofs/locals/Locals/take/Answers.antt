use Rattle.std.proofs.Common.{◌≡◌, None, Some, Err, length, refl, sym, ap, ◌∙◌, subst}
use Rattle.hpx_steps.specs.Rest.{rules_of}
use Rattle.hpx_node.specs.Locality.{tables_of}
use Rattle.hpx_world.specs.Away.{Fetches}
use Rattle.hpx_world.specs.declared.turns.WorldFault.TheVariants.{BadFrame, Strange, OutOfMemory}
use Rattle.hpx_world.proofs.Growth.{inside_none}
use Rattle.hpx_world.proofs.Carrying.{carrying_same, carrying_fetched, carrying_taken}
use Rattle.hpx_world.proofs.Never.{never_refused, none_left}
use Rattle.hpx_world.proofs.Taken.{took_one, frame_is}
use Rattle.hpx_world.proofs.Refusing.{no_job}
use Rattle.hpx_world.proofs.locals.Locals.take.Goals as goal

pub returns-in-None-clause-never_early : goal.returns-in-None-clause-never_early
returns-in-None-clause-never_early g c = λ carrying sent taken is.
    let none : c.fill.new.self.hand ≡ None = sym c.take.ensures.value ∙ c.in-None.is in
    let got = subst (λ o. Fetches c.args.self.now.hand (g.F.Fabric.flight c.args.fabric.now) (g.F.Fabric.flight c.fill.new.fabric) (g.F.Fabric.trace c.args.fabric.now) (g.F.Fabric.trace c.fill.new.fabric) o) none c.in-Ok.ensures.ok in
    let early = rw is at c.ended.ensures.early in
    early.1 (rw c.fill.ensures.same (none_left _ _ _ _ c.requires.sound c.args.self.now.hand (g.F.Fabric.flight c.args.fabric.now) (g.F.Fabric.flight c.fill.new.fabric)
    (g.F.Fabric.trace c.args.fabric.now) (g.F.Fabric.trace c.fill.new.fabric) carrying got))

pub returns-in-Ok-accept-clause-carrying : goal.returns-in-Ok-accept-clause-carrying
returns-in-Ok-accept-clause-carrying g c = λ carrying.
    let held : c.fill.new.self.hand ≡ Some c.in-Some.frame = sym c.take.ensures.value ∙ c.in-Some.is in
    let got = subst (λ o. Fetches c.args.self.now.hand (g.F.Fabric.flight c.args.fabric.now) (g.F.Fabric.flight c.fill.new.fabric) (g.F.Fabric.trace c.args.fabric.now) (g.F.Fabric.trace c.fill.new.fabric) o) held c.in-Ok.ensures.ok in
    let filled = carrying_fetched (rules_of g.A.Acts.act_of (length (tables_of c.args.self.now.nodes.items)) c.args.self.now.profile) c.args.self.now.hand (Some c.in-Some.frame) (g.F.Fabric.flight c.args.fabric.now) (g.F.Fabric.flight c.fill.new.fabric) (g.F.Fabric.trace c.args.fabric.now) (g.F.Fabric.trace c.fill.new.fabric) c.args.self.now.journal.entries got carrying in
    let ok = rw c.fill.ensures.same at c.in-Ok-accept.ensures.ok in
    rw (c.accept.ensures.hand, c.take.ensures.after)
    (carrying_taken (rules_of g.A.Acts.act_of (length (tables_of c.args.self.now.nodes.items)) c.args.self.now.profile) c.in-Some.frame _ _ _ _ (took_one g.A.Acts.act_of c.args.self.now.profile (tables_of c.args.self.now.nodes.items) _ _ _ c.in-Some.frame.0 c.in-Some.frame.1 c.requires.sound ok) filled)

pub returns-in-Err-clause-carrying : goal.returns-in-Err-clause-carrying
returns-in-Err-clause-carrying g c = λ carrying.
    let held : c.fill.new.self.hand ≡ Some c.in-Some.frame = sym c.take.ensures.value ∙ c.in-Some.is in
    let got = subst (λ o. Fetches c.args.self.now.hand (g.F.Fabric.flight c.args.fabric.now) (g.F.Fabric.flight c.fill.new.fabric) (g.F.Fabric.trace c.args.fabric.now) (g.F.Fabric.trace c.fill.new.fabric) o) held c.in-Ok.ensures.ok in
    let filled = carrying_fetched (rules_of g.A.Acts.act_of (length (tables_of c.args.self.now.nodes.items)) c.args.self.now.profile) c.args.self.now.hand (Some c.in-Some.frame) (g.F.Fabric.flight c.args.fabric.now) (g.F.Fabric.flight c.fill.new.fabric) (g.F.Fabric.trace c.args.fabric.now) (g.F.Fabric.trace c.fill.new.fabric) c.args.self.now.journal.entries got carrying in
    let same = rw c.fill.ensures.same at c.in-Err.ensures.err.journal in
    carrying_same (rules_of g.A.Acts.act_of (length (tables_of c.args.self.now.nodes.items)) c.args.self.now.profile) _ _ _ _ _ _ _ _ refl refl refl (inside_none (rules_of g.A.Acts.act_of (length (tables_of c.args.self.now.nodes.items)) c.args.self.now.profile) _ _ same) filled

pub returns-in-Err-clause-bad_frame : goal.returns-in-Err-clause-bad_frame
returns-in-Err-clause-bad_frame g c = λ to at why is.
    let e : c.in-Err.fault ≡ BadFrame to at why = cc in
    let bad = c.in-Err.ensures.bad_frame to at why (ap (λ fault. Err fault) e) in
    (c.in-Some.frame.1, ap (λ f. Some f) (sym (frame_is c.in-Some.frame to c.in-Some.frame.1 bad.0 refl)), bad.1)

pub returns-in-Err-clause-strange : goal.returns-in-Err-clause-strange
returns-in-Err-clause-strange g c = λ to rule object kept is.
    let e : c.in-Err.fault ≡ Strange to rule object kept = cc in
    let strange = rw c.fill.ensures.same at (c.in-Err.ensures.strange to rule object kept (ap (λ fault. Err fault) e)) in
    (c.in-Some.frame.1, ap (λ f. Some f) (sym (frame_is c.in-Some.frame to c.in-Some.frame.1 strange.0 refl)), strange.1)

pub returns-in-Err-clause-memory : goal.returns-in-Err-clause-memory
returns-in-Err-clause-memory g c = λ u is.
    let e : c.in-Err.fault ≡ OutOfMemory u = cc in
    let fault = ap (λ fault. Err fault) e in
    let right = rw c.fill.ensures.same at (c.in-Err.ensures.memory u fault) in
    (no_job c.in-Err.fault u c.in-Some.frame.0 e (c.in-Err.ensures.which c.in-Err.fault refl), right)

pub returns-in-Err-clause-never_bad : goal.returns-in-Err-clause-never_bad
returns-in-Err-clause-never_bad g c = λ carrying to at why is.
    let held : c.fill.new.self.hand ≡ Some c.in-Some.frame = sym c.take.ensures.value ∙ c.in-Some.is in
    let got = subst (λ o. Fetches c.args.self.now.hand (g.F.Fabric.flight c.args.fabric.now) (g.F.Fabric.flight c.fill.new.fabric) (g.F.Fabric.trace c.args.fabric.now) (g.F.Fabric.trace c.fill.new.fabric) o) held c.in-Ok.ensures.ok in
    let filled = carrying_fetched (rules_of g.A.Acts.act_of (length (tables_of c.args.self.now.nodes.items)) c.args.self.now.profile) c.args.self.now.hand (Some c.in-Some.frame) (g.F.Fabric.flight c.args.fabric.now) (g.F.Fabric.flight c.fill.new.fabric) (g.F.Fabric.trace c.args.fabric.now) (g.F.Fabric.trace c.fill.new.fabric) c.args.self.now.journal.entries got carrying in
    let e : c.in-Err.fault ≡ BadFrame to at why = cc in
    let bad = c.in-Err.ensures.bad_frame to at why (ap (λ fault. Err fault) e) in
    never_refused _ _ _ _ c.requires.sound c.in-Some.frame _ _ at why filled bad.1
