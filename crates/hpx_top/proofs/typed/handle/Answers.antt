use Rattle.std.proofs.Common.{◌∷◌, ◌∙◌, refl, sym, subst}
use Rattle.hpx_world.specs.Quiet.{NoneRuns}
use Rattle.hpx_own.specs.declared.lines.Handled.TheVariants.{Turn, Drain}
use Rattle.hpx_top.specs.Parts.{Does, GrowsBy}
use Rattle.hpx_top.specs.Session.{rules, IsRested}
use Rattle.hpx_top.specs.Texts.{Typed, mark_of}
use Rattle.hpx_top.proofs.TypedLemmas.{grown_nothing}
use Rattle.hpx_top.proofs.FeedLemmas.{begun_unfed, on_ok, passive_runs}
use Rattle.hpx_top.proofs.typed.handle.Goals as goal

pub returns-in-Turn-clause-once : goal.returns-in-Turn-clause-once
returns-in-Turn-clause-once g c = begun_unfed (Turn c.in-Turn.most) c.requires.short (c.requires.so ∙ c.in-Turn.is) refl c.take_turns.ensures.unfed

pub returns-in-Drain-clause-jobs : goal.returns-in-Drain-clause-jobs
returns-in-Drain-clause-jobs g c =
    on_ok c.settle.result (IsRested c.settle.new.world) (NoneRuns c.settle.new.world.nodes) (λ x is rest. passive_runs c.settle.new.world.nodes rest.quiet.passive)
    (c.settle.ensures.rest c.requires.jobs)

pub returns-in-Drain-clause-once : goal.returns-in-Drain-clause-once
returns-in-Drain-clause-once g c = begun_unfed Drain c.requires.short (c.requires.so ∙ c.in-Drain.is) refl c.settle.ensures.unfed

pub returns-in-Hold-clause-did : goal.returns-in-Hold-clause-did
returns-in-Hold-clause-did g c =
    let w = c.args.world.now in
    let es = w.journal.entries in
    let held = c.args.progress.now.held in
    subst (λ h. GrowsBy (Does (rules w) (mark_of c.args.console ∷ c.args.line.now) held (Typed h) es) es es) (sym c.in-Hold.is)
    (grown_nothing (rules w) held es (λ free. (c.requires.rest free).rest))

pub returns-in-Audit-clause-did : goal.returns-in-Audit-clause-did
returns-in-Audit-clause-did g c =
    let w = c.args.world.now in
    let es = w.journal.entries in
    let held = c.args.progress.now.held in
    subst (λ h. GrowsBy (Does (rules w) (mark_of c.args.console ∷ c.args.line.now) held (Typed h) es) es es) (sym c.in-Audit.is)
    (grown_nothing (rules w) held es (λ free. (c.requires.rest free).rest))

pub returns-in-Count-clause-did : goal.returns-in-Count-clause-did
returns-in-Count-clause-did g c =
    let w = c.args.world.now in
    let es = w.journal.entries in
    let held = c.args.progress.now.held in
    subst (λ h. GrowsBy (Does (rules w) (mark_of c.args.console ∷ c.args.line.now) held (Typed h) es) es es) (sym c.in-Count.is)
    (grown_nothing (rules w) held es (λ free. (c.requires.rest free).rest))

pub returns-in-Refused-clause-did : goal.returns-in-Refused-clause-did
returns-in-Refused-clause-did g c =
    let w = c.args.world.now in
    let es = w.journal.entries in
    let held = c.args.progress.now.held in
    subst (λ h. GrowsBy (Does (rules w) (mark_of c.args.console ∷ c.args.line.now) held (Typed h) es) es es) (sym c.in-Refused.is)
    (grown_nothing (rules w) held es (λ free. (c.requires.rest free).rest))
