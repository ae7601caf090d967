use Rattle.std.proofs.Common.{[], ◌∷◌, ◌≡◌, ◌∙◌, subst}
use Rattle.hpx_journal.specs.Whole.{IsCarried, replayed}
use Rattle.hpx_hold.specs.Home.{WaitsBusy}
use Rattle.hpx_world.specs.Quiet.{NoneRuns}
use Rattle.hpx_top.specs.Parts.{Rests}
use Rattle.hpx_top.specs.Session.{IsFed, IsRested}
use Rattle.hpx_top.specs.Texts.{mark_of}
use Rattle.hpx_top.proofs.TypedLemmas.{fed_all, fed_back}
use Rattle.hpx_top.proofs.FeedLemmas.{answer_turn, apart_never, begun_fed_line, fed_then, on_ok, passive_runs, same_rules, three_calm, three_turn}
use Rattle.hpx_top.proofs.ShowLemmas.{if_err_from}
use Rattle.hpx_top.proofs.typed.feed_line.Goals as goal

pub returns-then-held-clause-did : goal.returns-then-held-clause-did
returns-then-held-clause-did g c =
    let did = c.in_ok-begin.ensures.fed in
    let text : c.in-Ok.text ≡ mark_of c.args.console ∷ c.args.line.now = rw (← c.mark.ensures, ← c.as_slice.ensures) c.in-Ok.ensures in
    let fed = subst (λ t. IsFed t c.args.world.now.journal.entries c.stay.new.world.journal.entries) text (fed_then c.in-Ok.text did.0 _ _ _ _ _ did.1 c.stay.ensures.unfed) in
    let same = same_rules c.args.world.now c.begin.new.world c.begin.ensures.count c.begin.ensures.profile in
    on_ok c.stay.result _ _
    (λ x is waits. fed_back c.args.console _ _ c.args.held _ _ _ c.if-held.true fed c.in_ok-begin.ensures.home c.stay.ensures.home
    (subst (λ r. IsCarried r [] c.stay.new.world.journal.entries → WaitsBusy (replayed r c.stay.new.world.journal.entries)) same waits)) c.stay.ensures.waits

pub returns-then-held-clause-once : goal.returns-then-held-clause-once
returns-then-held-clause-once g c =
    let did = c.in_ok-begin.ensures.fed in
    let text : c.in-Ok.text ≡ mark_of c.args.console ∷ c.args.line.now = rw (← c.mark.ensures, ← c.as_slice.ensures) c.in-Ok.ensures in
    begun_fed_line c.requires.short c.requires.fed
    (subst (λ t. IsFed t c.args.world.now.journal.entries c.stay.new.world.journal.entries) text (fed_then c.in-Ok.text did.0 _ _ _ _ _ did.1 c.stay.ensures.unfed))

pub returns-else-held-clause-did : goal.returns-else-held-clause-did
returns-else-held-clause-did g c =
    let did = c.in_ok-begin.ensures.fed in
    let text : c.in-Ok.text ≡ mark_of c.args.console ∷ c.args.line.now = rw (← c.mark.ensures, ← c.as_slice.ensures) c.in-Ok.ensures in
    let fed = subst (λ t. IsFed t c.args.world.now.journal.entries c.settle.new.world.journal.entries) text (fed_then c.in-Ok.text did.0 _ _ _ _ _ did.1 c.settle.ensures.unfed) in
    let mid = same_rules c.args.world.now c.begin.new.world c.begin.ensures.count c.begin.ensures.profile in
    let new = same_rules c.begin.new.world c.settle.new.world c.settle.ensures.count c.settle.ensures.profile in
    on_ok c.settle.result (IsRested c.settle.new.world) _
    (λ x is rest. fed_all _ _ c.args.held _ _ c.if-held.false fed (subst (λ r. Rests r c.settle.new.world.journal.entries) (new ∙ mid) rest.rest))
    (c.settle.ensures.rest (c.in_ok-begin.ensures.jobs c.requires.jobs))

pub returns-else-held-clause-jobs : goal.returns-else-held-clause-jobs
returns-else-held-clause-jobs g c =
    on_ok c.settle.result (IsRested c.settle.new.world) (NoneRuns c.settle.new.world.nodes) (λ x is rest. passive_runs c.settle.new.world.nodes rest.quiet.passive)
    (c.settle.ensures.rest (c.in_ok-begin.ensures.jobs c.requires.jobs))

pub returns-else-held-clause-once : goal.returns-else-held-clause-once
returns-else-held-clause-once g c =
    let did = c.in_ok-begin.ensures.fed in
    let text : c.in-Ok.text ≡ mark_of c.args.console ∷ c.args.line.now = rw (← c.mark.ensures, ← c.as_slice.ensures) c.in-Ok.ensures in
    begun_fed_line c.requires.short c.requires.fed
    (subst (λ t. IsFed t c.args.world.now.journal.entries c.settle.new.world.journal.entries) text (fed_then c.in-Ok.text did.0 _ _ _ _ _ did.1 c.settle.ensures.unfed))

pub returns-in_err-begin-clause-cause : goal.returns-in_err-begin-clause-cause
returns-in_err-begin-clause-cause g c =
    if_err_from c.from_residual.result c.in_err-begin.field-0.0 _ c.from_residual.ensures.1
    (three_turn c.in_err-begin.field-0.0 c.begin.new.world _ c.in_err-begin.ensures.cause)

pub returns-in_err-begin-clause-told : goal.returns-in_err-begin-clause-told
returns-in_err-begin-clause-told g c = λ carries.
    if_err_from c.from_residual.result c.in_err-begin.field-0.0 _ c.from_residual.ensures.1 (three_calm c.in_err-begin.field-0.0 c.in_err-begin.ensures.cause)

pub returns-then-held-clause-cause : goal.returns-then-held-clause-cause
returns-then-held-clause-cause g c = answer_turn c.stay.result c.stay.new.world _ c.stay.ensures.cause

pub returns-then-held-clause-told : goal.returns-then-held-clause-told
returns-then-held-clause-told g c = λ carries. c.stay.ensures.told (c.begin.ensures.carrying carries)

pub returns-then-held-clause-hears : goal.returns-then-held-clause-hears
returns-then-held-clause-hears g c = λ heard. c.stay.ensures.hears (c.begin.ensures.hears heard)

pub returns-then-held-clause-carrying : goal.returns-then-held-clause-carrying
returns-then-held-clause-carrying g c = λ carries. c.stay.ensures.carrying (c.begin.ensures.carrying carries)

pub returns-then-held-clause-fabric : goal.returns-then-held-clause-fabric
returns-then-held-clause-fabric g c = λ e. absurd (apart_never c.stay.result c.stay.new.world _ c.stay.ensures.cause e)

pub returns-else-held-clause-told : goal.returns-else-held-clause-told
returns-else-held-clause-told g c = λ carries. c.settle.ensures.told (c.begin.ensures.carrying carries)

pub returns-else-held-clause-hears : goal.returns-else-held-clause-hears
returns-else-held-clause-hears g c = λ heard. c.settle.ensures.hears (c.begin.ensures.hears heard)

pub returns-else-held-clause-carrying : goal.returns-else-held-clause-carrying
returns-else-held-clause-carrying g c = λ carries. c.settle.ensures.carrying (c.begin.ensures.carrying carries)
