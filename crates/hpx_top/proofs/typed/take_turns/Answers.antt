use Rattle.std.proofs.Common.{[], subst}
use Rattle.hpx_journal.specs.Whole.{IsCarried, replayed}
use Rattle.hpx_hold.specs.Home.{WaitsBusy}
use Rattle.hpx_top.proofs.TypedLemmas.{turned_back}
use Rattle.hpx_top.proofs.FeedLemmas.{answer_turn, apart_never, on_ok, same_rules}
use Rattle.hpx_top.proofs.ShowLemmas.{if_err_from}
use Rattle.hpx_top.proofs.typed.take_turns.Goals as goal

pub returns-clause-turned : goal.returns-clause-turned
returns-clause-turned g c =
    let turns = c.in_ok-go_on.ensures.turns in
    let same = same_rules c.args.world.now c.go_on.new.world c.go_on.ensures.count c.go_on.ensures.profile in
    on_ok c.stay.result _ _
    (λ x is waits. turned_back _ c.args.most turns.0 _ _ _ turns.1 c.stay.ensures.home c.go_on.ensures.unfed c.stay.ensures.unfed
    (subst (λ r. IsCarried r [] c.stay.new.world.journal.entries → WaitsBusy (replayed r c.stay.new.world.journal.entries)) same waits)) c.stay.ensures.waits

pub returns-in_err-go_on-clause-cause : goal.returns-in_err-go_on-clause-cause
returns-in_err-go_on-clause-cause g c = if_err_from c.from_residual.result c.in_err-go_on.field-0.0 _ c.from_residual.ensures.1 c.in_err-go_on.ensures.cause

pub returns-in_err-go_on-clause-told : goal.returns-in_err-go_on-clause-told
returns-in_err-go_on-clause-told g c = λ carries. if_err_from c.from_residual.result c.in_err-go_on.field-0.0 _ c.from_residual.ensures.1 (c.in_err-go_on.ensures.told carries)

pub returns-clause-cause : goal.returns-clause-cause
returns-clause-cause g c = answer_turn c.stay.result c.stay.new.world _ c.stay.ensures.cause

pub returns-clause-told : goal.returns-clause-told
returns-clause-told g c = λ carries. c.stay.ensures.told (c.go_on.ensures.carrying carries)

pub returns-clause-hears : goal.returns-clause-hears
returns-clause-hears g c = λ heard. c.stay.ensures.hears (c.go_on.ensures.hears heard)

pub returns-clause-carrying : goal.returns-clause-carrying
returns-clause-carrying g c = λ carries. c.stay.ensures.carrying (c.go_on.ensures.carrying carries)

pub returns-clause-fabric : goal.returns-clause-fabric
returns-clause-fabric g c = λ e. absurd (apart_never c.stay.result c.stay.new.world _ c.stay.ensures.cause e)
