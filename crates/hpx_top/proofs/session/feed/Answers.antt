use Rattle.std.proofs.Common.{[], ◌∙◌, length, subst, inr}
use Rattle.hpx_journal.specs.Whole.{IsCarried}
use Rattle.hpx_world.specs.Promises.{KeepsPromises}
use Rattle.hpx_top.specs.Parts.{Rests}
use Rattle.hpx_top.specs.Session.{IsRested}
use Rattle.hpx_top.proofs.FeedLemmas.{answer_other, answer_shown, same_rules, fed_then, none_out, feeds, on_ok, three_calm, three_turn, turn_shown}
use Rattle.hpx_top.proofs.ShowLemmas.{if_err_from}
use Rattle.hpx_top.proofs.session.feed.Goals as goal

pub returns-clause-fed : goal.returns-clause-fed
returns-clause-fed g c =
    let w = c.args.world.now in
    let did = c.in_ok-begin.ensures.fed in
    let fed = fed_then c.args.text did.0 _ _ _ c.begin.new.world.journal.entries _ did.1 c.settle.ensures.unfed in
    let none = none_out c.args.text did.0 _ _ _ _ did.1 c.requires.quiet.passive in
    let mid = same_rules w c.begin.new.world c.begin.ensures.count c.begin.ensures.profile in
    let new = same_rules c.begin.new.world c.settle.new.world c.settle.ensures.count c.settle.ensures.profile in
    let es = c.settle.new.world.journal.entries in
    on_ok c.settle.result (IsRested c.settle.new.world) _ (λ x is rest.
    feeds (length w.nodes) w.profile c.args.text w.journal.entries es fed
    (subst (λ r. IsCarried r [] es → KeepsPromises r es) (new ∙ mid) c.settle.ensures.promises) (subst (λ r. Rests r es) (new ∙ mid) rest.rest))
    (c.settle.ensures.rest none)

pub returns-clause-rest : goal.returns-clause-rest
returns-clause-rest g c =
    let did = c.in_ok-begin.ensures.fed in
    c.settle.ensures.rest (none_out c.args.text did.0 _ _ _ _ did.1 c.requires.quiet.passive)

pub returns-clause-once : goal.returns-clause-once
returns-clause-once g c =
    let did = c.in_ok-begin.ensures.fed in
    inr (fed_then c.args.text did.0 _ _ _ c.begin.new.world.journal.entries _ did.1 c.settle.ensures.unfed)

pub returns-in_err-begin-clause-shown : goal.returns-in_err-begin-clause-shown
returns-in_err-begin-clause-shown g c =
    if_err_from c.from_residual.result c.in_err-begin.field-0.0 _ c.from_residual.ensures.1
    (turn_shown c.in_err-begin.field-0.0 c.begin.new.world _ (three_turn c.in_err-begin.field-0.0 c.begin.new.world _ c.in_err-begin.ensures.cause))

pub returns-in_err-begin-clause-told : goal.returns-in_err-begin-clause-told
returns-in_err-begin-clause-told g c = λ carries.
    if_err_from c.from_residual.result c.in_err-begin.field-0.0 _ c.from_residual.ensures.1 (three_calm c.in_err-begin.field-0.0 c.in_err-begin.ensures.cause)

pub returns-clause-shown : goal.returns-clause-shown
returns-clause-shown g c = answer_shown c.settle.result c.settle.new.world _ c.settle.ensures.cause

pub returns-clause-other : goal.returns-clause-other
returns-clause-other g c = answer_other c.settle.result c.settle.new.world _ c.settle.ensures.cause

pub returns-clause-told : goal.returns-clause-told
returns-clause-told g c = λ carries. c.settle.ensures.told (c.begin.ensures.carrying carries)

pub returns-clause-hears : goal.returns-clause-hears
returns-clause-hears g c = λ heard. c.settle.ensures.hears (c.begin.ensures.hears heard)

pub returns-clause-carrying : goal.returns-clause-carrying
returns-clause-carrying g c = λ carries. c.settle.ensures.carrying (c.begin.ensures.carrying carries)
