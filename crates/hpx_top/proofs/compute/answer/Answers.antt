use Rattle.std.specs.Prelude.{OnOk, OnErr}
use Rattle.std.specs.List.{concat}
use Rattle.std.proofs.Common.{Err, refl, ap, subst, ◌≡◌}
use Rattle.hpx_journal.specs.Pool.{prints_of}
use Rattle.hpx_ports.specs.Told.{followed}
use Rattle.hpx_top.specs.Session.{rules, Feeds, FeedsAtMost, WritesFront}
use Rattle.hpx_top.proofs.FeedLemmas.{on_ok, written_calm, written_shown}
use Rattle.hpx_top.proofs.ShowLemmas.{if_err_from}
use Rattle.hpx_top.proofs.ComputeLemmas.{unanswered_fed, unanswered_shown}
use Rattle.hpx_top.proofs.compute.answer.Goals as goal

pub returns-clause-answered : goal.returns-clause-answered
returns-clause-answered g c =
    let feeds = subst (λ es. Feeds (rules c.args.world.now) c.args.line es c.feed.new.world.journal.entries) c.requires.empty c.in_ok-feed.ensures.fed in
    on_ok c.show.result _ _ (λ x is held. record { feeds = feeds; text = held })
    (subst (λ j. OnOk c.show.result (g.K.Sink.held c.show.new.sink ≡ followed (g.K.Sink.held c.args.sink.now) (concat (prints_of j.entries)))) c.journal.ensures.journal c.show.ensures.held)

pub returns-clause-unanswered : goal.returns-clause-unanswered
returns-clause-unanswered g c =
    let feeds = subst (λ es. Feeds (rules c.args.world.now) c.args.line es c.feed.new.world.journal.entries) c.requires.empty c.in_ok-feed.ensures.fed in
    unanswered_shown c.show.result (rules c.args.world.now) c.args.line c.feed.new.world.journal.entries _ _ _ feeds
    (subst (λ j. OnErr c.show.result (WritesFront (concat (prints_of j.entries)) (g.K.Sink.held c.args.sink.now) (g.K.Sink.held c.show.new.sink))) c.journal.ensures.journal c.show.ensures.front)
    c.show.ensures.cause

pub returns-in_err-feed-clause-unanswered : goal.returns-in_err-feed-clause-unanswered
returns-in_err-feed-clause-unanswered g c =
    let other = c.in_err-feed.ensures.other in
    if_err_from c.from_residual.result c.in_err-feed.field-0.0 _ c.from_residual.ensures.1
    (unanswered_fed c.in_err-feed.field-0.0 (rules c.args.world.now) c.args.line c.feed.new.world.journal.entries (g.K.Sink.held c.args.sink.now) (g.K.Sink.held c.args.sink.now)
    (λ e. other.0 (ap (λ f. Err f) e)) (λ e. other.1 (ap (λ f. Err f) e)) (λ e. other.2 (ap (λ f. Err f) e))
    (subst (λ es. FeedsAtMost c.args.line es c.feed.new.world.journal.entries) c.requires.empty c.feed.ensures.once) refl)

pub returns-in_err-feed-clause-shown : goal.returns-in_err-feed-clause-shown
returns-in_err-feed-clause-shown g c =
    if_err_from c.from_residual.result c.in_err-feed.field-0.0 _ c.from_residual.ensures.1 c.in_err-feed.ensures.shown

pub returns-in_err-feed-clause-told : goal.returns-in_err-feed-clause-told
returns-in_err-feed-clause-told g c = λ carries.
    if_err_from c.from_residual.result c.in_err-feed.field-0.0 _ c.from_residual.ensures.1 (c.in_err-feed.ensures.told carries)

pub returns-clause-shown : goal.returns-clause-shown
returns-clause-shown g c = written_shown c.show.result c.feed.new.world _ _ c.show.ensures.cause

pub returns-clause-told : goal.returns-clause-told
returns-clause-told g c = λ carries. written_calm c.show.result _ c.show.ensures.cause
