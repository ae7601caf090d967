use Rattle.std.proofs.Common.{◌∙◌, sym, ap}
use Rattle.hpx_top.specs.Breaches.{breach_in}
use Rattle.hpx_top.proofs.FeedLemmas.{carries_then, fed_home, none_more, of_three}
use Rattle.hpx_top.proofs.WorldFaults.{feed_calm}
use Rattle.hpx_top.proofs.session.begin.Goals as goal

pub returns-clause-cause : goal.returns-clause-cause
returns-clause-cause g c =
    of_three c.fault_of.result c.fault_of.ensures.other
    (λ b e. feed_calm c.args.text _ _ _ c.in-Err.ensures.stops b (sym c.fault_of.ensures.broken ∙ ap breach_in e))

pub returns-in-Ok-clause-jobs : goal.returns-in-Ok-clause-jobs
returns-in-Ok-clause-jobs g c = λ none. none_more c.args.text _ _ _ _ _ c.in-Ok.ensures.did.1.0 none

pub returns-in-Ok-clause-home : goal.returns-in-Ok-clause-home
returns-in-Ok-clause-home g c = fed_home c.args.text _ _ _ _ _ c.law.ensures.sound c.in-Ok.ensures.did.1.0

pub returns-in-Ok-clause-carrying : goal.returns-in-Ok-clause-carrying
returns-in-Ok-clause-carrying g c = carries_then c.args.world.now c.turn.new.self _ _ _ _ c.turn.ensures.count c.turn.ensures.profile c.turn.ensures.carrying

pub returns-clause-carrying : goal.returns-clause-carrying
returns-clause-carrying g c = carries_then c.args.world.now c.turn.new.self _ _ _ _ c.turn.ensures.count c.turn.ensures.profile c.turn.ensures.carrying
