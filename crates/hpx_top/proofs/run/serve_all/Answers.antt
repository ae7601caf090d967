use Rattle.std.proofs.Common.{refl, ◌∙◌}
use Rattle.hpx_top.proofs.RunLemmas.{cause_none, ended_of, lawful_of, served_none, shown_in}
use Rattle.hpx_world.proofs.Heard.{latest_none}
use Rattle.hpx_top.proofs.Carried.{carrying_start}
use Rattle.hpx_top.proofs.run.serve_all.Goals as goal

pub returns-in-Err-clause-served : goal.returns-in-Err-clause-served
returns-in-Err-clause-served g c = λ input h. served_none _ _ input _ refl c.new.ensures.items h

pub returns-in-Err-clause-cause : goal.returns-in-Err-clause-cause
returns-in-Err-clause-cause g c = cause_none _ _ refl

-- so many localities were booted
pub returns-clause-served : goal.returns-clause-served
returns-clause-served g c = λ input h.
    rw (← c.in-Ok.ensures.count, ← c.in-Ok.ensures.profile) (c.serve-cuts.ensures.served input h)

pub returns-clause-places : goal.returns-clause-places
returns-clause-places g c = (c.serve-cuts.ensures.count ∙ c.in-Ok.ensures.count, c.serve-cuts.ensures.profile ∙ c.in-Ok.ensures.profile)

pub returns-clause-lawful : goal.returns-clause-lawful
returns-clause-lawful g c =
    lawful_of c.serve-cuts.new.world c.law.ensures.within c.law.ensures.stands c.law.ensures.promises c.law.ensures.audit c.law.ensures.stand

pub returns-clause-hears : goal.returns-clause-hears
returns-clause-hears g c = c.serve-cuts.ensures.hears (latest_none _ _ c.in-Ok.ensures.hand)

pub returns-clause-carrying : goal.returns-clause-carrying
returns-clause-carrying g c = λ flight trace.
    c.serve-cuts.ensures.carrying (carrying_start _ _ _ _ _ c.in-Ok.ensures.hand flight trace c.in-Ok.ensures.empty)

pub returns-clause-status : goal.returns-clause-status
returns-clause-status g c = λ flight trace.
    c.serve-cuts.ensures.status (carrying_start _ _ _ _ _ c.in-Ok.ensures.hand flight trace c.in-Ok.ensures.empty)

pub returns-clause-shown : goal.returns-clause-shown
returns-clause-shown g c = shown_in c.serve-cuts.result.1 c.serve-cuts.new.world _ c.serve-cuts.ensures.shown

pub returns-clause-ended : goal.returns-clause-ended
returns-clause-ended g c =
    ended_of c.serve-cuts.result.1 c.serve-cuts.new.world c.law.ensures.promises c.serve-cuts.ensures.rest
