use Rattle.hpx_member.proofs.Heeded.{heeded_told}
use Rattle.hpx_member.proofs.Seated.{sits_answered}
use Rattle.hpx_member.proofs.seat.Seat.answer.Goals as goal

pub returns-in-Ok-send-clause-sits : goal.returns-in-Ok-send-clause-sits
returns-in-Ok-send-clause-sits g c =
    sits_answered g.A.Acts.act_of _ _ _ _ 0 _ _ _ c.requires.sits c.requires.passive c.in-Ok.ensures c.sent.ensures c.taken.ensures
    c.in-Ok-send.ensures.trace c.as_slice.ensures

pub returns-in-Ok-send-clause-words : goal.returns-in-Ok-send-clause-words
returns-in-Ok-send-clause-words g c = λ waiting h.
    heeded_told waiting _ _ 0 _ _ (record { wave = c.args.wave; sent = c.sent.result; taken = c.taken.result }) h c.in-Ok.ensures
    c.in-Ok-send.ensures.trace c.as_slice.ensures
