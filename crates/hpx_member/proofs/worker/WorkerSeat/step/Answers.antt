use Rattle.hpx_member.proofs.Heeded.{heeded_all, heeded_pumped, heeds_stop}
use Rattle.hpx_member.proofs.worker.WorkerSeat.step.Goals as goal

pub returns-in-Err-clause-stopped : goal.returns-in-Err-clause-stopped
returns-in-Err-clause-stopped g c =
    heeds_stop _ _ c.in-Err.ensures.other
    (heeded_all c.args.self.now.waiting.items _ (heeded_pumped _ _ _ c.go.ensures.sends c.requires.heeded))

pub returns-in-Ok-true-clause-heeded : goal.returns-in-Ok-true-clause-heeded
returns-in-Ok-true-clause-heeded g c = λ same. heeded_pumped _ _ _ c.go.ensures.sends c.requires.heeded

pub answer-requires-clause-heeded : goal.answer-requires-clause-heeded
answer-requires-clause-heeded g c = heeded_pumped _ _ _ c.go.ensures.sends c.requires.heeded
