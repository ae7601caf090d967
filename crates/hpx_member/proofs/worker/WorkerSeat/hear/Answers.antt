use Rattle.std.proofs.Common.{◌≡◌, ◌∷◌, ◌++◌, [], true, refl, ap, sym, ◌∙◌, subst}
use Rattle.hpx_member.specs.Bodies.{is_frame, is_wave}
use Rattle.hpx_member.specs.Words.{IsHeeded, wave_of}
use Rattle.hpx_member.proofs.Heeded.{heeded_all, heeded_frame, heeded_wave, heeds_stop}
use Rattle.hpx_member.proofs.worker.WorkerSeat.hear.Goals as goal

pub returns-in-Ok-clause-heeded : goal.returns-in-Ok-clause-heeded
returns-in-Ok-clause-heeded g c = λ same.
    let framed : is_frame c.in_ok-from.body ≡ true = ap is_frame (sym c.as_slice.ensures) ∙ (sym c.is_frame.ensures ∙ c.if-is_frame.true) in
    heeded_frame _ _ _ c.in_ok-from.from c.in_ok-from.body c.requires.heeded framed (ap g.L.Link.trace c.accept.ensures.link ∙ c.in_ok-from.ensures.told)

pub returns-in-Err-clause-stopped : goal.returns-in-Err-clause-stopped
returns-in-Err-clause-stopped g c =
    let framed : is_frame c.in_ok-from.body ≡ true = ap is_frame (sym c.as_slice.ensures) ∙ (sym c.is_frame.ensures ∙ c.if-is_frame.true) in
    heeds_stop _ _ c.in-Err.ensures.other
    (heeded_all c.args.self.now.waiting.items _
    (heeded_frame _ _ _ c.in_ok-from.from c.in_ok-from.body c.requires.heeded framed (ap g.L.Link.trace c.accept.ensures.link ∙ c.in_ok-from.ensures.told)))

pub returns-in-Ok-push_back-clause-heeded : goal.returns-in-Ok-push_back-clause-heeded
returns-in-Ok-push_back-clause-heeded g c = λ same.
    let word = c.in-Wave.ensures.wave c.in-Wave.wave refl in
    let more : c.push_back.new.self.items ≡ c.args.self.now.waiting.items ++ c.in-Wave.wave ∷ [] = c.in-Ok-push_back.ensures.items in
    subst (λ xs. IsHeeded xs (g.L.Link.trace c.listen.new.self.link)) (sym more)
    (heeded_wave _ _ _ c.in_ok-from.from c.in-Wave.wave c.in_ok-from.body c.requires.heeded word.0 (ap is_wave (sym c.as_slice-2.ensures) ∙ word.1)
    (ap wave_of (sym c.as_slice-2.ensures) ∙ word.2) c.in_ok-from.ensures.told)

pub returns-in-Wave-clause-stopped : goal.returns-in-Wave-clause-stopped
returns-in-Wave-clause-stopped g c =
    let word = c.in-Wave.ensures.wave c.in-Wave.wave refl in
    heeded_all _ _ (heeded_wave _ _ _ c.in_ok-from.from c.in-Wave.wave c.in_ok-from.body c.requires.heeded word.0 (ap is_wave (sym c.as_slice-2.ensures) ∙ word.1)
    (ap wave_of (sym c.as_slice-2.ensures) ∙ word.2) c.in_ok-from.ensures.told)
