use Rattle.std.proofs.Common.{◌≡◌, Ok, true, sym, ap, ◌∙◌, subst}
use Rattle.hpx_world.specs.Away.{Fetches}
use Rattle.hpx_world.specs.Stages.{stage}
use Rattle.hpx_world.specs.Steps.{DidStep, NonePumps}
use Rattle.hpx_world.specs.Turns.{DidTake}
use Rattle.hpx_world.proofs.FirstSteps.{first_takes}
use Rattle.hpx_world.proofs.world.World.step.Goals as goal

pub returns-then-branch-2-clause-did : goal.returns-then-branch-2-clause-did
returns-then-branch-2-clause-did g c = λ is.
    let worked = c.in_ok-work_first.ensures.none (ap (λ b. Ok b) c.if-branch.false) in
    subst (λ s. DidStep g.A.Acts.act_of s (stage c.desk_first.new.self (g.F.Fabric.flight c.desk_first.new.fabric) (g.F.Fabric.trace c.desk_first.new.fabric))) worked.0
    (c.in_ok-desk_first.ensures.did (ap (λ b. Ok b) c.if-branch-2.true))

pub returns-then-branch-3-clause-did : goal.returns-then-branch-3-clause-did
returns-then-branch-3-clause-did g c = λ is.
    let worked = c.in_ok-work_first.ensures.none (ap (λ b. Ok b) c.if-branch.false) in
    let dealt = c.in_ok-desk_first.ensures.none (ap (λ b. Ok b) c.if-branch-2.false) in
    subst (λ s. DidStep g.A.Acts.act_of s (stage c.pump_first.new.self (g.F.Fabric.flight c.pump_first.new.fabric) (g.F.Fabric.trace c.pump_first.new.fabric))) (dealt.0 ∙ worked.0)
    (c.in_ok-pump_first.ensures.did (ap (λ b. Ok b) c.if-branch-3.true))

pub returns-clause-did : goal.returns-clause-did
returns-clause-did g c = λ is.
    let worked = c.in_ok-work_first.ensures.none (ap (λ b. Ok b) c.if-branch.false) in
    let dealt = c.in_ok-desk_first.ensures.none (ap (λ b. Ok b) c.if-branch-2.false) in
    let sent = c.in_ok-pump_first.ensures.none (ap (λ b. Ok b) c.if-branch-3.false) in
    let moved : c.moved.result ≡ true = cc in
    let did = subst (λ t. DidTake (Fetches c.pump_first.new.self.hand (g.F.Fabric.flight c.pump_first.new.fabric) (g.F.Fabric.flight c.turn.new.fabric) (g.F.Fabric.trace c.pump_first.new.fabric) (g.F.Fabric.trace c.turn.new.fabric)) t
    c.pump_first.new.self.nodes c.turn.new.self.nodes c.pump_first.new.self.journal.entries c.turn.new.self.journal.entries) (c.moved.ensures.0 moved) c.in_ok-turn.ensures.did.1.0 in
    first_takes g.A.Acts.act_of _ (stage c.pump_first.new.self (g.F.Fabric.flight c.pump_first.new.fabric) (g.F.Fabric.trace c.pump_first.new.fabric))
    (stage c.turn.new.self (g.F.Fabric.flight c.turn.new.fabric) (g.F.Fabric.trace c.turn.new.fabric))
    (sent.0 ∙ (dealt.0 ∙ worked.0)) (subst NonePumps (sym sent.0) sent.1) c.in_ok-turn.ensures.did.0 did c.in_ok-turn.ensures.did.1.1
