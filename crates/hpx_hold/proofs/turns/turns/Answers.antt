use Rattle.std.proofs.Common.{◌∷◌, ◌≡◌, Ok, length, refl, ap, ◌∙◌, subst, arith, inl, inr}
use Rattle.hpx_world.specs.Places.{rules_in}
use Rattle.hpx_world.specs.Stages.{stage}
use Rattle.hpx_world.proofs.Next.{carrying_at}
use Rattle.hpx_world.proofs.Refusing.{err_then}
use Rattle.hpx_world.proofs.Unfed.{unfed_then}
use Rattle.hpx_hold.specs.Turns.{MakesTurns}
use Rattle.hpx_hold.proofs.Turned.{idle_quiet, quiet_rest, makes_turns, room_after, turns_refused}
use Rattle.hpx_hold.proofs.turns.turns.Goals as goal

pub loop-made-preserved : goal.loop-made-preserved
loop-made-preserved g c =
    let i = c.loop-made.invariant in
    record {
      count = c.step.ensures.count ∙ i.count;
      profile = c.step.ensures.profile ∙ i.profile;
      goes = record {
        between = stage c.loop-made.world (g.F.Fabric.flight c.loop-made.fabric) (g.F.Fabric.trace c.loop-made.fabric) ∷ i.goes.between;
        steps = (i.goes.steps, c.in_ok-step.ensures.did (ap (λ b. Ok b) c.if-not-branch.false));
        count = omega (arith, i.goes.count);
      };
      hears = λ h. c.step.ensures.hears (i.hears h);
      faults = c.in_ok-step.ensures.faults ∙ i.faults;
      unfed = unfed_then _ _ _ i.unfed c.step.ensures.unfed;
      jobs = λ none. c.in_ok-step.ensures.jobs tt (i.jobs none);
      carrying = λ h. carrying_at g.A.Acts.act_of (length c.args.world.now.nodes) (length c.loop-made.world.nodes) c.args.world.now.profile c.loop-made.world.profile
          _ _ _ _ _ _ _ _ i.count i.profile c.step.ensures.carrying (i.carrying h);
    }

pub returns-in_err-step-clause-stops : goal.returns-in_err-step-clause-stops
returns-in_err-step-clause-stops g c =
    err_then c.from_residual.result c.in_err-step.field-0.0 _ c.from_residual.ensures.1
    (turns_refused g.A.Acts.act_of c.args.most _ _ _ _ c.in_err-step.field-0.0 c.loop-made.invariant.goes (omega arith) c.in_err-step.ensures.stops)

pub returns-in_err-step-clause-room : goal.returns-in_err-step-clause-room
returns-in_err-step-clause-room g c =
    room_after _ _ c.from_residual.result c.in_err-step.field-0.0 c.from_residual.ensures.1 c.in_err-step.ensures.stops

-- no more steps could be made
pub returns-then-not-branch-clause-goes : goal.returns-then-not-branch-clause-goes
returns-then-not-branch-clause-goes g c =
    let idle = c.in_ok-step.ensures.idle (ap (λ b. Ok b) c.if-not-branch.true) in
    let i = c.loop-made.invariant.goes in
    record {
      last = stage c.loop-made.world (g.F.Fabric.flight c.loop-made.fabric) (g.F.Fabric.trace c.loop-made.fabric);
      between = i.between;
      steps = i.steps;
      count = i.count;
      thus = inr (omega arith, idle);
    }

pub returns-then-not-branch-clause-quiet : goal.returns-then-not-branch-clause-quiet
returns-then-not-branch-clause-quiet g c = λ carried none less.
    let i = c.loop-made.invariant in
    let n = c.step.new.self in
    let idle = c.in_ok-step.ensures.idle (ap (λ b. Ok b) c.if-not-branch.true) in
    idle_quiet g.A.Acts.act_of n.profile n.nodes n.journal.entries c.standing.ensures
    (length c.args.world.now.nodes) c.args.world.now.profile (c.step.ensures.count ∙ i.count) (c.step.ensures.profile ∙ i.profile) n.hand _
    (λ m kind here s a some few h state act. g.met.A.Acts.keeps_laws m kind here s a some few h state act)
    carried idle.taken idle.applies (c.in_ok-step.ensures.jobs tt (i.jobs none))

pub returns-then-not-branch-clause-turns : goal.returns-then-not-branch-clause-turns
returns-then-not-branch-clause-turns g c = λ none.
    let i = c.loop-made.invariant in
    let n = c.step.new.self in
    let idle = c.in_ok-step.ensures.idle (ap (λ b. Ok b) c.if-not-branch.true) in
    makes_turns g.A.Acts.act_of (rules_in g.A.Acts.act_of c.args.world.now) c.args.most _ _ _ n.journal.entries i.goes idle.same.journal (omega arith)
    (inr (λ carried. quiet_rest g.A.Acts.act_of n.profile n.nodes n.journal.entries c.standing.ensures
    (length c.args.world.now.nodes) c.args.world.now.profile (c.step.ensures.count ∙ i.count) (c.step.ensures.profile ∙ i.profile) n.hand carried
    (returns-then-not-branch-clause-quiet g c carried none (omega arith))))

pub returns-clause-turns : goal.returns-clause-turns
returns-clause-turns g c = λ none.
    let i = c.loop-made.invariant in
    let r = rules_in g.A.Acts.act_of c.args.world.now in
    let all : c.loop-made.made ≡ c.args.most = omega arith in
    subst (λ n. MakesTurns r c.args.most n c.args.world.now.journal.entries c.loop-made.world.journal.entries) all
    (makes_turns g.A.Acts.act_of r c.args.most c.loop-made.made _ _ c.loop-made.world.journal.entries i.goes refl (omega arith) (inl all))
