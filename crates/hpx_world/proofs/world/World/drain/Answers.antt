use Rattle.std.proofs.Common.{◌∷◌, Ok, length, ap, ◌∙◌}
use Rattle.hpx_world.specs.Places.{rules_in}
use Rattle.hpx_world.specs.Stages.{stage}
use Rattle.hpx_world.proofs.FirstSteps.{step_fewer, drain_refuses}
use Rattle.hpx_world.proofs.Next.{carrying_at}
use Rattle.hpx_world.proofs.Refusing.{err_then, ends_early}
use Rattle.hpx_world.proofs.Settled.{never_held}
use Rattle.hpx_world.proofs.Unfed.{unfed_then}
use Rattle.hpx_world.proofs.world.World.drain.Goals as goal

pub loop-preserved : goal.loop-preserved
loop-preserved g c =
    let i = c.loop.invariant in
    record {
      count = c.step.ensures.count ∙ i.count;
      profile = c.step.ensures.profile ∙ i.profile;
      goes = record {
        between = stage c.loop.self (g.F.Fabric.flight c.loop.fabric) (g.F.Fabric.trace c.loop.fabric) ∷ i.goes.between;
        steps = (i.goes.steps, c.in_ok-step.ensures.did (ap (λ b. Ok b) c.if-branch.true));
      };
      hears = λ h. c.step.ensures.hears (i.hears h);
      faults = c.in_ok-step.ensures.faults ∙ i.faults;
      unfed = unfed_then _ _ _ i.unfed c.step.ensures.unfed;
      jobs = λ none. c.in_ok-step.ensures.jobs tt (i.jobs none);
      carrying = λ h. carrying_at g.A.Acts.act_of (length c.args.self.now.nodes) (length c.loop.self.nodes) c.args.self.now.profile c.loop.self.profile
          _ _ _ _ _ _ _ _ i.count i.profile c.step.ensures.carrying (i.carrying h);
    }

pub loop-smaller : goal.loop-smaller
loop-smaller g c = step_fewer g.A.Acts.act_of _ _ (c.in_ok-step.ensures.did (ap (λ b. Ok b) c.if-branch.true))

pub returns-in_err-step-clause-stops : goal.returns-in_err-step-clause-stops
returns-in_err-step-clause-stops g c =
    err_then c.from_residual.result c.in_err-step.field-0.0 _ c.from_residual.ensures.1
    (drain_refuses g.A.Acts.act_of _ _ _ c.loop.invariant.goes c.in_err-step.field-0.0 c.in_err-step.ensures.stops)

pub returns-clause-never : goal.returns-clause-never
returns-clause-never g c = λ carrying.
    let i = c.loop.invariant in
    let idle = c.in_ok-step.ensures.idle (ap (λ b. Ok b) c.if-branch.false) in
    let count = c.step.ensures.count ∙ i.count in
    let profile = c.step.ensures.profile ∙ i.profile in
    let carried = carrying_at g.A.Acts.act_of (length c.args.self.now.nodes) (length c.loop.self.nodes) c.args.self.now.profile c.loop.self.profile
    _ _ _ _ _ _ _ _ i.count i.profile c.step.ensures.carrying (i.carrying carrying) in
    ends_early c.settled.result (rules_in g.A.Acts.act_of c.args.self.now) _ _ c.settled.ensures.early
    (λ jobs waits. never_held g.A.Acts.act_of c.step.new.self.profile c.step.new.self.nodes c.step.new.self.journal.entries c.standing.ensures
    (length c.args.self.now.nodes) c.args.self.now.profile _ _ _ count profile
    (λ n kind here s a some few h state act. g.met.A.Acts.keeps_laws n kind here s a some few h state act)
    carried (record { idle = idle.applies; jobs = jobs; waits = waits }))
