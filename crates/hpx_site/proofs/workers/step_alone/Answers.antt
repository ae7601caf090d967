use Rattle.std.proofs.Common.{Err, None, refl}
use Rattle.hpx_site.specs.Held.{Held}
use Rattle.hpx_site.specs.Seen.{seen}
use Rattle.hpx_site.proofs.Helds.{goes_on, handed_on, stepped}
use Rattle.hpx_site.proofs.workers.step_alone.Goals as goal

pub returns-in_err-step : goal.returns-in_err-step
returns-in_err-step g c =
    let F = g.F.Fabric in
    let was = seen c.args.world.now (F.flight c.args.fabric.now) (F.trace c.args.fabric.now) (F.faults c.args.fabric.now) (F.latest c.args.fabric.now) in
    let is = seen c.step.new.self (F.flight c.step.new.fabric) (F.trace c.step.new.fabric) (F.faults c.step.new.fabric) (F.latest c.step.new.fabric) in
    record {
      held = handed_on (λ stop. Held {A = g.row.A.Denot} {g = g.A.Acts} g.A.Acts.act_of was is stop) c.from_residual.result c.in_err-step.field-0.0 c.from_residual.ensures.1
          (stepped g.A.Acts.act_of was (seen c.loop-step.world (F.flight c.loop-step.fabric) (F.trace c.loop-step.fabric) (F.faults c.loop-step.fabric) (F.latest c.loop-step.fabric)) is c.loop-step.invariant
          (record { localities = c.step.ensures.count; profile = c.step.ensures.profile; unfed = c.step.ensures.unfed; carrying = c.step.ensures.carrying; hears = c.step.ensures.hears })
          (Err c.in_err-step.field-0.0) c.in_err-step.ensures.faults c.in_err-step.ensures.stops c.in_err-step.ensures.finds c.in_err-step.ensures.never);
    }

pub loop-step-preserved : goal.loop-step-preserved
loop-step-preserved g c =
    goes_on g.A.Acts.act_of _ _ _ None refl c.loop-step.invariant
    (record { localities = c.step.ensures.count; profile = c.step.ensures.profile; unfed = c.step.ensures.unfed; carrying = c.step.ensures.carrying; hears = c.step.ensures.hears })
    c.in_ok-step.ensures.faults
