use Rattle.std.proofs.Common.{Ok, refl, ap, ◌∙◌}
use Rattle.std.specs.List.{slice_get}
use Rattle.hpx_world.specs.Quiet.{IsStuck}
use Rattle.hpx_world.proofs.FirstSteps.{first_works, work_refuses}
use Rattle.hpx_world.proofs.Idle.{passed}
use Rattle.hpx_world.proofs.Refusing.{err_then}
use Rattle.hpx_world.proofs.world.World.work_first.Goals as goal

pub returns-then-branch-clause-did : goal.returns-then-branch-clause-did
returns-then-branch-clause-did g c = λ is.
    first_works g.A.Acts.act_of c.loop-k.k _ _ _ c.loop-k.invariant.same c.loop-k.invariant.none (c.in_ok-work.ensures.did (ap (λ b. Ok b) c.if-branch.true))

pub loop-k-preserved : goal.loop-k-preserved
loop-k-preserved g c =
    let i = c.loop-k.invariant in
    let none = c.in_ok-work.ensures.none (ap (λ b. Ok b) c.if-branch.false) in
    record {
      count = c.work.ensures.count ∙ i.count;
      profile = c.work.ensures.profile ∙ i.profile;
      same = none.0 ∙ i.same;
      hears = λ h. c.work.ensures.hears (i.hears h);
      faults = ap g.F.Fabric.faults c.work.ensures.apart ∙ i.faults;
      none = passed IsStuck c.loop-k.k _ _ refl (λ t at. none.1 t (ap (λ s. slice_get s.nodes c.loop-k.k) i.same ∙ at)) i.none;
    }

pub returns-in_err-work-clause-stops : goal.returns-in_err-work-clause-stops
returns-in_err-work-clause-stops g c =
    err_then c.from_residual.result c.in_err-work.field-0.0 _ c.from_residual.ensures.1
    (work_refuses c.loop-k.k _ _ _ c.loop-k.invariant.same c.loop-k.invariant.none c.in_err-work.field-0.0 c.in_err-work.ensures.stops)
