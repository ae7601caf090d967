use Rattle.std.proofs.Common.{sym, ap, ◌∙◌, subst, length}
use Rattle.hpx_value.specs.declared.acts.Job.{Job}
use Rattle.hpx_value.specs.Riders.{plain}
use Rattle.hpx_world.specs.Stages.{stage}
use Rattle.hpx_world.specs.Steps.{DidHandOut}
use Rattle.hpx_world.specs.Turns.{DidFire, DidFinish}
use Rattle.hpx_world.proofs.Refusing.{err_then, fire_refused_work, finish_refused}
use Rattle.hpx_world.proofs.Unfed.{unfed_then}
use Rattle.hpx_world.proofs.Worked.{fired_at, fired_out, worked, did_work}
use Rattle.hpx_hold.proofs.Turning.{home_then, fired_home, finished_home, fire_same, finish_same}
use Rattle.hpx_hold.proofs.home.work_at_home.Goals as goal

-- none could be fired for want of memory
pub returns-in_err-turn-clause-stops : goal.returns-in_err-turn-clause-stops
returns-in_err-turn-clause-stops g c =
    err_then c.from_residual.result c.in_err-turn.field-0.0 _ c.from_residual.ensures.1
    (fire_refused_work 0 _ _ c.in_err-turn.field-0.0 c.in_err-turn.ensures.stops)

-- the job could not be run
pub returns-in-Err-clause-stops : goal.returns-in-Err-clause-stops
returns-in-Err-clause-stops g c =
    let fired = subst (λ t. DidFire 0 t c.args.world.now.nodes c.turn.new.self.nodes c.args.world.now.journal.entries c.turn.new.self.journal.entries)
    c.in-Some.ensures.some c.in_ok-turn.ensures.did.1.0 in
    let out : DidHandOut (length c.turn.new.self.nodes) c.in-Some.job 0 (stage c.args.world.now (g.F.Fabric.flight c.args.fabric.now) (g.F.Fabric.trace c.args.fabric.now)) (stage c.turn.new.self (g.F.Fabric.flight c.turn.new.fabric) (g.F.Fabric.trace c.turn.new.fabric)) = record {
      fired = fired;
      out = fired_out g.A.Acts.act_of c.args.world.now.profile _ _ _ _ c.standing.ensures 0 c.in-Some.job fired (length c.turn.new.self.nodes) c.turn.ensures.count;
      outside = c.in_ok-turn.ensures.did.1.1;
    } in (
      c.in_ok-turn.ensures.did.0,
      subst (λ j. DidHandOut (length c.turn.new.self.nodes) j 0 (stage c.args.world.now (g.F.Fabric.flight c.args.fabric.now) (g.F.Fabric.trace c.args.fabric.now))
          (stage c.turn.new.self (g.F.Fabric.flight c.turn.new.fabric) (g.F.Fabric.trace c.turn.new.fabric))) (sym c.in-Err.ensures.err) out,
    )

-- the job is of the locality that fired it
pub turn-requires-2-clause-asked : goal.turn-requires-2-clause-asked
turn-requires-2-clause-asked g c κs within =
    let fired = subst (λ t. DidFire 0 t c.args.world.now.nodes c.turn.new.self.nodes c.args.world.now.journal.entries c.turn.new.self.journal.entries)
    c.in-Some.ensures.some c.in_ok-turn.ensures.did.1.0 in
    let at = ap (λ (j : Job). j.at) c.in-Ok.ensures.job ∙ fired_at g.A.Acts.act_of c.args.world.now.profile _ _ _ _ c.standing.ensures 0 c.in-Some.job fired in
    rw (at, c.turn.ensures.count) c.standing.ensures.some

pub returns-in_err-turn-2-clause-stops : goal.returns-in_err-turn-2-clause-stops
returns-in_err-turn-2-clause-stops g c =
    let fired = subst (λ t. DidFire 0 t c.args.world.now.nodes c.turn.new.self.nodes c.args.world.now.journal.entries c.turn.new.self.journal.entries)
    c.in-Some.ensures.some c.in_ok-turn.ensures.did.1.0 in
    let out : DidHandOut c.in-Ok.done.localities c.in-Some.job 0 (stage c.args.world.now (g.F.Fabric.flight c.args.fabric.now) (g.F.Fabric.trace c.args.fabric.now)) (stage c.turn.new.self (g.F.Fabric.flight c.turn.new.fabric) (g.F.Fabric.trace c.turn.new.fabric)) = record {
      fired = fired;
      out = fired_out g.A.Acts.act_of c.args.world.now.profile _ _ _ _ c.standing.ensures 0 c.in-Some.job fired c.in-Ok.done.localities (c.in-Ok.ensures.localities ∙ c.requires.acts);
      outside = c.in_ok-turn.ensures.did.1.1;
    } in
    err_then c.from_residual-in_err-turn-2.result c.in_err-turn-2.field-0.0 _ c.from_residual-in_err-turn-2.ensures.1
    (finish_refused c.in-Ok.done 0 (stage c.args.world.now (g.F.Fabric.flight c.args.fabric.now) (g.F.Fabric.trace c.args.fabric.now))
    (stage c.turn.new.self (g.F.Fabric.flight c.turn.new.fabric) (g.F.Fabric.trace c.turn.new.fabric)) _ c.in_ok-turn.ensures.did.0
    (subst (λ j. DidHandOut c.in-Ok.done.localities j 0 (stage c.args.world.now (g.F.Fabric.flight c.args.fabric.now) (g.F.Fabric.trace c.args.fabric.now))
    (stage c.turn.new.self (g.F.Fabric.flight c.turn.new.fabric) (g.F.Fabric.trace c.turn.new.fabric))) (sym c.in-Ok.ensures.job) out)
    c.in_err-turn-2.field-0.0 c.in_err-turn-2.ensures.stops)

pub returns-clause-did : goal.returns-clause-did
returns-clause-did g c = λ is.
    let fired = subst (λ t. DidFire 0 t c.args.world.now.nodes c.turn.new.self.nodes c.args.world.now.journal.entries c.turn.new.self.journal.entries)
    c.in-Some.ensures.some c.in_ok-turn.ensures.did.1.0 in
    let did = subst (λ j. DidFinish c.in-Ok.done.localities j c.in-Ok.done.outcome c.in_ok-turn-2.field-0 c.turn.new.self.nodes c.turn-2.new.self.nodes
    c.turn.new.self.journal.entries c.turn-2.new.self.journal.entries) c.in-Ok.ensures.job c.in_ok-turn-2.ensures.did.1.0 in (
      c.in_ok-turn.ensures.did.0,
      did_work g.A.Acts.act_of c.args.world.now.profile _ _ _ _ c.standing.ensures 0 c.in-Some.job fired _ _
          c.in-Ok.done.localities c.in-Ok.done.outcome c.in_ok-turn-2.field-0 _ _ (c.in-Ok.ensures.localities ∙ c.requires.acts) c.turn.ensures.count
          (c.in-Ok.ensures.outcome ∙ ap (λ n. g.A.Acts.act_of n c.in-Some.job.kind c.in-Some.job.at c.in-Some.job.state (plain c.in-Some.job.action)) (sym c.in-Ok.ensures.localities)) did,
      c.in_ok-turn-2.ensures.did.1.1 ∙ c.in_ok-turn.ensures.did.1.1,
    )

pub returns-clause-jobs : goal.returns-clause-jobs
returns-clause-jobs g c = λ hands none.
    let fired = subst (λ t. DidFire 0 t c.args.world.now.nodes c.turn.new.self.nodes c.args.world.now.journal.entries c.turn.new.self.journal.entries)
    c.in-Some.ensures.some c.in_ok-turn.ensures.did.1.0 in
    let did = subst (λ j. DidFinish c.in-Ok.done.localities j c.in-Ok.done.outcome c.in_ok-turn-2.field-0 c.turn.new.self.nodes c.turn-2.new.self.nodes
    c.turn.new.self.journal.entries c.turn-2.new.self.journal.entries) c.in-Ok.ensures.job c.in_ok-turn-2.ensures.did.1.0 in
    worked g.A.Acts.act_of c.args.world.now.profile _ _ _ _ c.standing.ensures 0 c.in-Some.job fired
    c.in-Ok.done.localities c.in-Ok.done.outcome c.in_ok-turn-2.field-0 _ _ (c.in-Ok.ensures.localities ∙ c.requires.acts) c.turn.ensures.count did none

pub returns-clause-unfed : goal.returns-clause-unfed
returns-clause-unfed g c = unfed_then _ _ _ (c.turn.ensures.unfed tt) (c.turn-2.ensures.unfed tt)

-- what is written
pub returns-in_err-turn-clause-home : goal.returns-in_err-turn-clause-home
returns-in_err-turn-clause-home g c = fire_same _ _ c.in_err-turn.field-0.0 c.in_err-turn.ensures.stops

pub returns-in-None-clause-home : goal.returns-in-None-clause-home
returns-in-None-clause-home g c = fired_home g.A.Acts.act_of c.args.world.now.profile _ _ _ _ c.standing.ensures c.in_ok-turn.field-0 c.in_ok-turn.ensures.did.1.0

pub returns-in-Err-clause-home : goal.returns-in-Err-clause-home
returns-in-Err-clause-home g c = fired_home g.A.Acts.act_of c.args.world.now.profile _ _ _ _ c.standing.ensures c.in_ok-turn.field-0 c.in_ok-turn.ensures.did.1.0

pub returns-in_err-turn-2-clause-home : goal.returns-in_err-turn-2-clause-home
returns-in_err-turn-2-clause-home g c = home_then _ _ _
    (fired_home g.A.Acts.act_of c.args.world.now.profile _ _ _ _ c.standing.ensures c.in_ok-turn.field-0 c.in_ok-turn.ensures.did.1.0)
    (finish_same _ _ c.in-Ok.done c.in_err-turn-2.field-0.0 c.in_err-turn-2.ensures.stops)

pub returns-clause-home : goal.returns-clause-home
returns-clause-home g c =
    let fired = subst (λ t. DidFire 0 t c.args.world.now.nodes c.turn.new.self.nodes c.args.world.now.journal.entries c.turn.new.self.journal.entries)
    c.in-Some.ensures.some c.in_ok-turn.ensures.did.1.0 in
    let did = subst (λ j. DidFinish c.in-Ok.done.localities j c.in-Ok.done.outcome c.in_ok-turn-2.field-0 c.turn.new.self.nodes c.turn-2.new.self.nodes
    c.turn.new.self.journal.entries c.turn-2.new.self.journal.entries) c.in-Ok.ensures.job c.in_ok-turn-2.ensures.did.1.0 in
    home_then _ _ _ (fired_home g.A.Acts.act_of c.args.world.now.profile _ _ _ _ c.standing.ensures c.in_ok-turn.field-0 c.in_ok-turn.ensures.did.1.0)
    (finished_home g.A.Acts.act_of c.args.world.now.profile _ _ _ _ c.standing.ensures c.in-Some.job fired _ _ c.in_ok-turn-2.field-0 _ _ did)
