use Rattle.hpx_node.proofs.Common.{IsFitJob, Job, ap, arith, length, slice_get_is, subst, sym, ◌<◌, ◌∙◌}
use Rattle.hpx_node.proofs.FailedPlan.{plan_long, plan_limit, failure_is, failure_few}
use Rattle.hpx_node.proofs.Paused.{asked_within, paused_at}
use Rattle.hpx_node.proofs.node.Node.failure.Goals as goal

pub lawful-requires : goal.lawful-requires
lawful-requires g c =
    let inside : c.args.i < length c.self.inside.pending.items = rw (← c.self.view_is) at c.requires.there in
    let there = slice_get_is c.self.inside.pending.items c.args.i c.index-waits.result.now inside c.index-waits.ensures in
    let tidy = rw (← c.self.view_is) at c.requires.tidy in
    let paused = paused_at _ c.args.i c.index-waits.result.now tidy there in record {
      localities = omega (arith, c.done-done.ensures.localities, paused.localities, paused.few.0);
      at = omega (arith, c.done-done.ensures.localities, paused.localities, paused.few.1, ap (λ (j : Job). j.at) c.done-done.ensures.job);
      fit = subst IsFitJob (sym c.done-done.ensures.job) paused.job;
    }

pub hand_with-requires : goal.hand_with-requires
hand_with-requires g c =
    let inside : c.args.i < length c.self.inside.pending.items = rw (← c.self.view_is) at c.requires.there in
    let there = slice_get_is c.self.inside.pending.items c.args.i c.index-waits.result.now inside c.index-waits.ensures in
    let tidy = rw (← c.self.view_is) at c.requires.tidy in
    asked_within _ _ _ _ c.index-waits.result.now (paused_at _ c.args.i c.index-waits.result.now tidy there)

pub plan_failure-requires : goal.plan_failure-requires
plan_failure-requires g c =
    let inside : c.args.i < length c.self.inside.pending.items = rw (← c.self.view_is) at c.requires.there in
    let there = slice_get_is c.self.inside.pending.items c.args.i c.index-waits.result.now inside c.index-waits.ensures in
    let tidy = rw (← c.self.view_is) at c.requires.tidy in
    rw (c.len-makes.ensures, c.outcome.ensures, c.in_ok-action.ensures, c.job-job.ensures, c.done-done.ensures.outcome, c.done-done.ensures.job, c.as_slice.ensures.value, c.in_ok-hand.ensures)
    (plan_long _ c.args.i c.index-waits.result.now c.args.id c.args.entry tidy there)

pub returns-clause-plan : goal.returns-clause-plan
returns-clause-plan g c =
    let inside : c.args.i < length c.self.inside.pending.items = rw (← c.self.view_is) at c.requires.there in
    let there = slice_get_is c.self.inside.pending.items c.args.i c.index-waits.result.now inside c.index-waits.ensures in
    let hand = c.as_slice.ensures.value ∙ c.in_ok-hand.ensures in
    let ups = rw (c.rider.ensures, c.in_ok-plan.ensures.ups, c.len-makes.ensures, c.in_ok-action.ensures) at c.in_ok-with_rider.ensures in
    rw (← c.self.view_is)
    (failure_is c.self.inside.pending.items c.args.i c.index-waits.result.now c.args.id c.args.entry c.job-job.result.now c.outcome.result.now
    c.as_slice.result.now _ there (c.job-job.ensures ∙ c.done-done.ensures.job) (c.outcome.ensures ∙ c.done-done.ensures.outcome) hand
    ups c.in_ok-plan.ensures.state (rw c.in_ok-action.ensures at c.in_ok-plan.ensures.due))

pub returns-clause-few : goal.returns-clause-few
returns-clause-few g c =
    let inside : c.args.i < length c.self.inside.pending.items = rw (← c.self.view_is) at c.requires.there in
    let there = slice_get_is c.self.inside.pending.items c.args.i c.index-waits.result.now inside c.index-waits.ensures in
    let tidy = rw (← c.self.view_is) at c.requires.tidy in
    let hand = c.as_slice.ensures.value ∙ c.in_ok-hand.ensures in
    let laws = rw (c.done-done.ensures.job, c.done-done.ensures.outcome) at c.lawful.ensures in
    let limit = plan_limit _ c.args.i c.index-waits.result.now c.args.id c.args.entry tidy there c.done-done.result.now.localities laws in
    let ups = rw (c.rider.ensures, c.in_ok-plan.ensures.ups, c.len-makes.ensures, c.in_ok-action.ensures) at c.in_ok-with_rider.ensures in
    failure_few c.self.inside.pending.items c.args.i c.index-waits.result.now c.args.id c.args.entry c.job-job.result.now c.outcome.result.now
    c.as_slice.result.now (record { state = c.in_ok-plan.plan.state; due = c.in_ok-plan.plan.due; ups = c.in_ok-with_rider.field-0 }) there (c.job-job.ensures ∙ c.done-done.ensures.job) (c.outcome.ensures ∙ c.done-done.ensures.outcome) hand
    ups limit
