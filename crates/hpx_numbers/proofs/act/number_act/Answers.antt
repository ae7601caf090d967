use Rattle.std.proofs.Common.{ℕ, ◌≡◌}
use Rattle.hpx_calls.specs.Values.{spelled}
use Rattle.hpx_calls.specs.Contents.{layout}
use Rattle.hpx_calls.specs.Outcomes.{comes_to, outcome_of}
use Rattle.hpx_calls.proofs.Fronts.{ok_holds}
use Rattle.hpx_calls.proofs.Told.{comes_to-outcome}
use Rattle.hpx_numbers.proofs.act.number_act.Goals as goal

pub returns : goal.returns
returns c =
    let s = c.args.state.now in
    let a = c.args.action.now in
    let done = c.in_ok-called.called in
    ok_holds (λ o. (n : ℕ) → o ≡ outcome_of n c.args.kind c.args.here s a) c.outcome.result (comes_to c.args.here s a (layout spelled done.content) done.effect)
    (λ n. comes_to-outcome n c.args.kind c.args.here s a c.in_ok-content.content c.in_ok-request.request c.len-waiting.result c.is_some-waits.result done
    (c.in_ok-content.ensures.content n) c.in_ok-request.ensures c.len-waiting.ensures c.is_some-waits.ensures c.in_ok-called.ensures)
    c.outcome.ensures
