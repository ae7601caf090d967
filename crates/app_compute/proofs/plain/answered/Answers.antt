use Rattle.std.proofs.Common.{ap, sym, ◌∙◌}
use Rattle.hpx_value.specs.Kept.{stays}
use Rattle.hpx_calls.specs.Outcomes.{comes_to}
use Rattle.hpx_calls.proofs.Fronts.{ok_is}
use Rattle.app_compute.specs.Types.{Answers}
use Rattle.app_compute.proofs.Answers.{stays_as}
use Rattle.app_compute.proofs.plain.answered.Goals as goal

pub returns : goal.returns
returns c =
    let s = c.args.state.now in
    let a = c.args.action.now in
    ok_is c.outcome.result (stays s a c.args.value) (comes_to c.args.here s a c.in_ok-duplicate.field-0 (Answers c.args.value))
    (sym (ap (λ vs. comes_to c.args.here s a vs (Answers c.args.value)) c.in_ok-duplicate.ensures ∙ stays_as c.args.here s a c.args.value))
    c.outcome.ensures
