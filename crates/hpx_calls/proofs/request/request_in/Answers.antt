use Rattle.std.proofs.Common.{◌∙◌, length}
use Rattle.hpx_calls.specs.Outcomes.{has_cont}
use Rattle.hpx_calls.proofs.Fronts.{many_told}
use Rattle.hpx_calls.proofs.request.request_in.Goals as goal

pub returns-in-len3-up : goal.returns-in-len3-up
returns-in-len3-up c =
    many_told c.args.action.now.code c.in-Ok.by (length c.args.state.now.ids) (has_cont c.args.action.now.cont) c.args.action.now.args
    c.as_slice.result.now c.as_slice-in-len3-up.result.now c.first-item-2.result c.many.result
    (c.in-Ok.ensures.1 ∙ c.len.ensures) c.as_slice.ensures c.as_slice-in-len3-up.ensures c.in-len3-up.len_at_least c.first-item-2.is c.many.ensures
