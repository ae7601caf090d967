use Rattle.std.specs.Prelude.{OnOk}
use Rattle.std.proofs.Common.{rules, ◌≡◌, ◌++◌, ◌+◌}
use Rattle.app_compute.specs.Ring.{last_or}
use Rattle.app_compute.specs.StencilSession.{next_of, step_call, step_calls}
use Rattle.app_compute.proofs.RingLists.{on_ok_map, rest_of, steps_pushed}
use Rattle.app_compute.proofs.stencil.+push_steps.Goals as goal

pub returns-in_ok-push-in-len1-up-rows : goal.returns-in_ok-push-in-len1-up-rows
returns-in_ok-push-in-len1-up-rows t c =
    let next : c.next_of-next.result ≡ next_of (rest_of c.args.rows.now) c.args.right = search rules in
    let call : c.in_ok-step_call-in-len1-up-rows.field-0 ≡ step_call c.args.slot c.part-item.result.to c.args.left c.next_of-next.result = search rules in
    let last : c.last_or-last.result ≡ last_or c.row-item.result c.args.left = search rules in
    let pushed : OnOk c.push_steps.result (c.push_steps.new.sends ≡ c.push.new.self ++ step_calls (c.args.slot + 1) c.last_or-last.result (rest_of c.args.parts.now) (rest_of c.args.rows.now) c.args.right) = search rules in
    on_ok_map c.push_steps.result _ _
    (λ e. steps_pushed c.args.sends.now c.push.new.self c.push_steps.new.sends c.args.slot c.args.left c.args.right c.args.parts.now c.args.rows.now
    c.part-item.result c.row-item.result c.in_ok-step_call-in-len1-up-rows.field-0 c.next_of-next.result c.last_or-last.result
    c.in-len1-up.len_at_least c.in-len1-up-rows.len_at_least c.part-item.is c.row-item.is next call last c.in_ok-push-in-len1-up-rows.ensures.ok e) pushed
