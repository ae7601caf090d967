use Rattle.hpx_node.proofs.Common.{Act, Waits, ap, arith, credit_in, ids_kept, sum_by, ◌-◌, ◌^◌}
use Rattle.hpx_node.proofs.Held.{capped_five}
use Rattle.hpx_node.proofs.node.Node.held.Goals as goal

pub returns : goal.returns
returns g c =
    let running = ap (sum_by (λ (a : Act). credit_in c.args.o a.ids)) c.as_slice.ensures.value in
    let pending = ap (sum_by (λ (w : Waits). credit_in c.args.o (ids_kept w))) c.as_slice-2.ensures.value in
    rw (← c.self.view_is)
    (capped_five (2 ^ 128 - 1) _ _ _ _ _ c.saturating_add.result c.saturating_add-2.result c.saturating_add-3.result c.saturating_add-4.result
    (omega (arith, c.saturating_add.ensures, c.held_in_states.ensures, c.held_in_accepted.ensures))
    (omega (arith, c.saturating_add-2.ensures, c.held_in_running.ensures, running))
    (omega (arith, c.saturating_add-3.ensures, c.held_in_commits.ensures, pending))
    (omega (arith, c.saturating_add-4.ensures, rw (← c.self.view_is) at c.held_in_messages.ensures)))
