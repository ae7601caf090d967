use Rattle.hpx_agas.specs.declared.record.Waiting.{Waiting}
use Rattle.hpx_node.proofs.Common.{Outgoing, Parcel, ap, arith, credit_in, ids_held, min, sum_by, ◌-◌, ◌^◌, ◌∙◌}
use Rattle.hpx_node.proofs.Held.{capped_five}
use Rattle.hpx_node.proofs.Messages.{messages_sum}
use Rattle.hpx_node.proofs.node.Node.held_in_messages.Goals as goal

pub returns : goal.returns
returns g c =
    let n = c.self.inside in
    let f = (λ (p : Parcel). credit_in c.args.o (ids_held p)) in
    rw (← c.self.view_is)
    (capped_five (2 ^ 128 - 1) (sum_by f n.desk.items) (sum_by (λ (x : Outgoing). credit_in c.args.o (ids_held x.parcel)) n.outgoing.items)
    (sum_by (λ (w : Waiting Parcel). credit_in c.args.o (ids_held w.item)) n.records.waiting) (sum_by f n.moves.leaving) (sum_by f n.moves.stray)
    c.saturating_add.result c.saturating_add-2.result c.saturating_add-3.result c.saturating_add-4.result
    (omega (arith, c.saturating_add.ensures, c.held_in_letters.ensures, c.held_on_the_way.ensures))
    (omega (arith, c.saturating_add-2.ensures, c.held_in_queues.ensures))
    (omega (arith, c.saturating_add-3.ensures, c.held_in_letters-2.ensures, ap (sum_by f) c.leaving.ensures))
    (omega (arith, c.saturating_add-4.ensures, c.held_in_letters-3.ensures, ap (sum_by f) c.stray.ensures))
    ∙ ap (min (2 ^ 128 - 1)) (messages_sum f n.desk.items n.outgoing.items n.records.waiting n.moves.leaving n.moves.stray))
