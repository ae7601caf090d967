use Rattle.hpx_agas.specs.declared.record.Waiting.{Waiting}
use Rattle.hpx_node.proofs.Common.{Outgoing, Parcel, ap, arith, credit_owed, min, sum_by, ◌-◌, ◌^◌, ◌∙◌}
use Rattle.hpx_node.proofs.Held.{capped_five}
use Rattle.hpx_node.proofs.Messages.{messages_sum}
use Rattle.hpx_node.proofs.node.Node.owed.Goals as goal

pub returns : goal.returns
returns g c =
    let n = c.self.inside in
    let f = (credit_owed c.args.o) in
    rw (← c.self.view_is)
    (capped_five (2 ^ 128 - 1) (sum_by f n.desk.items) (sum_by (λ (x : Outgoing). credit_owed c.args.o x.parcel) n.outgoing.items)
    (sum_by (λ (w : Waiting Parcel). credit_owed c.args.o w.item) n.records.waiting) (sum_by f n.moves.leaving) (sum_by f n.moves.stray)
    c.saturating_add.result c.saturating_add-2.result c.saturating_add-3.result c.saturating_add-4.result
    (omega (arith, c.saturating_add.ensures, c.owed_in_letters.ensures, c.owed_on_the_way.ensures))
    (omega (arith, c.saturating_add-2.ensures, c.owed_in_queues.ensures))
    (omega (arith, c.saturating_add-3.ensures, c.owed_in_letters-2.ensures, ap (sum_by f) c.leaving.ensures))
    (omega (arith, c.saturating_add-4.ensures, c.owed_in_letters-3.ensures, ap (sum_by f) c.stray.ensures))
    ∙ ap (min (2 ^ 128 - 1)) (messages_sum f n.desk.items n.outgoing.items n.records.waiting n.moves.leaving n.moves.stray))
