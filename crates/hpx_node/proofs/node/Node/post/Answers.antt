use Rattle.hpx_node.proofs.Common.{Parcel, Registry, ap, move_to, sym, target_of, ◌∙◌}
use Rattle.hpx_node.proofs.Routed.{goes_accept, goes_to, letter_may, moves_some, queue_moves, queued_goes}
use Rattle.hpx_node.proofs.node.Node.post.Goals as goal

pub returns-in-Accept-clause-goes : goal.returns-in-Accept-clause-goes
returns-in-Accept-clause-goes g c =
    let way = rw (← c.self.view_is) at c.in-Accept.ensures in
    rw (← c.self.view_is, c.push_back_reserved.ensures.items, c.new.ensures) (goes_accept c.args.act _ (sym way))

pub queue-requires-clause-moving : goal.queue-requires-clause-moving
queue-requires-clause-moving g c =
    let t = c.args.self.now.tables in
    let moves = moves_some t.records (target_of c.args.act) (queue_moves t (target_of c.args.act) (move_to c.args.act) (sym c.in-Queue.ensures)) in
    rw c.target-o.ensures (rw (← c.self.view_is) at moves)

pub returns-in-Queue-clause-goes : goal.returns-in-Queue-clause-goes
returns-in-Queue-clause-goes g c =
    let way = rw (← c.self.view_is) at c.in-Queue.ensures in
    rw (← c.self.view_is)
    (queued_goes c.args.act _ c.queue.new.self.births c.queue.new.self.records c.queue.new.self.waiting (sym way) (ap (λ (x : Registry Parcel). x.births) c.queue.ensures.rest)
    (ap (λ (x : Registry Parcel). x.records) c.queue.ensures.rest) (rw (c.into_letter.ensures, c.new-in-Queue.ensures, c.target-o.ensures) at c.queue.ensures.all))

pub mail-requires-clause-may : goal.mail-requires-clause-may
mail-requires-clause-may g c = rw (c.into_letter-in-To.ensures, c.new-in-To.ensures) (letter_may c.args.self.now.tables c.args.act c.in-To.to (sym c.in-To.ensures))

pub returns-in-To-clause-goes : goal.returns-in-To-clause-goes
returns-in-To-clause-goes g c =
    let goes = rw (c.into_letter-in-To.ensures, c.new-in-To.ensures) at c.mail.ensures.goes in
    goes ∙ goes_to c.args.act c.args.self.now.tables c.in-To.to (sym c.in-To.ensures)

pub begin_move-requires-clause-way : goal.begin_move-requires-clause-way
begin_move-requires-clause-way g c = sym c.in-Begin.ensures
