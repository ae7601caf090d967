use Rattle.hpx_node.proofs.Common.{acts_on, any_at, fired_of, is_busy}
use Rattle.hpx_node.proofs.Departs.{done_if, done_none}
use Rattle.hpx_node.proofs.node.Node.is_done_with.Goals as goal

pub returns-in-Some : goal.returns-in-Some
returns-in-Some g c =
    let n = c.self.inside in
    let s = c.in-Some.ensures.some in
    rw (← c.self.view_is) (done_none (is_busy c.args.o (fired_of n.running.items n.pending.items)) _ (any_at (acts_on c.args.o) n.accepted.items c.in-Some.field-0 s.0 s.1 s.2))

pub returns-in-None : goal.returns-in-None
returns-in-None g c =
    let n = c.self.inside in
    rw (← c.self.view_is, c.is_busy.ensures, c.as_slice.ensures.value, c.as_slice-in-None.ensures.value)
    (done_if (is_busy c.args.o (fired_of n.running.items n.pending.items)) _ c.in-None.ensures.none)
