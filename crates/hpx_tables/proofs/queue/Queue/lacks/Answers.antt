use Rattle.hpx_tables.proofs.Tallied.{none_held}
use Rattle.hpx_tables.proofs.queue.Queue.lacks.Goals as goal

pub returns : goal.returns
returns g c none_here =
    let none = c.lacks.ensures none_here in
    rw (← c.self.view_is)
    (none_held c.self.inside.tally g.T.Carries.ids_of c.self.inside.items.items c.args.o c.self.invariant none.0 none.1)
