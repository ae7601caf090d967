use Rattle.std.specs.Map.{values_of}
use Rattle.hpx_part.specs.Data.{Standing}
use Rattle.hpx_tables.proofs.Tallied.{none_held}
use Rattle.hpx_tables.proofs.objects.Objects.lacks.Goals as goal

pub returns : goal.returns
returns c none_here =
    let none = c.lacks.ensures none_here in
    rw (← c.self.view_is)
    (none_held c.self.inside.tally (λ (x : Standing). x.state.ids) (values_of c.self.inside.items.entries) c.args.o c.self.invariant.1 none.0 none.1)
