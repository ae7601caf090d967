use Rattle.std.proofs.Common.{rules, sym, subst, ◌∙◌, length, ◌<◌, List}
use Rattle.hpx_journal.specs.Bags.{IsFirst}
use Rattle.hpx_journal.proofs.Seek.{first_here}
use Rattle.hpx_journal.proofs.bag.Bag.place.Goals as goal

pub returns-then-is : goal.returns-then-is
returns-then-is g c =
    let xs = c.self.inside.items.items in
    let P : List g.row.T.Denot → Type 0 = λ ys. IsFirst (g.T.Keyed.test c.args.key.now) ys c.loop-i.i in
    subst P c.self.view_is
    (first_here (g.T.Keyed.test c.args.key.now) xs c.loop-i.i c.index.result.now
    (let h : c.loop-i.i < length c.self.inside.items.items = search rules in h)
    c.index.ensures (sym c.is.ensures ∙ c.if-is.true) c.loop-i.invariant.found c.loop-i.invariant.rest)
