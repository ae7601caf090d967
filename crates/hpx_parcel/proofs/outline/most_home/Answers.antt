use Rattle.std.proofs.Common.{◌≡◌, List, [], drop, sym, ap, ◌∙◌}
use Rattle.std.proofs.Math.ListN.{drop_of_length-le}
use Rattle.hpx_parcel.specs.Types.{Id}
use Rattle.hpx_parcel.specs.Outlines.{most_home}
use Rattle.hpx_parcel.proofs.Seen.{most_on}
use Rattle.hpx_parcel.proofs.outline.most_home.Goals as goal

pub loop-id-preserved : goal.loop-id-preserved
loop-id-preserved c =
    let next = most_on c.loop-id.most c.loop-id.id-index c.args.ids.now c.id-item.result c.loop-id-test.true c.id-item.is in
    rw (c.max-most.ensures, c.home.ensures) (sym next ∙ c.loop-id.invariant)

pub returns : goal.returns
returns c =
    let none : drop c.loop-id.id-index c.args.ids.now ≡ [] = drop_of_length-le c.args.ids.now c.loop-id-test.false in
    sym (ap (λ (ids : List Id). most_home c.loop-id.most ids) none) ∙ c.loop-id.invariant
