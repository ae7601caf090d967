use Rattle.hpx_node.proofs.Common.{arith, drop, refl, slice_get_is, split_get, ◌∷◌, ◌≡◌}
use Rattle.hpx_node.proofs.node.Node.front.Goals as goal

pub returns-clause-some : goal.returns-clause-some
returns-clause-some g c =
    let x = c.index-first.result.now in
    let is : c.self.inside.outgoing.items ≡ x ∷ drop 1 c.self.inside.outgoing.items =
    split_get c.self.inside.outgoing.items 0 x (slice_get_is c.self.inside.outgoing.items 0 x (omega arith) c.index-first.ensures) in
    rw (← c.self.view_is) (record {
      first = x;
      rest = drop 1 c.self.inside.outgoing.items;
      is = is;
      place = refl;
      carried = c.parcel.ensures.parcel;
    })
