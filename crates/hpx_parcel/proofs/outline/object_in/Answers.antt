use Rattle.hpx_parcel.proofs.Outlined.{object_is}
use Rattle.hpx_parcel.proofs.outline.object_in.Goals as goal

pub returns-in_ok-most-in-Ok : goal.returns-in_ok-most-in-Ok
returns-in_ok-most-in-Ok c =
    let state = rw (c.moving-moved.ensures) at c.in_ok-most-in-Ok.ensures in
    rw (c.with_most.ensures, c.moving-moved.ensures)
    (object_is c.args.bytes.now c.in-Ok.act c.in-Ok.rest.now c.in_ok-most-in-Ok.most c.in_ok-most-in-Ok.rest.now c.in-Ok.ensures state)
