use Rattle.std.proofs.Common.{arith}
use Rattle.hpx_parcel.proofs.Seen.{tells_ok, act_is}
use Rattle.hpx_parcel.proofs.glance.act_in.Goals as goal

pub returns-else-rest-bytes : goal.returns-else-rest-bytes
returns-else-rest-bytes c =
    let own = c.in-Ok.target-1-own.given in
    let id = rw (c.target.ensures) at (tells_ok _ c.id_with.result _ own.0.0 c.id_with.ensures own.1) in
    rw (c.place-to.ensures)
    (act_is c.args.rule c.args.bytes.now c.in_ok-origin.origin c.in_ok-origin.rest.now c.in_ok-_serial._serial c.in_ok-_serial.rest.now own.0.0.0 own.0.0.1.now c.in_ok-to-in-Ok.to
    c.in_ok-to-in-Ok.most c.in_ok-to-in-Ok.rest.now (λ i. omega (arith, c.type_inv.bytes i)) c.in_ok-origin.ensures c.in_ok-_serial.ensures id c.in_ok-to-in-Ok.ensures c.if-rest-bytes.false)
