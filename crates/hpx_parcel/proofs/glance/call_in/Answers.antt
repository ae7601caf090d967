use Rattle.std.proofs.Common.{sym}
use Rattle.hpx_parcel.proofs.Seen.{call_is}
use Rattle.hpx_parcel.proofs.glance.call_in.Goals as goal

pub returns-in-Ok : goal.returns-in-Ok
returns-in-Ok c =
    let seen = rw (c.max.ensures, c.home.ensures) at c.in_ok-seen.ensures.given in
    rw (c.most_with.ensures)
    (call_is c.args.rule c.args.most c.args.target c.args.bytes.now c.in_ok-code.code c.in_ok-code.rest.now c.in_ok-seen.seen c.in_ok-seen.after.now c.in-Ok._cont c.in-Ok.id c.in-Ok.last.now
    c.in_ok-code.ensures (sym c.if-not-takes_code.ensures) seen (sym c.if-not-takes_place.ensures) c.in-Ok.ensures)
