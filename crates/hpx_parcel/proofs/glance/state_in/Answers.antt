use Rattle.hpx_parcel.proofs.Seen.{state_is}
use Rattle.hpx_parcel.proofs.glance.state_in.Goals as goal

pub returns : goal.returns
returns c =
    state_is c.args.before c.args.bytes.now c.in_ok-_drawn._drawn c.in_ok-_drawn.rest.now c.in_ok-seen.seen c.in_ok-seen.rest.now c.in_ok-count.count c.in_ok-count.rest.now c.in_ok-most.most
    c.in_ok-most.rest.now c.in_ok-_drawn.ensures c.in_ok-seen.ensures.given c.in_ok-count.ensures.given c.in_ok-most.ensures c.if-rest-bytes.false
