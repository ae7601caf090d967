use Rattle.hpx_parcel.proofs.Seen.{list_is}
use Rattle.hpx_parcel.proofs.glance.values_in.Goals as goal

pub returns-clause-given : goal.returns-clause-given
returns-clause-given c =
    rw (c.only-to.ensures)
    (list_is c.args.limit c.args.ids c.args.most c.args.bytes.now c.in_ok-count.count c.in_ok-count.rest.now c.in_ok-seen.seen c.in_ok-seen.after.now c.in_ok-count.ensures.given c.in_ok-seen.ensures.given)
