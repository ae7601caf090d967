use Rattle.hpx_parcel.proofs.Seen.{plain_text, plain_ints}
use Rattle.hpx_parcel.proofs.glance.plain_in.Goals as goal

pub returns-in_ok-_text-in-3 : goal.returns-in_ok-_text-in-3
returns-in_ok-_text-in-3 c = rw (c.in-3.is) (plain_text c.args.bytes.now c.args.rest.now c.in_ok-_text-in-3._text.now c.in_ok-_text-in-3.after.now c.in_ok-_text-in-3.ensures)

pub returns-in_ok-after-in-6 : goal.returns-in_ok-after-in-6
returns-in_ok-after-in-6 c = rw (c.in-6.is) (plain_ints c.args.bytes.now c.args.rest.now c.in_ok-after-in-6.after.now c.in_ok-after-in-6.ensures)
