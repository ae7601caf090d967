use Rattle.std.proofs.Common.{sym, ◌∙◌}
use Rattle.hpx_parcel.proofs.Seen.{ints_cut, ints_here}
use Rattle.hpx_parcel.proofs.glance.past_ints.Goals as goal

pub returns-then-rest-len : goal.returns-then-rest-len
returns-then-rest-len c = let s = c.cut_off.ensures in rw s (ints_cut c.args.bytes.now c.in_ok-count.count c.in_ok-count.rest.now c.in_ok-count.ensures.given c.if-rest-len.true)

pub returns : goal.returns
returns c = let o = ints_here c.args.bytes.now c.in_ok-count.count c.in_ok-count.rest.now c.in_ok-count.ensures.given c.if-rest-len.false in (o.0, o.1, o.2 ∙ sym c.split_at.ensures.back)
