use Rattle.hpx_parcel.proofs.Seen.{conts_go, conts_fail, conts_over, conts_first}
use Rattle.hpx_parcel.proofs.glance.conts_in.Goals as goal

pub loop-init : goal.loop-init
loop-init c = λ place. conts_first c.args.before c.args.count place c.args.bytes.now

pub returns-in-Err : goal.returns-in-Err
returns-in-Err c = λ place. conts_fail c.loop.most c.args.before place c.args.count c.loop.counter c.loop.rest.now c.in-Err.stop _ c.loop-test.true c.in-Err.ensures (c.loop.invariant place)

pub loop-preserved : goal.loop-preserved
loop-preserved c =
    rw (c.max-most.ensures, c.home.ensures)
    (λ place. conts_go c.loop.most place c.args.count c.loop.counter c.loop.rest.now c.in-Ok.link.id c.in-Ok.link.slot c.in-Ok.after.now _ c.loop-test.true c.in-Ok.ensures (c.loop.invariant place))

pub returns : goal.returns
returns c = λ place. conts_over c.loop.most c.args.before place c.args.count c.loop.counter c.loop.rest.now _ c.loop-test.false (c.loop.invariant place)
