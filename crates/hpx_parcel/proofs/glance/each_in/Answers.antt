use Rattle.hpx_parcel.proofs.Seen.{each_goes, each_fails, each_over}
use Rattle.hpx_parcel.proofs.glance.each_in.Goals as goal

pub returns-in-Err-clause-given : goal.returns-in-Err-clause-given
returns-in-Err-clause-given c =
    each_fails c.args.limit c.loop.seen c.args.before c.args.count c.loop.counter c.loop.rest.now _ _ c.loop-test.true c.in-Err.ensures.given c.loop.invariant.given

pub loop-preserved : goal.loop-preserved
loop-preserved c = record {
  given = each_goes c.args.limit c.loop.seen c.args.count c.loop.counter c.loop.rest.now c.in-Ok.next c.in-Ok.after.now _ c.loop-test.true c.in-Ok.ensures.given c.loop.invariant.given;
  few = λ start. c.in-Ok.ensures.few (c.loop.invariant.few start);
}

pub returns-clause-given : goal.returns-clause-given
returns-clause-given c = each_over c.args.limit c.loop.seen c.args.before c.args.count c.loop.counter c.loop.rest.now _ c.loop-test.false c.loop.invariant.given
