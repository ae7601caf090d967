use Rattle.std.proofs.Common.{sym}
use Rattle.hpx_journal.proofs.Seek.{covers_more, covers_not, minus_more}
use Rattle.hpx_journal.proofs.bag.Bag.take_each.Goals as goal

pub returns-in-None-clause-covers : goal.returns-in-None-clause-covers
returns-in-None-clause-covers g c = (
  λ h. cc,
  λ h. absurd (covers_not g.T.Keyed.test c.args.self.now c.loop-key.self c.loop-key.self c.args.keys.now c.loop-key.key-index c.key-item.result
      c.loop-key-test.true c.key-item.is (sym c.in-None.ensures.found) c.loop-key.invariant.covers h),
)

pub loop-key-preserved : goal.loop-key-preserved
loop-key-preserved g c = record {
  covers = covers_more g.T.Keyed.test c.args.self.now c.loop-key.self c.take.new.self c.args.keys.now c.loop-key.key-index c.key-item.result
      c.loop-key-test.true c.key-item.is c.in-Some.field-0 (sym c.in-Some.ensures.found) c.take.ensures.rest c.loop-key.invariant.covers;
  rest = minus_more g.T.Keyed.test c.args.self.now c.loop-key.self c.take.new.self c.args.keys.now c.loop-key.key-index c.key-item.result
      c.loop-key-test.true c.key-item.is c.take.ensures.rest c.loop-key.invariant.rest;
}
