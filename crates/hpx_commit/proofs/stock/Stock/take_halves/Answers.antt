use Rattle.std.proofs.Common.{◌+◌, sym, subst}
use Rattle.hpx_commit.proofs.StockLoops.{IsTaking, taking_first, taking_next, taking_some}
use Rattle.hpx_commit.proofs.stock.Stock.take_halves.Goals as goal

pub loop-i-init : goal.loop-i-init
loop-i-init c = taking_first c.args.place c.args.times c.args.self.now c.requires.here c.requires.log

pub take_half-requires-clause-log : goal.take_half-requires-clause-log
take_half-requires-clause-log c =
    taking_some c.args.place c.args.times c.loop-i._i c.args.self.now c.loop-i.self c.loop-i-test.true c.loop-i.invariant

pub loop-i-preserved : goal.loop-i-preserved
loop-i-preserved c =
    subst (IsTaking c.args.place c.args.times (c.loop-i._i + 1) c.args.self.now) (sym c.in_ok-take_half.ensures)
    (taking_next c.args.place c.args.times c.loop-i._i c.args.self.now c.loop-i.self c.loop-i-test.true c.loop-i.invariant)
