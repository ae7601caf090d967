use Rattle.std.proofs.Common.{ap, ◌∙◌, arith}
use Rattle.hpx_commit.specs.Stocks.{first_moved}
use Rattle.hpx_commit.proofs.StockLoops.{moved_here}
use Rattle.hpx_commit.proofs.stock.move_first.Goals as goal

pub returns-then-places-i : goal.returns-then-places-i
returns-then-places-i c =
    moved_here c.args.from c.args.to c.loop-i.i c.loop-i.places (first_moved c.args.from c.args.to c.args.places.now)
    (omega (arith, c.loop-i-test.true, c.loop-i.auto.places)) c.if-places-i.true
    (c.loop-i.invariant.all ∙ ap (first_moved c.args.from c.args.to) c.loop-i.invariant.same)
