use Rattle.std.proofs.Common.{◌+◌, sym, subst}
use Rattle.hpx_commit.proofs.StockLoops.{IsSplitting, splitting_first, splitting_next}
use Rattle.hpx_commit.proofs.stock.Stock.split_first.Goals as goal

pub loop-place-init : goal.loop-place-init
loop-place-init c = splitting_first c.args.n c.args.self.now c.requires.fits

pub loop-place-preserved : goal.loop-place-preserved
loop-place-preserved c =
    subst (IsSplitting c.args.n (c.loop-place.place + 1) c.args.self.now) (sym c.in_ok-split_place.ensures)
    (splitting_next c.args.n c.loop-place.place c.args.self.now c.loop-place.self c.loop-place-test.true c.loop-place.invariant)
