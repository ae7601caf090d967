use Rattle.hpx_commit.proofs.StockLoops.{IsSplitting}
use Rattle.hpx_commit.proofs.stock.Stock.split_first.Given as goal

abbrev pub invariant-loop-place : goal.invariant-loop-place
invariant-loop-place l = IsSplitting l.n l.place l.fn.self l.self
