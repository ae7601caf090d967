use Rattle.hpx_commit.proofs.StockLoops.{IsTaking}
use Rattle.hpx_commit.proofs.stock.Stock.take_halves.Given as goal

abbrev pub invariant-loop-i : goal.invariant-loop-i
invariant-loop-i l = IsTaking l.place l.times l._i l.fn.self l.self
