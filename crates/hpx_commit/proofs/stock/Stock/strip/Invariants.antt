use Rattle.hpx_commit.proofs.Stripped.{IsStripping}
use Rattle.hpx_commit.proofs.stock.Stock.strip.Given as goal

abbrev pub invariant-loop-place : goal.invariant-loop-place
invariant-loop-place l = IsStripping l.places l.place-index l.fn.self l.self
