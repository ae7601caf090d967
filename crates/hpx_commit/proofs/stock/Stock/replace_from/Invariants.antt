use Rattle.hpx_commit.proofs.Later.{IsReplacing}
use Rattle.hpx_commit.proofs.stock.Stock.replace_from.Given as goal

abbrev pub invariant-loop-i : goal.invariant-loop-i
invariant-loop-i l = IsReplacing l.first l.ids l.i l.fn.self l.self
