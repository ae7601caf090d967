use Rattle.std.proofs.Common.{length}
use Rattle.hpx_pool.proofs.rows.+left_all.Given as goal

abbrev pub decreases-left_all : goal.decreases-left_all
decreases-left_all l = length l.hands.now
