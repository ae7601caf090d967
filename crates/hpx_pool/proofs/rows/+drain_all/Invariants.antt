use Rattle.std.proofs.Common.{length}
use Rattle.hpx_pool.proofs.rows.+drain_all.Given as goal

abbrev pub decreases-drain_all : goal.decreases-drain_all
decreases-drain_all l = length l.hands.now
