use Rattle.std.proofs.Common.{length}
use Rattle.hpx_pool.proofs.rows.+cut_row.Given as goal

abbrev pub decreases-cut_row : goal.decreases-cut_row
decreases-cut_row l = length l.hands.now
