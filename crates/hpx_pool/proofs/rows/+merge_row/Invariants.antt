use Rattle.std.proofs.Common.{length}
use Rattle.hpx_pool.proofs.rows.+merge_row.Given as goal

abbrev pub decreases-merge_row : goal.decreases-merge_row
decreases-merge_row l = length l.hands.now
