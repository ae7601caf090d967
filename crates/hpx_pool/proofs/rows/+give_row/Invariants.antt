use Rattle.std.proofs.Common.{length}
use Rattle.hpx_pool.proofs.rows.+give_row.Given as goal

abbrev pub decreases-give_row : goal.decreases-give_row
decreases-give_row l = length l.hands.now
