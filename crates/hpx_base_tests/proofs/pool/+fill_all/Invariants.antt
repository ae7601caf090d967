use Rattle.std.proofs.Common.{length}
use Rattle.hpx_base_tests.proofs.pool.+fill_all.Given as goal

abbrev pub decreases-fill_all : goal.decreases-fill_all
decreases-fill_all l = length l.pool.now
