use Rattle.std.proofs.Common.{length}
use Rattle.hpx_pool.proofs.jobs.+steal_any.Given as goal

abbrev pub decreases-steal_any : goal.decreases-steal_any
decreases-steal_any g l = length l.thieves.now
