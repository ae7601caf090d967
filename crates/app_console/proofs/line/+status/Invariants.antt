use Rattle.std.proofs.Common.{length}
use Rattle.app_console.proofs.line.+status.Given as goal

abbrev pub decreases-status : goal.decreases-status
decreases-status l = length l.names.now
