use Rattle.std.proofs.Common.{length}
use Rattle.app_console.proofs.line.+seek.Given as goal

abbrev pub decreases-seek : goal.decreases-seek
decreases-seek l = length l.names.now
