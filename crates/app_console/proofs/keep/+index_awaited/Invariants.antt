use Rattle.std.proofs.Common.{length}
use Rattle.app_console.proofs.keep.+index_awaited.Given as goal

abbrev pub decreases-index_awaited : goal.decreases-index_awaited
decreases-index_awaited l = length l.awaits.now
