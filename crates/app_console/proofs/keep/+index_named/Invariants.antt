use Rattle.std.proofs.Common.{length}
use Rattle.app_console.proofs.keep.+index_named.Given as goal

abbrev pub decreases-index_named : goal.decreases-index_named
decreases-index_named l = length l.names.now
