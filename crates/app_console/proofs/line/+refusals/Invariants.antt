use Rattle.std.proofs.Common.{length}
use Rattle.app_console.proofs.line.+refusals.Given as goal

abbrev pub decreases-refusals : goal.decreases-refusals
decreases-refusals l = length l.words.now
