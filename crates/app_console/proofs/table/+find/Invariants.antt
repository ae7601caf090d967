use Rattle.std.proofs.Common.{length}
use Rattle.app_console.proofs.table.+find.Given as goal

abbrev pub decreases-find : goal.decreases-find
decreases-find l = length l.commands.now
