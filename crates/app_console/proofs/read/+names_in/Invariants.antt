use Rattle.std.proofs.Common.{length}
use Rattle.app_console.proofs.read.+names_in.Given as goal

-- proposed from what the function passes where it calls itself
abbrev pub decreases-names_in : goal.decreases-names_in
decreases-names_in l = length l.values.now
