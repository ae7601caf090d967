use Rattle.std.proofs.Common.{length}
use Rattle.app_console.proofs.read.+awaits_in.Given as goal

-- proposed from what the function passes where it calls itself
abbrev pub decreases-awaits_in : goal.decreases-awaits_in
decreases-awaits_in l = length l.values.now
