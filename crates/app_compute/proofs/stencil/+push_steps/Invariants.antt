use Rattle.std.proofs.Common.{length}
use Rattle.app_compute.proofs.stencil.+push_steps.Given as goal

abbrev pub decreases-push_steps : goal.decreases-push_steps
decreases-push_steps l = length l.parts.now
