use Rattle.hpx_site.proofs.Helds.{held_then}
use Rattle.hpx_site.proofs.workers.work_some.Goals as goal

pub returns-in-Ok-false : goal.returns-in-Ok-false
returns-in-Ok-false g c = record { held = held_then _ _ _ _ c.work_in.result c.in-Ok-false.ensures.held c.work_in.ensures.held }
