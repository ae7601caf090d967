use Rattle.std.proofs.Common.{None}
use Rattle.hpx_site.specs.Held.{Held}
use Rattle.hpx_site.specs.Seen.{seen}
use Rattle.hpx_site.proofs.workers.step_alone.Given as goal

-- no step so far was refused
abbrev pub invariant-loop-step : goal.invariant-loop-step
invariant-loop-step g l =
    let F = g.F.Fabric in
    Held {A = g.row.A.Denot} {g = g.A.Acts} g.A.Acts.act_of (seen l.fn.world (F.flight l.fn.fabric) (F.trace l.fn.fabric) (F.faults l.fn.fabric) (F.latest l.fn.fabric))
    (seen l.world (F.flight l.fabric) (F.trace l.fabric) (F.faults l.fabric) (F.latest l.fabric)) None
