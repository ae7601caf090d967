use Rattle.hpx_process.proofs.Short.{ring_made}
use Rattle.hpx_process.proofs.problem.ring_line.Goals as goal

pub returns-clause-short : goal.returns-clause-short
returns-clause-short c = ring_made c.stencil_line.result c.args.points c.args.parts c.args.steps c.ranges.points.fits c.ranges.parts.fits c.ranges.steps.fits c.stencil_line.ensures
