use Rattle.hpx_process.proofs.Short.{number_made}
use Rattle.hpx_process.proofs.problem.number_line.Goals as goal

pub returns-clause-short : goal.returns-clause-short
returns-clause-short c = number_made c.fib_line.result c.args.number c.args.threshold c.ranges.number.fits c.ranges.threshold.fits c.fib_line.ensures
