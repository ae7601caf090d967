use Rattle.hpx_site.proofs.workers.run_workers.Goals as goal

pub returns-then-short-clause-short : goal.returns-then-short-clause-short
returns-then-short-clause-short g c = c.is_short-short.ensures.0 c.if-short.true
