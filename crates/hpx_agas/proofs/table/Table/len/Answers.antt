use Rattle.hpx_agas.proofs.TablesLemmas.{kept_rises}
use Rattle.hpx_agas.proofs.table.Table.len.Goals as goal

pub returns-clause-rising : goal.returns-clause-rising
returns-clause-rising g c = rw (← c.self.view_is) (kept_rises 0 c.self.inside.births c.self.inside.lines c.self.invariant.lines)
