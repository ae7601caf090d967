use Rattle.hpx_pool.proofs.Steps.{merged_got}
use Rattle.hpx_pool.proofs.rows.+merge_row.Goals as goal

pub returns-in-Some-pop-clause-got : goal.returns-in-Some-pop-clause-got
returns-in-Some-pop-clause-got t c = merged_got c.take_in.new.self c.in-Some.last.now c.merge_row.new.hands c.in-Some.rest.now c.args.hands.now c.args.row.items c.pop.new.self.items c.in-Some-pop.thief c.in-Some.ensures.cases.0 c.in-Some-pop.ensures.items c.take_in.ensures.got c.merge_row.ensures.got
