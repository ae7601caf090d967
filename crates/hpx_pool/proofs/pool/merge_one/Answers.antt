use Rattle.hpx_pool.proofs.Steps.{merge_asks, merge_all, merge_fewer}
use Rattle.hpx_pool.proofs.pool.merge_one.Goals as goal

pub merge_row-requires : goal.merge_row-requires
merge_row-requires c = merge_asks _ _ _ c.requires c.in-Some.ensures.some.0

pub returns-in-Some-clause-all : goal.returns-in-Some-clause-all
returns-in-Some-clause-all c = merge_all _ _ _ _ c.requires c.in-Some.ensures.some.0 c.merge_row.ensures.frames

pub returns-in-Some-clause-fewer : goal.returns-in-Some-clause-fewer
returns-in-Some-clause-fewer c _ = merge_fewer _ _ _ _ c.in-Some.ensures.some.0 c.merge_row.ensures.frames
