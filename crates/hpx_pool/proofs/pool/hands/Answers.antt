use Rattle.hpx_pool.proofs.Steps.{lone_frames, lone_put, lone_got, if_ok_bag}
use Rattle.hpx_pool.specs.Bags.{joined}
use Rattle.hpx_pool.specs.Hands.{put_of, got_of}
use Rattle.hpx_pool.proofs.pool.hands.Goals as goal

pub returns-then-n-eq1-clause-all : goal.returns-then-n-eq1-clause-all
returns-then-n-eq1-clause-all c = lone_frames c.in_ok-all.all.items c.in_ok-all.ensures.1

pub returns-then-n-eq1-clause-put : goal.returns-then-n-eq1-clause-put
returns-then-n-eq1-clause-put c = lone_put _ c.in_ok-all.ensures.1

pub returns-then-n-eq1-clause-got : goal.returns-then-n-eq1-clause-got
returns-then-n-eq1-clause-got c = lone_got _ c.in_ok-all.ensures.1

pub share_all-requires-clause-all : goal.share_all-requires-clause-all
share_all-requires-clause-all c = lone_frames c.in_ok-all.all.items c.in_ok-all.ensures.1

pub returns-clause-put : goal.returns-clause-put
returns-clause-put c = if_ok_bag (λ v. joined put_of v.items) _ _ (lone_put c.in_ok-all.all.items c.in_ok-all.ensures.1) c.share_all.ensures.put

pub returns-clause-got : goal.returns-clause-got
returns-clause-got c = if_ok_bag (λ v. joined got_of v.items) _ _ (lone_got c.in_ok-all.all.items c.in_ok-all.ensures.1) c.share_all.ensures.got
