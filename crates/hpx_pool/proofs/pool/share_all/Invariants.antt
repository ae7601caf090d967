use Rattle.std.proofs.Common.{◌≡◌, map, length}
use Rattle.hpx_pool.specs.Bags.{SameBag, joined}
use Rattle.hpx_pool.specs.Hands.{put_of, got_of, frame_of, AreAll}
use Rattle.hpx_pool.proofs.pool.share_all.Given as goal

abbrev pub invariant-loop : goal.invariant-loop
invariant-loop l = (length l.all.items ≡ length l.initial.all.items) × AreAll (map frame_of l.all.items) × SameBag (joined put_of l.all.items) (joined put_of l.initial.all.items) × SameBag (joined got_of l.all.items) (joined got_of l.initial.all.items)
