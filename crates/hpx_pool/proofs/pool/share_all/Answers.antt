use Rattle.std.proofs.Common.{rules}
use Rattle.std.proofs.lemmas.List.{with_items_is, places}
use Rattle.hpx_pool.proofs.Steps.{shared_step}
use Rattle.hpx_pool.proofs.pool.share_all.Goals as goal

pub loop-preserved : goal.loop-preserved
loop-preserved c =
    let s = shared_step c.share_one.new.hands c.as_mut_slice.result.now c.loop.all.items c.args.all.items c.as_mut_slice.ensures.value (search (rules, places)) c.share_one.ensures.put c.share_one.ensures.got
    c.loop.invariant.0 c.loop.invariant.2 c.loop.invariant.3 in
    rw (with_items_is c.loop.all c.share_one.new.hands (search (rules, places))) (s.0, c.in_ok-share_one.ensures.all, s.1, s.2)
