use Rattle.std.proofs.Common.{arith}
use Rattle.hpx_pool.proofs.Steps.{drained, drain_first, drain_rest}
use Rattle.hpx_pool.proofs.rows.+drain_all.Goals as goal

pub drain-requires-clause-all : goal.drain-requires-clause-all
drain-requires-clause-all t c = (drain_first _ _ c.in-Some.first.now c.in-Some.rest.now c.args.hands.now c.requires c.in-Some.ensures.cases.0).0.0

pub drain-requires-clause-room : goal.drain-requires-clause-room
drain-requires-clause-room t c = let r = drain_first _ _ c.in-Some.first.now c.in-Some.rest.now c.args.hands.now c.requires c.in-Some.ensures.cases.0 in (r.1, r.2)

pub drain_all-requires : goal.drain_all-requires
drain_all-requires t c = (omega (arith, c.in-Some.ensures.cases.1), drain_rest _ _ _ _ c.in-Some.first.now c.in-Some.rest.now c.args.hands.now c.requires c.in-Some.ensures.cases.0 c.drain.ensures.room.0 c.drain.ensures.room.1)

pub returns-in-Some : goal.returns-in-Some
returns-in-Some t c = drained _ _ c.in-Some.first.now c.in-Some.rest.now c.args.hands.now c.drain_all.new.left.items c.drain.new.left.items c.args.left.now.items c.in-Some.ensures.cases.0 c.requires c.drain.ensures.taken c.drain_all.ensures
