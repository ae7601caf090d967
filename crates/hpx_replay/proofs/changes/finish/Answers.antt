use Rattle.hpx_replay.proofs.Leaves.{finish_same}
use Rattle.hpx_replay.proofs.changes.finish.Goals as goal

pub returns : goal.returns
returns c = λ r e.
    finish_same r c.args.local.now c.args.action c.args.outcome.now c.in-Some.act c.in-Some-take.x c.target.result c.as_slice.result.now
    c.in_ok-due.state c.in_ok-due.due.items c.take-2.new.self c.in-Some.ensures.found c.target.ensures c.in-Some-take.ensures.found e
    c.as_slice.ensures c.take.new.self c.put-2.new.self c.put.new.self c.from_vec.result c.new.result c.take.ensures.rest
    c.in_ok-put-2.ensures.ok c.take-2.ensures.rest c.in_ok-due.ensures.due c.in_ok-due.ensures.state c.in_ok-put.ensures.ok c.from_vec.ensures
    c.new.ensures
