use Rattle.std.proofs.Common.{arith, ◌+◌, ◌∙◌, ap, ◌++◌, ◌∷◌, []}
use Rattle.hpx_launch.proofs.Children.{children_more, front_so, starts_more}
use Rattle.hpx_launch.proofs.launch.start_all.Goals as goal

pub returns-in_err-words-clause-front : goal.returns-in_err-words-clause-front
returns-in_err-words-clause-front g c = front_so c.args.launch.now _ _ c.loop-node.node (omega arith) c.loop-node.invariant.started

pub returns-in_err-start-clause-front : goal.returns-in_err-start-clause-front
returns-in_err-start-clause-front g c =
    front_so c.args.launch.now _ _ c.loop-node.node (omega arith) (c.in_err-start.ensures.started_err ∙ c.loop-node.invariant.started)

pub returns-in_err-push-clause-front : goal.returns-in_err-push-clause-front
returns-in_err-push-clause-front g c =
    let one = c.in_ok-start.ensures.started
    ∙ ap (λ words. g.P.Spawner.started c.loop-node.spawner ++ (c.args.launch.now.program, words) ∷ []) c.in_ok-words.ensures in
    front_so c.args.launch.now _ _ (c.loop-node.node + 1) (omega arith)
    (starts_more c.args.launch.now _ _ _ c.loop-node.node c.loop-node.invariant.started one)

pub loop-node-preserved : goal.loop-node-preserved
loop-node-preserved g c =
    let inv = c.loop-node.invariant in
    let one = c.in_ok-start.ensures.started
    ∙ ap (λ words. g.P.Spawner.started c.loop-node.spawner ++ (c.args.launch.now.program, words) ∷ []) c.in_ok-words.ensures in
    record {
      children = children_more c.args.launch.now _ _ c.loop-node.node _ _ _ inv.children inv.started c.in_ok-start.ensures.place c.in_ok-push.ensures.ok;
      started = starts_more c.args.launch.now _ _ _ c.loop-node.node inv.started one;
      ended = c.in_ok-start.ensures.ended ∙ inv.ended;
      calm = c.in_ok-start.ensures.stands (λ failed. cc) ∙ inv.calm;
    }

pub returns-clause-front : goal.returns-clause-front
returns-clause-front g c = front_so c.args.launch.now _ _ c.loop-node.node (omega arith) c.loop-node.invariant.started
