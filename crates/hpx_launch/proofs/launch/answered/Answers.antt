use Rattle.std.proofs.Common.{◌∙◌}
use Rattle.hpx_launch.proofs.Children.{answered_all, begun_all, begun_front, begun_none}
use Rattle.hpx_launch.specs.Launches.{told}
use Rattle.hpx_launch.proofs.launch.answered.Goals as goal

pub returns-in_err-launch-clause-begun : goal.returns-in_err-launch-clause-begun
returns-in_err-launch-clause-begun g c = begun_none _ _

pub returns-in_err-children-clause-begun : goal.returns-in_err-children-clause-begun
returns-in_err-children-clause-begun g c =
    begun_front _ c.in_ok-launch.launch _ _ c.in_ok-launch.ensures.ok c.start_all.ensures.front c.start_all.ensures.ended

pub returns-in_err-wait_all-clause-begun : goal.returns-in_err-wait_all-clause-begun
returns-in_err-wait_all-clause-begun g c =
    let mid = c.start_all.new.spawner in
    begun_all _ c.in_ok-launch.launch _ (told (g.P.Spawner.started mid) (g.P.Spawner.ended mid) (g.P.Spawner.faults mid)) _ c.as_slice.result.now
    c.in_ok-launch.ensures.ok (c.as_slice.ensures ∙ c.in_ok-children.ensures.children) c.in_ok-children.ensures.started c.start_all.ensures.ended
    c.wait_all.ensures.started c.wait_all.result c.wait_all.ensures.waits

pub returns-clause-ok : goal.returns-clause-ok
returns-clause-ok g c =
    let mid = c.start_all.new.spawner in
    answered_all _ c.in_ok-launch.launch _ (told (g.P.Spawner.started mid) (g.P.Spawner.ended mid) (g.P.Spawner.faults mid)) _ c.as_slice.result.now
    c.in_ok-launch.ensures.ok (c.as_slice.ensures ∙ c.in_ok-children.ensures.children) c.in_ok-children.ensures.started c.start_all.ensures.ended
    c.wait_all.ensures.started c.in_ok-wait_all.field-0 c.in_ok-wait_all.ensures.waits
    (c.in_ok-wait_all.ensures.stands (λ failed. cc) ∙ c.in_ok-children.ensures.stands (λ failed. cc))

pub returns-clause-begun : goal.returns-clause-begun
returns-clause-begun g c =
    let mid = c.start_all.new.spawner in
    begun_all _ c.in_ok-launch.launch _ (told (g.P.Spawner.started mid) (g.P.Spawner.ended mid) (g.P.Spawner.faults mid)) _ c.as_slice.result.now
    c.in_ok-launch.ensures.ok (c.as_slice.ensures ∙ c.in_ok-children.ensures.children) c.in_ok-children.ensures.started c.start_all.ensures.ended
    c.wait_all.ensures.started c.wait_all.result c.wait_all.ensures.waits
