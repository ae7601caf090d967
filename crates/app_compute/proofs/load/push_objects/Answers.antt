use Rattle.app_compute.proofs.Lines.{objects_pushed}
use Rattle.app_compute.proofs.load.push_objects.Goals as goal

pub loop-j-preserved : goal.loop-j-preserved
loop-j-preserved c =
    objects_pushed c.args.n c.loop-j.j c.args.texts.now c.loop-j.texts c.push.new.self c.in_ok-line_with.field-0 c.loop-j.invariant c.in_ok-line_with.ensures c.in_ok-push.ensures.ok
