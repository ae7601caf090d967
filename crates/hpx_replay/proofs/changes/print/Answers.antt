use Rattle.std.proofs.Common.{refl}
use Rattle.hpx_replay.proofs.Leaves.{popped_tail}
use Rattle.hpx_replay.proofs.changes.print.Goals as goal

pub returns : goal.returns
returns c = rw (popped_tail c.pop.result c.args.local.now.due c.pop.new.self c.pop.ensures) refl
