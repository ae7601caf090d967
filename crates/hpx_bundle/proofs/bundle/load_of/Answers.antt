use Rattle.std.proofs.Common.{take}
use Rattle.hpx_bundle.proofs.Loads.{not_beyond, frames_up_to}
use Rattle.hpx_bundle.proofs.bundle.load_of.Goals as goal

pub returns-in-None-clause-none : goal.returns-in-None-clause-none
returns-in-None-clause-none c =
    let all = frames_up_to c.args.parts.now c.loop-part.part-index c.part-item.result c.requires.frames c.loop-part-test.true c.part-item.is in
    not_beyond c.args.parts.now c.loop-part.part-index c.part-item.result c.requires.frames c.loop-part-test.true c.part-item.is
    (c.in-None.ensures (take c.loop-part.part-index c.args.parts.now) c.part-item.result c.loop-part.invariant.load c.len.ensures all)
