use Rattle.std.proofs.Common.{arith}
use Rattle.app_console.proofs.Numbering.{numbers-take}
use Rattle.app_console.proofs.stay.kept.Goals as goal

pub loop-number-preserved : goal.loop-number-preserved
loop-number-preserved c =
    let next = numbers-take c.loop-number.number c.args.state.now.conts (record { place = 0; slot = 0 }) (omega arith) in
    let pushed = c.in_ok-push.ensures.ok in
    let held = c.loop-number.invariant in
    cc
