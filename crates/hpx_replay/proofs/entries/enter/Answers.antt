use Rattle.std.proofs.Common.{refl}
use Rattle.hpx_replay.specs.Spaces.{rules_of}
use Rattle.hpx_replay.proofs.Leaves.{entered}
use Rattle.hpx_replay.proofs.entries.enter.Goals as goal

pub returns-in_ok-closed-in-Ok-Some-clause-after : goal.returns-in_ok-closed-in-Ok-Some-clause-after
returns-in_ok-closed-in-Ok-Some-clause-after c = λ f e t.
    let n = c.args.localities in
    let p = c.args.profile.now in
    let h = rw c.in-Ok-Some.field-0-is at c.in-Ok-Some.ensures in
    let w = (h.allowed f e).0 refl in
    entered (rules_of n p f) c.args.local.now c.change.new.local c.close.new.local c.args.event.now c.in-Ok-Some.tokens.0 c.in-Ok-Some.tokens.1
    (c.in_ok-change-in-Ok-Some.ensures n f e w.row) (c.in_ok-closed-in-Ok-Some.ensures.after t) (h.taken n f) (h.given n f)
