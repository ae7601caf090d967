use Rattle.std.proofs.Common.{arith}
use Rattle.hpx_parcel.proofs.Outlined.{outlined, stopped, too_long}
use Rattle.hpx_parcel.proofs.outline.outline_of.Goals as goal

pub returns-then-bytes-gt-LONGEST_FRAME-clause-bad : goal.returns-then-bytes-gt-LONGEST_FRAME-clause-bad
returns-then-bytes-gt-LONGEST_FRAME-clause-bad c = too_long c.args.bytes.now c.if-bytes-gt-LONGEST_FRAME.true

pub returns-in-Ok-clause-ok : goal.returns-in-Ok-clause-ok
returns-in-Ok-clause-ok c = outlined c.args.bytes.now c.in-Ok.outline (λ i. omega (arith, c.type_inv.bytes i)) c.if-bytes-gt-LONGEST_FRAME.false c.in-Ok.ensures

pub returns-in-Err-clause-bad : goal.returns-in-Err-clause-bad
returns-in-Err-clause-bad c = rw (c.saturating_sub.ensures) (stopped c.args.bytes.now c.in-Err.stop c.if-bytes-gt-LONGEST_FRAME.false c.in-Err.ensures)
