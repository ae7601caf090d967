use Rattle.std.proofs.Common.{◌≡◌, false}
use Rattle.hpx_tables.specs.Pending.{awaits}
use Rattle.hpx_tables.proofs.FreeLemmas.{find_next}
use Rattle.hpx_tables.proofs.find.waiting_at.Goals as goal

pub loop-i-preserved : goal.loop-i-preserved
loop-i-preserved g c =
    let other : awaits c.args.o c.args.entry c.index-pending-i.result ≡ false =
    let a = c.awaits.ensures in
    let b = c.if-awaits.false in cc in
    find_next (awaits c.args.o c.args.entry) c.args.pending.now c.loop-i.i c.index-pending-i.result c.loop-i-test.true c.index-pending-i.is other c.loop-i.invariant
