use Rattle.std.proofs.Common.{◌<◌, length, arith}
use Rattle.hpx_top.proofs.LoadLemmas.{printed_more}
use Rattle.hpx_top.proofs.load.printed_since.Goals as goal

pub loop-i-preserved : goal.loop-i-preserved
loop-i-preserved c =
    let within : c.loop-i.i < length c.args.journal.now.entries = omega arith in
    printed_more c.args.journal.now.entries c.loop-i.i _ _ _ within c.loop-i.invariant (λ e at. c.in_ok-push_printed.ensures e at)
