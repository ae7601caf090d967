use Rattle.std.proofs.Common.{◌<◌, length, arith}
use Rattle.hpx_replay.proofs.RowLemmas.{made_more, made_same}
use Rattle.hpx_replay.proofs.act_rows.are_made.Goals as goal

pub returns-then-makes-fresh : goal.returns-then-makes-fresh
returns-then-makes-fresh c =
    (λ h. cc, λ h. absurd (c.if-makes-fresh.true (made_same c.args.makes.now c.args.fresh.now c.args.objects.now h)))

pub loop-i-preserved : goal.loop-i-preserved
loop-i-preserved c =
    let a : c.loop-i.i < length c.args.makes.now = omega arith in
    let b : c.loop-i.i < length c.args.fresh.now = omega arith in
    let k = made_more c.args.makes.now c.args.fresh.now c.args.objects.now c.loop-i.i c.index-makes-i.result c.index-fresh-i.result a b
    c.index-makes-i.is c.index-fresh-i.is c.loop-i.invariant in
    let w = c.is_made.ensures.0 c.if-not-is_made.false in
    (λ h. (k.0 h).2, λ h. k.1 (w.0, w.1, h))
