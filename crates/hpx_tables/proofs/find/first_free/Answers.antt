use Rattle.std.proofs.Common.{◌<◌, arith, length, subst, sym}
use Rattle.std.proofs.lemmas.List.{take_more}
use Rattle.hpx_journal.specs.Data.{Act}
use Rattle.hpx_tables.specs.Free.{IsFree}
use Rattle.hpx_tables.specs.Pending.{fired_of}
use Rattle.hpx_tables.proofs.FreeLemmas.{NoneIsFree-push}
use Rattle.hpx_tables.proofs.find.first_free.Goals as goal

pub loop-i-preserved : goal.loop-i-preserved
loop-i-preserved g c =
    let xs = c.args.accepted.now.items in
    let lt : c.loop-i.i < length c.args.accepted.now.items = omega arith in
    let P : Act → Type 0 = λ act. IsFree (fired_of c.args.running.now c.args.pending.now) c.args.objects.now.items act in
    rw (take_more xs c.loop-i.i c.index.result.now lt)
    (NoneIsFree-push (fired_of c.args.running.now c.args.pending.now) c.args.objects.now.items _ _ c.loop-i.invariant
    (λ free. c.in-None.ensures.none (subst P (sym c.act.ensures.act) (subst P (sym c.index.ensures) free))))
