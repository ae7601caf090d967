use Rattle.std.proofs.Common.{◌+◌, sym, subst}
use Rattle.hpx_commit.proofs.Later.{IsReplacing, replacing_first, replacing_next}
use Rattle.hpx_commit.proofs.stock.Stock.replace_from.Goals as goal

pub loop-i-init : goal.loop-i-init
loop-i-init c = replacing_first c.args.first c.args.ids.now c.args.self.now c.requires.few c.requires.fits

pub loop-i-preserved : goal.loop-i-preserved
loop-i-preserved c =
    subst (IsReplacing c.args.first c.args.ids.now (c.loop-i.i + 1) c.args.self.now) (sym c.replace.ensures)
    (replacing_next c.args.first c.args.ids.now c.loop-i.i c.args.self.now c.loop-i.self c.index-ids-i.result c.loop-i-test.true c.index-ids-i.is c.loop-i.invariant)
