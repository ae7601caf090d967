use Rattle.std.proofs.Common.{◌≡◌, ◌∙◌, false, sym}
use Rattle.hpx_tables.specs.Merged.{is_like}
use Rattle.hpx_tables.proofs.FreeLemmas.{find_next}
use Rattle.hpx_tables.proofs.kept.first_like.Goals as goal

pub loop-k-preserved : goal.loop-k-preserved
loop-k-preserved c =
    let other : is_like c.args.rider c.args.log c.index-ids-k.result ≡ false = sym c.is_like.ensures ∙ c.if-is_like.false in
    find_next (is_like c.args.rider c.args.log) c.args.ids.now c.loop-k.k c.index-ids-k.result c.loop-k-test.true c.index-ids-k.is other c.loop-k.invariant
