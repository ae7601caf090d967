use Rattle.hpx_commit.proofs.Stripped.{stripping_next}
use Rattle.hpx_commit.proofs.stock.Stock.strip.Goals as goal

pub loop-place-preserved : goal.loop-place-preserved
loop-place-preserved c =
    rw (c.replace.ensures, c.bare.ensures, c.id_at-id.ensures, c.hand.ensures)
    (stripping_next c.args.places.now c.loop-place.place-index 0 c.args.self.now c.loop-place.self c.loop-place-test.true c.loop-place.invariant)
