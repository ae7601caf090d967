use Rattle.std.proofs.Common.{false, ◌≡◌}
use Rattle.hpx_commit.specs.Stocks.{short_from}
use Rattle.hpx_commit.proofs.StockLoops.{short_same, short_more}
use Rattle.hpx_commit.proofs.stock.Stock.short_places.Goals.{then-not-lasts+in_ok-push, else-not-lasts}
use Rattle.hpx_commit.proofs.stock.Stock.short_places.Goals as goal

pub loop-place-preserved : goal.loop-place-preserved
loop-place-preserved c =
    let test = rw (c.id_at-id.ensures, c.named.ensures.count, c.hand.ensures, c.places.ensures) at c.lasts.ensures in
    let n = c.args.n in
    let p = c.loop-place.place in
    let s = c.args.self.now in elim c.if-not-lasts.branch [
      | then-not-lasts+in_ok-push w ↦
          rw (w.short-is, w.in_ok-push.ensures.items)
          (short_more n p s c.loop-place.short.items (short_from n 0 s) c.loop-place-test.true
          (λ lasts. let t = test.1 lasts in let f : c.lasts.result ≡ false = w.if-not-lasts.true in cc) c.loop-place.invariant)
      | else-not-lasts w ↦
          rw w.short-is
          (short_same n p s c.loop-place.short.items (short_from n 0 s) c.loop-place-test.true
          (test.0 w.if-not-lasts.false) c.loop-place.invariant)
    ]
