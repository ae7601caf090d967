use Rattle.hpx_tables.proofs.FirstCuts.{one_page, first_next}
use Rattle.hpx_tables.proofs.splits.push_first_splits.Goals as goal

pub push_cuts-requires-clause-page : goal.push_cuts-requires-clause-page
push_cuts-requires-clause-page c =
    rw (c.halvings-times.ensures, c.named.ensures.count)
    (one_page c.args.here c.args.own c.args.hand.now c.args.places.now c.loop-p.p c.index-hand-p.result c.args.book.now.entries c.loop-p.book.entries
    c.loop-p.book.entries c.args.book.now.spare c.loop-p.book.spare 0 c.loop-p-test.true c.requires.own c.index-hand-p.is c.loop-p.invariant)

pub loop-p-preserved : goal.loop-p-preserved
loop-p-preserved c =
    let grows = rw (c.halvings-times.ensures, c.named.ensures.count) at c.push_cuts.ensures.entries in
    let page = rw (c.halvings-times.ensures, c.named.ensures.count) at c.push_cuts.ensures.page in
    first_next c.args.here c.args.own c.args.hand.now c.args.places.now c.loop-p.p c.index-hand-p.result c.args.book.now.entries c.loop-p.book.entries
    c.push_cuts.new.book.entries c.args.book.now.spare c.loop-p.book.spare c.push_cuts.new.book.spare c.loop-p-test.true c.requires.own c.index-hand-p.is c.loop-p.invariant
    grows page
