use Rattle.std.proofs.Common.{arith}
use Rattle.hpx_tables.proofs.Cutting.{cutting_first, cutting_next, cutting_last, cuts_long}
use Rattle.hpx_tables.proofs.splits.push_cuts.Goals as goal

pub loop-i-init : goal.loop-i-init
loop-i-init c = cutting_first c.args.here c.args.id c.args.n c.saturating_sub-times.result c.args.book.now.entries c.args.book.now.spare
    c.saturating_sub-times.ensures c.requires.lasts

pub loop-i-preserved : goal.loop-i-preserved
loop-i-preserved c = cutting_next c.args.here c.args.id c.saturating_sub-times.result c.loop-i._i c.loop-i.rest c.args.book.now.entries c.loop-i.book.entries
    c.args.book.now.spare c.loop-i.book.spare c.push_cut-rest.result c.push_cut-rest.new.book.entries c.push_cut-rest.new.book.spare
    c.loop-i-test.true c.loop-i.invariant c.push_cut-rest.ensures.half c.push_cut-rest.ensures.entries c.push_cut-rest.ensures.page

pub push_cut-rest-requires-clause-lasts : goal.push_cut-rest-requires-clause-lasts
push_cut-rest-requires-clause-lasts c = omega (arith, c.loop-i.invariant.lasts, c.loop-i-test.true)

pub push_cut-rest-requires-clause-page : goal.push_cut-rest-requires-clause-page
push_cut-rest-requires-clause-page c =
    omega (arith, c.loop-i.invariant.page, c.loop-i-test.true, c.requires.page, cuts_long c.args.id c.args.n c.saturating_sub-times.result c.saturating_sub-times.ensures)

pub returns-clause-entries : goal.returns-clause-entries
returns-clause-entries c = cutting_last c.args.here c.args.id c.args.n c.saturating_sub-times.result c.loop-i._i c.loop-i.rest c.args.book.now.entries
    c.loop-i.book.entries c.args.book.now.spare c.loop-i.book.spare c.saturating_sub-times.ensures c.loop-i-test.false c.loop-i.invariant

pub returns-clause-page : goal.returns-clause-page
returns-clause-page c =
    omega (arith, c.loop-i.invariant.page, c.loop-i-test.false, c.loop-i.auto._i-end, cuts_long c.args.id c.args.n c.saturating_sub-times.result c.saturating_sub-times.ensures)
