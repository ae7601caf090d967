use Rattle.hpx_tables.proofs.Cutting.{IsSplitting}
use Rattle.hpx_tables.proofs.splits.push_splits.Given as goal

abbrev pub invariant-loop-p : goal.invariant-loop-p
invariant-loop-p l = IsSplitting l.here l.hand l.places l.p l.fn.book.entries l.book.entries l.fn.book.spare l.book.spare
