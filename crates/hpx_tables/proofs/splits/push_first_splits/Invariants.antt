use Rattle.hpx_tables.proofs.FirstCuts.{IsCuttingFirst}
use Rattle.hpx_tables.proofs.splits.push_first_splits.Given as goal

abbrev pub invariant-loop-p : goal.invariant-loop-p
invariant-loop-p l = IsCuttingFirst l.here l.own l.hand l.places l.p l.fn.book.entries l.book.entries l.fn.book.spare l.book.spare
