use Rattle.hpx_tables.proofs.Cutting.{IsCutting}
use Rattle.hpx_tables.proofs.splits.push_cuts.Given as goal

abbrev pub invariant-loop-i : goal.invariant-loop-i
invariant-loop-i l = IsCutting l.here l.fn.id l.times l._i l.rest l.fn.book.entries l.book.entries l.fn.book.spare l.book.spare
