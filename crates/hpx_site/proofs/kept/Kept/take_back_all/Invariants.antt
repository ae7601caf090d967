use Rattle.std.proofs.Common.{vec_len}
use Rattle.hpx_site.proofs.kept.Kept.take_back_all.Given as goal

abbrev pub invariant-loop-done : goal.invariant-loop-done
invariant-loop-done g l = Unit {0}

abbrev pub decreases-loop-done : goal.decreases-loop-done
decreases-loop-done g l = vec_len l.ran
