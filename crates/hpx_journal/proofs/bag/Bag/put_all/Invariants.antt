use Rattle.std.proofs.Common.{◌≡◌, ◌++◌, vec_len}
use Rattle.hpx_journal.proofs.bag.Bag.put_all.Given as goal

abbrev pub invariant-loop-item : goal.invariant-loop-item
invariant-loop-item g l = l.items.items ++ l.self ≡ l.fn.items ++ l.fn.self

abbrev pub decreases-loop-item : goal.decreases-loop-item
decreases-loop-item g l = vec_len l.items
