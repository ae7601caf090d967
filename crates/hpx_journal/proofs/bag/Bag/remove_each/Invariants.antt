use Rattle.std.proofs.Common.{◌≡◌, drop}
use Rattle.hpx_journal.specs.Bags.{minus}
use Rattle.hpx_journal.proofs.bag.Bag.remove_each.Given as goal

abbrev pub invariant-loop-key : goal.invariant-loop-key
invariant-loop-key g l = minus g.T.Keyed.test l.fn.self l.keys ≡ minus g.T.Keyed.test l.self (drop l.key-index l.keys)
