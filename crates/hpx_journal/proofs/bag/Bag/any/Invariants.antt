use Rattle.std.proofs.Common.{◌≡◌, drop}
use Rattle.std.specs.List.{list_any}
use Rattle.hpx_journal.proofs.bag.Bag.any.Given as goal

abbrev pub invariant-loop-i : goal.invariant-loop-i
invariant-loop-i g l = list_any (g.T.Keyed.test l.key) l.self-inside.items.items ≡ list_any (g.T.Keyed.test l.key) (drop l.i l.self-inside.items.items)
