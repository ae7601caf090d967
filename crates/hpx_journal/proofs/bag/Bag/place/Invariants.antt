use Rattle.std.proofs.Common.{◌≡◌, ◌++◌, take, drop}
use Rattle.std.specs.List.{find}
use Rattle.hpx_journal.specs.Bags.{without}
use Rattle.hpx_journal.proofs.bag.Bag.place.Given as goal

abbrev pub invariant-loop-i : goal.invariant-loop-i
invariant-loop-i g l = record {
  found : find (g.T.Keyed.test l.key) l.self-inside.items.items ≡ find (g.T.Keyed.test l.key) (drop l.i l.self-inside.items.items);
  rest : without (g.T.Keyed.test l.key) l.self-inside.items.items
      ≡ take l.i l.self-inside.items.items ++ without (g.T.Keyed.test l.key) (drop l.i l.self-inside.items.items);
}
