use Rattle.std.proofs.Common.{◌≡◌, ◌+◌, ◌≤◌, drop}
use Rattle.std.specs.List.{count_by}
use Rattle.hpx_journal.proofs.bag.Bag.count.Given as goal

abbrev pub invariant-loop-i : goal.invariant-loop-i
invariant-loop-i g l = record {
  small : l.count ≤ l.i;
  so_far : l.count + count_by (g.T.Keyed.test l.key) (drop l.i l.self-inside.items.items) ≡ count_by (g.T.Keyed.test l.key) l.self-inside.items.items;
}
