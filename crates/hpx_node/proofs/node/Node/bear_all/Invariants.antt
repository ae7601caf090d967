use Rattle.hpx_node.proofs.Common.{AllByRecursion, AreDrawn, IsBirth, Makes, at_all, births_of, length, ◌++◌, ◌+◌, ◌<◌, ◌^◌, ◌≡◌, ◌≤◌}
use Rattle.hpx_node.proofs.node.Node.bear_all.Given as goal

abbrev pub decreases-loop-self : goal.decreases-loop-self
decreases-loop-self g l = length l.births.items

abbrev pub invariant-loop-self : goal.invariant-loop-self
invariant-loop-self g l = record {
  fit : AllByRecursion IsBirth l.births.items;
  few : l.self.tables.births + length l.births.items < 2 ^ 32;
  drawn : AreDrawn l.self.tables;
  spare : l.fn.self.spare + length l.births.items ≤ l.self.spare + length l.fn.births.items;
  enough : length l.fn.births.items ≤ l.fn.self.spare;
  page : l.book.spare + length l.fn.births.items ≡ l.fn.book.spare + length l.births.items;
  made : Makes l.fn.births.items l.births.items l.fn.self.tables l.self.tables;
  entries : l.book.entries ++ at_all l.self.tables.here (births_of l.self.tables.here l.self.tables.births l.births.items)
      ≡ l.fn.book.entries ++ at_all l.fn.self.tables.here (births_of l.fn.self.tables.here l.fn.self.tables.births l.fn.births.items);
}
