use Rattle.hpx_node.proofs.Common.{AllByRecursion, HasCredit, OnlySends, at_all, length, ups, with_returns, ◌++◌, ◌≡◌, ◌≤◌}
use Rattle.hpx_node.proofs.node.Node.give_up_all.Given as goal

abbrev pub decreases-loop-self : goal.decreases-loop-self
decreases-loop-self g l = length l.loose.items

abbrev pub invariant-loop-self : goal.invariant-loop-self
invariant-loop-self g l = record {
  credit : AllByRecursion HasCredit l.loose.items;
  spare : length l.loose.items ≤ l.self.spare;
  page : length l.loose.items ≤ l.book.spare;
  rest : OnlySends l.fn.self.tables l.self.tables;
  goes : with_returns l.loose.items l.self.tables ≡ with_returns l.fn.loose.items l.fn.self.tables;
  writes : l.book.entries ++ at_all l.self.tables.here (ups l.loose.items) ≡ l.fn.book.entries ++ at_all l.fn.self.tables.here (ups l.fn.loose.items);
}
