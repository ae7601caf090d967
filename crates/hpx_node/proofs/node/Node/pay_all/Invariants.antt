use Rattle.hpx_node.proofs.Common.{AllByRecursion, IsFitDue, OnlySends, at_all, length, with_due, written_due, ◌++◌, ◌+◌, ◌<◌, ◌^◌, ◌≡◌, ◌≤◌}
use Rattle.hpx_node.proofs.node.Node.pay_all.Given as goal

abbrev pub decreases-loop-self : goal.decreases-loop-self
decreases-loop-self g l = length l.due.items

abbrev pub invariant-loop-self : goal.invariant-loop-self
invariant-loop-self g l = record {
  fit : AllByRecursion IsFitDue l.due.items;
  spare : l.fn.self.spare + length l.due.items ≤ l.self.spare + length l.fn.due.items;
  page : l.book.spare + length l.fn.due.items ≡ l.fn.book.spare + length l.due.items;
  few : l.self.tables.serial + length l.due.items < 2 ^ 64;
  rest : OnlySends l.fn.self.tables l.self.tables;
  goes : with_due l.due.items l.self.tables ≡ with_due l.fn.due.items l.fn.self.tables;
  writes : l.book.entries ++ at_all l.self.tables.here (written_due l.self.tables.here l.self.tables.serial l.due.items)
      ≡ l.fn.book.entries ++ at_all l.fn.self.tables.here (written_due l.fn.self.tables.here l.fn.self.tables.serial l.fn.due.items);
}
