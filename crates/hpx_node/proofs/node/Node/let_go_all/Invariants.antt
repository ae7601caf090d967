use Rattle.hpx_node.proofs.Common.{at_all, take, ups, with_returns, ◌++◌, ◌+◌, ◌≡◌, ◌≤◌}
use Rattle.hpx_node.proofs.node.Node.let_go_all.Given as goal

abbrev pub invariant-loop-i : goal.invariant-loop-i
invariant-loop-i g l = record {
  goes : l.self.tables ≡ with_returns (take l.i l.ids) l.initial.self.tables;
  grows : l.book.entries ≡ l.initial.book.entries ++ at_all l.initial.self.tables.here (ups (take l.i l.ids));
  spare : l.initial.self.spare ≤ l.self.spare + l.i;
  page : l.initial.book.spare ≤ l.book.spare + l.i;
}
