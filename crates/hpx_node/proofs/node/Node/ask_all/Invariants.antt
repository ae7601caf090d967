use Rattle.hpx_node.proofs.Common.{length, take, with_asks, ◌+◌, ◌≡◌, ◌≤◌}
use Rattle.hpx_node.proofs.node.Node.ask_all.Given as goal

abbrev pub invariant-loop-id : goal.invariant-loop-id
invariant-loop-id g l = record {
  asks : l.self.tables ≡ record (with_asks l.fn.self.tables.here l.fn.self.tables.asked (take l.id-index l.ids) l.fn.self.tables) { asked = l.fn.self.tables.asked + length (take l.id-index l.ids) };
  spare : l.fn.self.spare ≤ l.self.spare + l.id-index;
}
