use Rattle.hpx_node.proofs.Common.{asked_at, drop, ◌++◌, ◌+◌, ◌≡◌}
use Rattle.hpx_node.proofs.node.Node.asks.Given as goal

abbrev pub invariant-loop-place : goal.invariant-loop-place
invariant-loop-place g l = record {
  entry : l.entry ≡ l.self.tables.asked + l.place-index;
  asked : l.asked.items ++ asked_at l.entry (drop l.place-index l.places) ≡ asked_at l.self.tables.asked l.places;
}
