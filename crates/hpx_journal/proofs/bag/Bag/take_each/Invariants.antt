use Rattle.std.proofs.Common.{◌≡◌, ◌↔◌, drop}
use Rattle.hpx_journal.specs.Bags.{minus, Covers}
use Rattle.hpx_journal.proofs.bag.Bag.take_each.Given as goal

abbrev pub invariant-loop-key : goal.invariant-loop-key
invariant-loop-key g l = record {
  covers : Covers g.T.Keyed.test l.fn.self l.keys ↔ Covers g.T.Keyed.test l.self (drop l.key-index l.keys);
  rest : minus g.T.Keyed.test l.fn.self l.keys ≡ minus g.T.Keyed.test l.self (drop l.key-index l.keys);
}
