use Rattle.std.proofs.Common.{◌≡◌, ◌+◌, ◌++◌, length, drop, map}
use Rattle.hpx_value.specs.Values.{refs_in}
use Rattle.hpx_value.specs.Hands.{renumbered, id_at}
use Rattle.hpx_commit.proofs.hand.renumber.Given as goal

abbrev pub invariant-loop-value : goal.invariant-loop-value
invariant-loop-value l = record {
  next : l.next + length (refs_in (drop l.value-index l.values)) ≡ length (refs_in l.values) + l.first;
  values : l.out.items ++ renumbered l.next (drop l.value-index l.values) ≡ renumbered l.first l.values;
  ids : l.ids.items ++ map (id_at l.hand) (refs_in (drop l.value-index l.values)) ≡ l.fn.ids.items ++ map (id_at l.hand) (refs_in l.values);
}
