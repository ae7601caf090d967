use Rattle.hpx_node.proofs.Common.{AllByRecursion, IsManaged, bare, birth_of, drop, ids_of, map, ◌++◌, ◌+◌, ◌≡◌}
use Rattle.hpx_node.proofs.node.Node.later.Given as goal

abbrev pub invariant-loop-make : goal.invariant-loop-make
invariant-loop-make g l = record {
  managed : AllByRecursion (λ make. IsManaged make.kind) (drop l.make-index l.makes);
  last : l.last ≡ l.fn.self.tables.births + l.make-index;
  ids : l.ids.items ++ map bare (ids_of l.self.tables.here l.last l.self.tables.profile.credit_log (map birth_of (drop l.make-index l.makes)))
      ≡ map bare (ids_of l.self.tables.here l.self.tables.births l.self.tables.profile.credit_log (map birth_of l.makes));
}
