use Rattle.hpx_ids.specs.Tables.{entry, IsKeptBy}
use Rattle.hpx_ids.proofs.Rising.{Gathers}
use Rattle.hpx_ids.proofs.ids.Ids.of_owner.Given as goal

abbrev pub invariant-loop-e : goal.invariant-loop-e
invariant-loop-e l = Gathers (λ k. IsKeptBy (entry l.self k) l.owner) l.keys l.e
