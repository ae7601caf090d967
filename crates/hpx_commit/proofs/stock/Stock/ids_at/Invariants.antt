use Rattle.std.proofs.Common.{◌≡◌, ◌++◌, map, drop}
use Rattle.hpx_value.specs.Hands.{id_at}
use Rattle.hpx_commit.proofs.stock.Stock.ids_at.Given as goal

abbrev pub invariant-loop-place : goal.invariant-loop-place
invariant-loop-place l = l.ids.items ++ map (id_at l.self.hand) (drop l.place-index l.places) ≡ map (id_at l.self.hand) l.places
