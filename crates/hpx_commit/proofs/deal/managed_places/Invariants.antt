use Rattle.std.proofs.Common.{◌≡◌, ◌++◌, drop}
use Rattle.hpx_commit.specs.Deals.{managed_places}
use Rattle.hpx_commit.proofs.deal.managed_places.Given as goal

abbrev pub invariant-loop-place : goal.invariant-loop-place
invariant-loop-place l = l.some.items ++ managed_places l.hand (drop l.place-index l.places) ≡ managed_places l.hand l.places
