use Rattle.std.proofs.Common.{◌≡◌, ◌-◌, ◌++◌}
use Rattle.hpx_commit.specs.Stocks.{short_from}
use Rattle.hpx_commit.proofs.stock.Stock.short_places.Given as goal

abbrev pub invariant-loop-place : goal.invariant-loop-place
invariant-loop-place l = l.short.items ++ short_from (l.n - l.place) l.place l.self ≡ short_from l.n 0 l.self
