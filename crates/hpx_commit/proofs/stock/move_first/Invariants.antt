use Rattle.std.proofs.Common.{◌≡◌, ◌++◌, take, drop}
use Rattle.hpx_commit.specs.Stocks.{first_moved}
use Rattle.hpx_commit.proofs.stock.move_first.Given as goal

abbrev pub invariant-loop-i : goal.invariant-loop-i
invariant-loop-i l = record {
  same : l.places ≡ l.fn.places;
  all : take l.i l.places ++ first_moved l.from l.to (drop l.i l.places) ≡ first_moved l.from l.to l.places;
}
