use Rattle.std.proofs.Common.{◌≡◌, ◌<◌, ℕ, length, Some}
use Rattle.std.specs.List.{slice_get}
use Rattle.hpx_journal.specs.Local.{boot}
use Rattle.hpx_journal.specs.Roots.{roots}
use Rattle.hpx_replay.proofs.space.Space.boot.Given as goal

abbrev pub invariant-loop-k : goal.invariant-loop-k
invariant-loop-k l = record {
  count : length l.places.items ≡ l.k;
  places : (j : ℕ) → j < l.k → slice_get l.places.items j ≡ Some (boot (roots l.n j) j);
}
