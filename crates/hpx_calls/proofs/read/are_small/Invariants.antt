use Rattle.std.proofs.Common.{◌≡◌, length}
use Rattle.std.specs.List.{list_all}
use Rattle.hpx_calls.specs.Values.{is_small, spelled}
use Rattle.hpx_calls.proofs.read.are_small.Given as goal

abbrev pub invariant-values : goal.invariant-values
invariant-values l = list_all (λ v. is_small (spelled.look v)) l.left ≡ list_all (λ v. is_small (spelled.look v)) l.values

abbrev pub decreases-values : goal.decreases-values
decreases-values l = length l.left
