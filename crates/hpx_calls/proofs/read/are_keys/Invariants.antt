use Rattle.std.proofs.Common.{◌≡◌, length}
use Rattle.std.specs.List.{list_all}
use Rattle.hpx_calls.specs.Requests.{is_key}
use Rattle.hpx_calls.proofs.read.are_keys.Given as goal

abbrev pub invariant-pairs : goal.invariant-pairs
invariant-pairs l = list_all (λ x. is_key x.key) l.left ≡ list_all (λ x. is_key x.key) l.pairs

abbrev pub decreases-pairs : goal.decreases-pairs
decreases-pairs l = length l.left
