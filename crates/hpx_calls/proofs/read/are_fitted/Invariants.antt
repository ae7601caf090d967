use Rattle.std.proofs.Common.{◌≡◌, length}
use Rattle.std.specs.Prelude.{Some}
use Rattle.hpx_calls.specs.Contents
use Rattle.hpx_calls.specs.Values.{spelled}
use Rattle.hpx_calls.proofs.read.are_fitted.Given as goal

abbrev pub invariant-inputs : goal.invariant-inputs
invariant-inputs l = Contents.are_fitted spelled (Some l.room) l.left ≡ Contents.are_fitted spelled (Some 64000) l.given

abbrev pub decreases-inputs : goal.decreases-inputs
decreases-inputs l = length l.left
