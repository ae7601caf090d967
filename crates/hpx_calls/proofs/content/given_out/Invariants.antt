use Rattle.std.proofs.Common.{◌≡◌, ◌∷◌, pos}
use Rattle.hpx_value.specs.declared.value.Value.TheVariants.{Int}
use Rattle.hpx_calls.specs.Values.{spelled}
use Rattle.hpx_calls.specs.Contents
use Rattle.hpx_calls.proofs.content.given_out.Given as goal

abbrev pub invariant-loop-one : goal.invariant-loop-one
invariant-loop-one l = l.values ≡ Int (pos l.code) ∷ Int (pos l.inputs) ∷ Contents.given_out spelled l.yielded
