-- The values of inputs, one more at the end.
use Rattle.std.specs.Prelude.{ℕ, zero, suc, List, [], ◌∷◌, ◌++◌, ◌≡◌, ◌+◌}
use Rattle.std.proofs.Common.{ap, ◌∙◌, arith, add-one}
use Rattle.hpx_value.specs.declared.value.Value.{Value}
use Rattle.hpx_calls.specs.Values.{spelled}
use Rattle.hpx_calls.specs.declared.content.Given.{Given}
use Rattle.hpx_calls.specs.Contents.{input_of}
use Rattle.hpx_calls.specs.Tables.{inputs_from, or_nothing}

inputs-push : (given : List (Given Value)) (n count : ℕ)
    → inputs_from spelled given n (suc count) ≡ inputs_from spelled given n count ++ or_nothing spelled (input_of (n + count) given) ∷ []
inputs-push given n zero = ap (λ m. or_nothing spelled (input_of m given) ∷ []) (omega arith)
inputs-push given n (suc count) =
    ap (λ rest. or_nothing spelled (input_of n given) ∷ rest)
    (inputs-push given (n + 1) count ∙ ap (λ m. inputs_from spelled given (n + 1) count ++ or_nothing spelled (input_of m given) ∷ []) (omega arith))

pub inputs_more : (given : List (Given Value)) (i : ℕ)
    → inputs_from spelled given 0 (i + 1) ≡ inputs_from spelled given 0 i ++ or_nothing spelled (input_of i given) ∷ []
inputs_more given i =
    ap (inputs_from spelled given 0) (add-one i) ∙ inputs-push given 0 i
    ∙ ap (λ m. inputs_from spelled given 0 i ++ or_nothing spelled (input_of m given) ∷ []) (omega arith)
