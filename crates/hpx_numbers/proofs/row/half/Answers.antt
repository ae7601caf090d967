use Rattle.std.proofs.Common.{◌≡◌, ◌∙◌, ap, ℤ, pos, negsuc, ◌+ℤ◌, ◌-ℤ◌, ◌<ℤ◌, arith}
use Rattle.std.proofs.lemmas.Int.{ints}
use Rattle.hpx_calls.specs.Tables.{half}
use Rattle.hpx_numbers.proofs.Rows.{half_below, below_fits}
use Rattle.hpx_numbers.proofs.row.half.Goals as goal

pub returns-then-sum-lt0 : goal.returns-then-sum-lt0
returns-then-sum-lt0 c =
    let sum = c.args.left +ℤ c.args.right in
    let is : c.halved.result ≡ half (negsuc 0 -ℤ sum) = c.halved.ensures.half ∙ ap half (omega (arith, ints, c.from.ensures, c.from-2.ensures)) in
    let below : sum <ℤ pos 0 = grind (arith, ints, c.from.ensures, c.from-2.ensures, c.if-sum-lt0.true) in
    let whole : negsuc 0 -ℤ c.halved.result ≡ half sum = ap (λ z. negsuc 0 -ℤ z) is ∙ half_below sum below in
    below_fits c.halved.result c.halved.ensures.low c.halved.type_inv ∙ whole
