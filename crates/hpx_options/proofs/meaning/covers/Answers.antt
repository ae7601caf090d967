use Rattle.std.proofs.Common.{◌≤◌, ◌^◌, ◌∙◌, sym, arith}
use Rattle.std.proofs.lemmas.Bool.{le-ltb, lt-leb}
use Rattle.std.proofs.Math.Nat.{pow-le-pow_right}
use Rattle.hpx_options.proofs.meaning.covers.Goals as goal

pub returns-else-log-lt128 : goal.returns-else-log-lt128
returns-else-log-lt128 c =
    let more : 2 ^ 128 ≤ 2 ^ c.args.log = pow-le-pow_right (omega arith) c.if-log-lt128.false in
    le-ltb _ _ c.if-log-lt128.false ∙ sym (lt-leb _ _ (omega arith))
