use Rattle.std.proofs.Common.{arith, sym, ◌∙◌}
use Rattle.std.proofs.lemmas.Bool.{cond-true, and_from, le-leb}
use Rattle.hpx_launch.proofs.Numbers.{no_plus, parsed, unparsed}
use Rattle.hpx_launch.proofs.matches.number.Goals as goal

pub returns-in-Ok : goal.returns-in-Ok
returns-in-Ok c =
    let first = no_plus c.args.text.now (rw c.as_bytes.ensures.value at c.if-starts_with.ensures.value) in
    sym (parsed c.args.greatest c.in-Ok.number c.args.text.now c.parse.result c.in-Ok.is first c.parse.ensures.value.0
    ∙ cond-true _ _ _ (and_from _ _ (le-leb _ _ c.if-number-ge1.true) (le-leb _ _ c.if-number-greatest.true)))

pub returns-in-Err : goal.returns-in-Err
returns-in-Err c =
    let first = no_plus c.args.text.now (rw c.as_bytes.ensures.value at c.if-starts_with.ensures.value) in
    unparsed c.args.greatest c.in-Err.field-0 c.args.text.now (omega arith) first c.in-Err.ensures.value.0
