use Rattle.std.proofs.Common.{arith, sym, ◌∙◌}
use Rattle.std.proofs.lemmas.Bool.{cond-true, and_from, le-leb}
use Rattle.hpx_options.proofs.Numbers.{no_plus, parsed, unparsed, not_text}
use Rattle.hpx_options.proofs.number.number.Goals as goal

pub returns-in-Ok-parse-clause-value : goal.returns-in-Ok-parse-clause-value
returns-in-Ok-parse-clause-value c =
    sym (parsed c.args.least c.args.greatest c.in-Ok-parse.number c.args.text.now c.parse.result c.in-Ok-parse.is (no_plus c.args.text.now c.if-starts_with.ensures.value)
    (rw c.in-Ok.ensures.cases.0 at c.parse.ensures.value.0)
    ∙ cond-true _ _ _ (and_from _ _ (le-leb _ _ c.if-least-number.true) (le-leb _ _ c.if-number-greatest.true)))

pub returns-in-Err-parse-clause-value : goal.returns-in-Err-parse-clause-value
returns-in-Err-parse-clause-value c =
    unparsed c.args.least c.args.greatest c.in-Err-parse.field-0 c.args.text.now (omega arith) (no_plus c.args.text.now c.if-starts_with.ensures.value)
    (rw c.in-Ok.ensures.cases.0 at c.in-Err-parse.ensures.value.0)

pub returns-in-Err-clause-value : goal.returns-in-Err-clause-value
returns-in-Err-clause-value c = not_text c.args.least c.args.greatest c.args.text.now c.in-Err.ensures.cases.0
