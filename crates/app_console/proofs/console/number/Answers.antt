use Rattle.std.proofs.Common.{◌∙◌}
use Rattle.app_console.proofs.Numbers.{no_plus, parsed, not_text}
use Rattle.app_console.proofs.console.number.Goals as goal

pub returns-in-Ok : goal.returns-in-Ok
returns-in-Ok c =
    c.ok.ensures.value
    ∙ parsed c.args.word.now c.parse.result (no_plus c.args.word.now c.if-starts_with.ensures.value) (rw c.in-Ok.ensures.cases.0 at c.parse.ensures.value.0)

pub returns-in-Err : goal.returns-in-Err
returns-in-Err c = not_text _ c.in-Err.ensures.cases.0
