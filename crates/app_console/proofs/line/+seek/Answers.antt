use Rattle.std.proofs.Common.{sym, ◌∙◌}
use Rattle.app_console.proofs.Rests.{seek_rest}
use Rattle.app_console.proofs.line.+seek.Goals as goal

pub returns-else-eq : goal.returns-else-eq
returns-else-eq t c =
    c.seek.ensures
    ∙ sym (seek_rest c.args.name.now c.as_slice.result.now c.args.names.now c.first-item.result c.in-len1-up.len_at_least c.first-item.is c.as_slice.ensures
    (sym c.eq.ensures ∙ c.if-eq.false))
