use Rattle.std.proofs.Common.{sym, ◌∙◌}
use Rattle.app_console.specs.Session.{kind_of}
use Rattle.app_console.proofs.Rests.{status_rest}
use Rattle.app_console.proofs.line.+status.Goals as goal

pub returns-else-eq : goal.returns-else-eq
returns-else-eq t c =
    c.status.ensures
    ∙ sym (status_rest (kind_of c.args.state.now) c.args.name.now c.as_slice.result.now c.args.names.now c.first-item.result c.in-len1-up.len_at_least c.first-item.is c.as_slice.ensures
    (sym c.eq.ensures ∙ c.if-eq.false))
