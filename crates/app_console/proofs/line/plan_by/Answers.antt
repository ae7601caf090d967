use Rattle.app_console.specs.Session.{kind_of, sight}
use Rattle.app_console.proofs.Rests.{plan_ok}
use Rattle.app_console.proofs.line.plan_by.Goals as goal

pub returns-in-len1-up : goal.returns-in-len1-up
returns-in-len1-up c =
    plan_ok (λ w. w.now) c.args.console (sight c.args.localities (kind_of c.args.state.now) c.args.desk.now) c.args.words.now _ c.command.result c.in-len1-up.len_at_least c.command.ensures
