use Rattle.hpx_replay.proofs.RowLemmas.{sent_found}
use Rattle.hpx_replay.proofs.act_rows.sent_row.Goals as goal

pub returns-in-Some-Message : goal.returns-in-Some-Message
returns-in-Some-Message c = λ r. sent_found c.args.local.now c.args.action c.in-Some-Message.field-0.now c.in-Some-Message.field-0-0 c.is_next.result
    c.in-Some-Message.ensures c.in-Some-Message.field-0-is c.is_next.ensures
