use Rattle.std.proofs.Common.{true, ap}
use Rattle.hpx_journal.specs.declared.entry.Event.TheVariants.{Done}
use Rattle.hpx_replay.proofs.RowLemmas.{row_is}
use Rattle.hpx_replay.proofs.act_rows.commit_row.Goals as goal

pub returns-in_ok-allowed : goal.returns-in_ok-allowed
returns-in_ok-allowed c = λ r e.
    row_is r c.args.local.now (Done c.args.action c.args.failed) (Done c.args.action true) c.in_ok-allowed.allowed
    (ap (λ b. Done c.args.action b) c.if-failed.true) (c.in_ok-allowed.ensures r)
