use Rattle.std.proofs.Common.{◌+◌, ◌≤◌, arith}
use Rattle.std.specs.List.{count_by}
use Rattle.hpx_journal.specs.Local.{is_given_none}
use Rattle.hpx_replay.proofs.RowLemmas.{failed_found}
use Rattle.hpx_replay.proofs.act_rows.failed_row.Goals as goal

pub returns : goal.returns
returns c = λ r.
    let few : c.args.local.now.failures + 1 ≤ count_by is_given_none c.args.local.now.given = omega (arith, c.count.ensures) in
    failed_found c.args.local.now c.args.action c.in-Some.act.now c.target.result c.in-Some-find.x.now c.in_ok-refused.refused
    c.in-Some.ensures c.target.ensures c.in-Some-find.ensures (c.is_empty.ensures.0 c.if-not-is_empty.false) few c.in_ok-refused.ensures
