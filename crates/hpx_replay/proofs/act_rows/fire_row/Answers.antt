use Rattle.std.proofs.Common.{◌≡◌, false}
use Rattle.hpx_journal.specs.Local.{is_busy}
use Rattle.hpx_replay.proofs.RowLemmas.{fire_found}
use Rattle.hpx_replay.proofs.act_rows.fire_row.Goals as goal

pub returns-then-not-is_busy : goal.returns-then-not-is_busy
returns-then-not-is_busy c = λ r. fire_found c.args.local.now c.args.action c.in-Some.act.now c.target-o.result c.in-Some-find.field-0.now c.moves_here.result
    c.in-Some.ensures c.target-o.ensures c.in-Some-find.ensures (let k : is_busy c.target-o.result c.args.local.now.fired ≡ false = cc in k)
    c.moves_here.ensures
