use Rattle.hpx_replay.proofs.RowLemmas.{print_found}
use Rattle.hpx_replay.proofs.act_rows.print_row.Goals as goal

pub returns-in-Some-Print : goal.returns-in-Some-Print
returns-in-Some-Print c = λ r. print_found c.args.local.now.due c.in-Some-Print.field-0.now c.in-Some-Print.text c.args.bytes.now c.same.result
    c.in-Some-Print.ensures c.in-Some-Print.field-0-is c.same.ensures
