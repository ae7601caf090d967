use Rattle.std.proofs.Common.{◌↔◌, IsTrue, List, subst}
use Rattle.hpx_journal.specs.Data.{Id, Make}
use Rattle.hpx_journal.specs.Rows.{AreMade}
use Rattle.hpx_replay.proofs.RowLemmas.{done_found}
use Rattle.hpx_replay.proofs.act_rows.done_row.Goals as goal

pub returns-in-Some : goal.returns-in-Some
returns-in-Some c = λ r e.
    let P : List Make → Type 0 = λ xs. IsTrue c.are_made.result ↔ AreMade xs c.args.local.now.fresh c.args.local.now.objects in
    let Q : List Id → Type 0 = λ ys. IsTrue c.are_made.result ↔ AreMade c.as_slice.result.now ys c.args.local.now.objects in
    done_found r c.args.local.now c.args.action c.args.outcome.now c.in-Some.outcome c.are_made.result e c.in-Some.is
    (subst P c.as_slice.ensures (subst Q c.as_slice-in-Some.ensures c.are_made.ensures))
