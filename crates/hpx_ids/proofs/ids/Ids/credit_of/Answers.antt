use Rattle.std.proofs.Common.{arith, refl, ap, ◌∙◌, ◌≡◌, ◌≤◌, length}
use Rattle.std.specs.List.{sum_by}
use Rattle.std.proofs.lemmas.List.{take_all}
use Rattle.hpx_ids.specs.Tables.{Table, credit_at}
use Rattle.hpx_ids.proofs.Sums.{sum_more}
use Rattle.hpx_ids.proofs.ids.Ids.credit_of.Goals as goal

pub overflow_add-sum : goal.overflow_add-sum
overflow_add-sum c = omega arith

pub loop-e-preserved : goal.loop-e-preserved
loop-e-preserved c = record {
  sum = omega (arith, sum_more (credit_at c.args.gid) refl c.args.self.now.slots c.loop-e.e);
  bound = omega arith;
}

pub returns : goal.returns
returns c =
    let same : length c.self.inside.table.slots ≡ length c.args.self.now.slots = ap (λ (t : Table). length t.slots) c.self.view_is in
    let whole : length c.args.self.now.slots ≤ c.loop-e.e = omega arith in
    c.loop-e.invariant.sum ∙ ap (sum_by (credit_at c.args.gid)) (take_all c.loop-e.e c.args.self.now.slots whole)
