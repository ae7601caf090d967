use Rattle.std.proofs.Common.{ℕ, List, ◌+◌, ◌≡◌, true, false, sym, subst, ◌∙◌}
use Rattle.hpx_ids.specs.Tables.{entry, IsKeptBy}
use Rattle.hpx_ids.proofs.Rising.{Gathers, gathers_yes, gathers_no}
use Rattle.hpx_ids.proofs.ids.Ids.of_owner.Goals as goal
use Rattle.hpx_ids.proofs.ids.Ids.of_owner.Goals.{then-is_kept_by+in_ok-push, else-is_kept_by}

pub loop-e-preserved : goal.loop-e-preserved
loop-e-preserved c =
    let P = λ (k : ℕ). IsKeptBy (entry c.args.self.now k) c.args.owner in
    let Q = λ (keys : List ℕ). Gathers P keys (c.loop-e.e + 1) in
    elim c.if-is_kept_by.branch [
      | then-is_kept_by+in_ok-push w ↦
          subst Q (sym (w.keys-is ∙ w.in_ok-push.ensures.ok)) (gathers_yes P c.loop-e.keys c.loop-e.e c.loop-e.invariant (c.is_kept_by.ensures.0 w.if-is_kept_by.true))
      | else-is_kept_by w ↦
          subst Q (sym w.keys-is) (gathers_no P c.loop-e.keys c.loop-e.e c.loop-e.invariant (λ kept. let no : false ≡ true = rw w.if-is_kept_by.false at (c.is_kept_by.ensures.1 kept) in cc))
    ]
