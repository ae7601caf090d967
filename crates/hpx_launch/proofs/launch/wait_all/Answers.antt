use Rattle.std.proofs.Common.{[], ◌∷◌, ◌++◌, refl, sym, ap, ◌∙◌, arith, append-nil, length-append}
use Rattle.hpx_launch.proofs.Children.{ends_more, first_kept, first_new, zip_none}
use Rattle.hpx_launch.proofs.launch.wait_all.Goals.{then-first_failure-eq0, else-first_failure-eq0}
use Rattle.hpx_launch.proofs.launch.wait_all.Goals as goal

pub loop-child-init : goal.loop-child-init
loop-child-init g c = record {
  statuses = [];
  each = refl;
  ended = sym (ap (λ ends. g.P.Spawner.ended c.args.spawner.now ++ ends) (zip_none c.args.children.now) ∙ append-nil (g.P.Spawner.ended c.args.spawner.now));
  answer = refl;
  started = refl;
  calm = refl;
}

pub loop-child-preserved : goal.loop-child-preserved
loop-child-preserved g c =
    let inv = c.loop-child.invariant in
    let status = c.in_ok-status.status in
    record {
      statuses = inv.statuses ++ status ∷ [];
      each = omega (arith, inv.each, length-append inv.statuses (status ∷ []));
      ended = ends_more _ _ _ c.args.children.now inv.statuses c.loop-child.child-index status inv.each c.loop-child-test.true inv.ended c.in_ok-status.ensures.ended;
      answer = elim c.if-first_failure-eq0.branch [
        | then-first_failure-eq0 w ↦ w.first_failure-is ∙ first_new inv.statuses status c.loop-child.first_failure inv.answer w.if-first_failure-eq0.true
        | else-first_failure-eq0 w ↦ w.first_failure-is ∙ first_kept inv.statuses status c.loop-child.first_failure inv.answer w.if-first_failure-eq0.false
      ];
      started = c.in_ok-status.ensures.started ∙ inv.started;
      calm = c.in_ok-status.ensures.stands (λ failed. cc) ∙ inv.calm;
    }
