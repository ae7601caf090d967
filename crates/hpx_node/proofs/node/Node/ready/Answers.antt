use Rattle.hpx_node.proofs.Common.{Give, HasCredit, Id, IsFitJob, IsKept, IsParcel, IsPaused, IsReadyFor, IsTidy, Job, KeepsLaws, Locality, None, Some, Waits, [], ap, arith, awaits, bare, broken_near, find, find_passes, get_or, give_right, hand_with, is_last, is_standing, length, plain, seen, slice_get, slice_get_is, stock_with, subst, sym, take, target_of, true, ℕ, ◌<◌, ◌∙◌, ◌≡◌, ◌≤◌}
use Rattle.hpx_node.proofs.LeftBy.{kept_then}
use Rattle.hpx_commit.proofs.Jobs.{laws_by, right_by}
use Rattle.hpx_node.proofs.Paused.{asked_within, in_place, paused_at}
use Rattle.hpx_node.proofs.Planned.{made_long}
use Rattle.hpx_node.proofs.Seen.{fit_seen}
use Rattle.hpx_node.proofs.ReadyStock.{IsStockReady, brings_by, is_ready, last_is}
use Rattle.hpx_node.proofs.node.Node.ready.Goals as goal

-- a commit that waits, as the code finds it
module _ (x y : Locality) (e : x ≡ y) (i : ℕ) (w : Waits) (lt : i < length x.tables.pending) (is : w ≡ get_or x.tables.pending i w)
    (tidy : IsTidy y.tables []) where
  is_there : slice_get y.tables.pending i ≡ Some w
  is_there = ap (λ (z : Locality). slice_get z.tables.pending i) (sym e) ∙ slice_get_is x.tables.pending i w lt is

  was_at : IsPaused y.tables.here y.tables.localities y.tables.profile.credit_log y.tables.objects w
  was_at = paused_at y.tables i w tidy is_there

  module _ (o : Id) (n : ℕ) (right : broken_near y.tables (Give o n) ≡ None) (found : find (awaits o n) x.tables.pending ≡ slice_get x.tables.pending i) where
    for_at : awaits o n w ≡ true
    for_at = find_passes (awaits o n) y.tables.pending w
        (ap (λ (z : Locality). find (awaits o n) z.tables.pending) (sym e) ∙ (found ∙ (ap (λ (z : Locality). slice_get z.tables.pending i) e ∙ is_there)))

    stock_at : KeepsLaws y.tables.localities w.job.kind w.job.at w.job.state (plain w.job.action) w.outcome → 8 ≤ x.tables.profile.credit_log → HasCredit o
        → is_last o (Some w) ≡ true → IsStockReady y.tables w (hand_with o n w)
    stock_at laws log credit last = is_ready y.tables w o n was_at was_at.few.0 laws (subst (λ (z : Locality). 8 ≤ z.tables.profile.credit_log) e log) credit
        (brings_by y.tables o (give_right y.tables (bare o) o n right).1) for_at last

pub lawful-requires : goal.lawful-requires
lawful-requires g c =
    let inside : c.in-Some.i < length c.self.inside.pending.items = rw (c.as_slice.ensures.value) at c.in-Some.ensures.inside in
    let was = was_at _ _ c.self.view_is c.in-Some.i c.index-waits.result.now inside c.index-waits.ensures c.requires.tidy in
    record {
      localities = omega (arith, c.done.ensures.localities, was.localities, was.few.0);
      at = omega (arith, c.done.ensures.localities, was.localities, was.few.1, ap (λ (x : Job). x.at) c.done.ensures.job);
      fit = subst IsFitJob (sym c.done.ensures.job) was.job;
    }

pub hand_with-requires : goal.hand_with-requires
hand_with-requires g c =
    let t = c.args.self.now.tables in
    let inside : c.in-Some.i < length c.self.inside.pending.items = rw (c.as_slice.ensures.value) at c.in-Some.ensures.inside in
    let was = was_at _ _ c.self.view_is c.in-Some.i c.index-waits.result.now inside c.index-waits.ensures c.requires.tidy in
    asked_within t.here t.localities t.profile.credit_log t.objects c.index-waits.result.now was

pub prepare_waiting-requires : goal.prepare_waiting-requires
prepare_waiting-requires g c =
    let t = c.args.self.now.tables in
    let w = c.index-waits.result.now in
    let inside : c.in-Some.i < length c.self.inside.pending.items = rw (c.as_slice.ensures.value) at c.in-Some.ensures.inside in
    let was = was_at _ _ c.self.view_is c.in-Some.i c.index-waits.result.now inside c.index-waits.ensures c.requires.tidy in
    let o = c.in-Give.id in
    let right = subst (λ p. broken_near c.args.self.now.tables p ≡ None) c.in-Give.is c.requires.right in
    let credit : HasCredit c.in-Give.id = subst IsParcel c.in-Give.is c.requires.fit in
    let found = rw (c.as_slice.ensures.value) at c.in-Some.ensures.found in
    let yes : c.waits_for_one.result ≡ true = let no = c.if-not-waits_for_one.false in cc in
    let last = last_is o w c.log_of.result c.waits_for_one.result c.log_of.ensures.log c.waits_for_one.ensures c.if-log_of-eq0.false yes in
    let laws = laws_by c.done.result.now.localities t.localities (seen c.done.result.now.job) (seen w.job) c.done.result.now.outcome w.outcome (c.done.ensures.localities ∙ was.localities)
    (ap seen c.done.ensures.job) c.done.ensures.outcome c.lawful.ensures in
    let k = stock_at _ _ c.self.view_is c.in-Some.i w inside c.index-waits.ensures c.requires.tidy o c.in-Give.entry right found laws c.self.invariant.3.log_least credit last in
    record {
      localities = was.localities;
      near = was.few.0;
      at = omega (arith, was.localities, was.few.1);
      fit = was.job;
      few = c.requires.few;
      fits = rw (c.as_slice-2.ensures.value, c.in_ok-hand.ensures) (omega (arith, k.long, made_long t.here t.births t.profile.credit_log w.outcome.makes));
      short = rw (c.as_slice-2.ensures.value, c.in_ok-hand.ensures) k.short;
      stock = rw (c.as_slice-2.ensures.value, c.in_ok-hand.ensures) k.stock;
    }

pub returns-clause-some : goal.returns-clause-some
returns-clause-some g c =
    let t = c.args.self.now.tables in
    let w = c.index-waits.result.now in
    let inside : c.in-Some.i < length c.self.inside.pending.items = rw (c.as_slice.ensures.value) at c.in-Some.ensures.inside in
    let was = was_at _ _ c.self.view_is c.in-Some.i c.index-waits.result.now inside c.index-waits.ensures c.requires.tidy in
    let o = c.in-Give.id in
    let right = subst (λ p. broken_near c.args.self.now.tables p ≡ None) c.in-Give.is c.requires.right in
    let n = c.in-Give.entry in
    let found = rw (c.as_slice.ensures.value) at c.in-Some.ensures.found in
    let yes : c.waits_for_one.result ≡ true = let no = c.if-not-waits_for_one.false in cc in
    let last = last_is o w c.log_of.result c.waits_for_one.result c.log_of.ensures.log c.waits_for_one.ensures c.if-log_of-eq0.false yes in
    let laws = laws_by c.done.result.now.localities t.localities (seen c.done.result.now.job) (seen w.job) c.done.result.now.outcome w.outcome (c.done.ensures.localities ∙ was.localities)
    (ap seen c.done.ensures.job) c.done.ensures.outcome c.lawful.ensures in
    let alone = rw (c.as_slice.ensures.value) at c.in-Some.ensures.first in
    let stands = rw (c.target.ensures, c.action.ensures) at c.in-Some-place.ensures.found in
    let object = ap (λ (x : Locality). find (is_standing (target_of w.job.action)) x.tables.objects) (sym c.self.view_is)
    ∙ (stands ∙ ap (λ (x : Locality). slice_get x.tables.objects c.in-Some-place.j) c.self.view_is) in
    let place = in_place _ _ _ _ w c.in-Some-place.j was c.requires.tidy.objects (sym object ∙ was.found) in
    let p = c.in_ok-prepared.prepared in
    let prepared = c.in_ok-prepared.ensures.prepared in
    subst (λ q. IsReadyFor g.A.Acts.act_of t q (record { i = c.in-Some.i; j = c.in-Some-place.j; prepared = c.in_ok-prepared.prepared })) (sym c.in-Give.is)
    (record {
      before = w;
      there = is_there _ _ c.self.view_is c.in-Some.i w inside c.index-waits.ensures c.requires.tidy;
      first = ap (λ (x : Locality). find (awaits o n) (take c.in-Some.i x.tables.pending)) (sym c.self.view_is) ∙ alone;
      for = for_at _ _ c.self.view_is c.in-Some.i w inside c.index-waits.ensures c.requires.tidy o n right found;
      last = last;
      drawn = c.requires.tidy.drawn;
      place = place;
      laws = laws;
      right = right_by g.A.Acts.act_of c.done.result.now.localities t.localities (seen c.done.result.now.job) (seen w.job) c.done.result.now.outcome w.outcome
          (c.done.ensures.localities ∙ was.localities) (ap seen c.done.ensures.job) c.done.ensures.outcome c.done.result.now.right;
      kept = subst (λ s. IsKept (record { object = place.standing.object; state = s })) (sym prepared.state_left)
          (kept_then t (seen w.job) w.outcome (fit_seen w.job was.job) was.few.0 laws p.stock prepared.stock place.standing place.kept place.kind place.state);
      prepared = prepared;
      stock = c.in_ok-prepared.ensures.stock ∙ ap (stock_with t w) (c.as_slice-2.ensures.value ∙ c.in_ok-hand.ensures);
    })
