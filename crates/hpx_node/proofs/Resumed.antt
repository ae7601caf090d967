-- A commit that waited goes on, as the call writes it.
use Rattle.std.specs.Option.{option_to_list}
use Rattle.hpx_node.proofs.Common.{Act, Option, get_or, new_standing, suc, zero, Commits, Done, Entry, Id, IsKept, List, Makes, MayResume, OnlyLeaves, Prepared, Some, Standing, Stock, Tables, Waits, Writes, [], action_of, answered_by, ap, arith, at_all, births_of, committed_from, committed_to, false, full_stock, length, length-append, name_of, option_map, remove, rider_events, rider_of, set, slice_get, some_same, splits_from, subst, sym, total_weight, ups, with_done, written_due, ℕ, ◌++◌, ◌+◌, ◌∙◌, ◌∷◌, ◌≡◌, ◌≤◌}
use Rattle.hpx_node.proofs.Committing.{all_committed, all_written, new_there}
use Rattle.hpx_node.proofs.FewEntries.{at_all_length}
use Rattle.hpx_node.proofs.Turns.{grown_weighs}

-- the commit at i has gone on, and is short and light
pub record HasResumed (t : Tables) (i j : ℕ) (t' : Tables) (e e' : List Entry) : Type 0 where
  pub writes : (v : Waits) → slice_get t.pending i ≡ Some v → Writes (committed_from t v.job v.outcome (full_stock t v)) t t' e e'
  pub commits : (v : Waits) → slice_get t.pending i ≡ Some v → Commits v.job v.outcome (full_stock t v) j (record t { pending = remove t.pending i }) t'
  pub few : length e' ≤ length e + 598
  pub light : total_weight e' ≤ total_weight e + 2380416

module _ (t : Tables) (w : Waits) (i j : ℕ) (p : Prepared) (there : slice_get t.pending i ≡ Some w) (may : MayResume t w j p)
    (t1 t2 : Tables) (made : Makes p.births.items [] t t1) (pending : t2.pending ≡ remove t1.pending i)
    (objects : (x : Standing) → slice_get t1.objects j ≡ Some x → t2.objects ≡ set t1.objects j (record { object = x.object; state = p.plan.state }))
    (rest : t2 ≡ record t1 { pending = t2.pending; objects = t2.objects; answered = t1.answered + answered_by (option_map action_of (slice_get t1.pending i)) }) where
  still_waits : slice_get t1.pending i ≡ Some w
  still_waits = ap (λ (x : Tables). slice_get x.pending i) made.rest ∙ there

  rest_is : t2 ≡ record t1 { running = t.running; pending = remove t.pending i; objects = t2.objects; answered = t1.answered + answered_by (Some w.job.action) }
  rest_is =
      rest
      ∙ (ap (λ o. record t1 { pending = t2.pending; objects = t2.objects; answered = t1.answered + answered_by (option_map action_of o) }) still_waits
      ∙ (ap (λ ws. record t1 { pending = ws; objects = t2.objects; answered = t1.answered + answered_by (Some w.job.action) }) (pending ∙ ap (λ (x : Tables). remove x.pending i) made.rest)
      ∙ ap (λ rs. record t1 { running = rs; pending = remove t.pending i; objects = t2.objects; answered = t1.answered + answered_by (Some w.job.action) }) (ap (λ (x : Tables). x.running) made.rest)))

  pub settled_there : slice_get t2.objects j ≡ Some (new_standing t w.job w.outcome p.stock may.place.standing)
  settled_there = new_there t w.job w.outcome p may.prepared j may.place.standing may.place.stands t.running (remove t.pending i) t1 t2 made objects rest_is

  module _ (t3 : Tables) (riders : List Id) (same : riders ≡ rider_of w.job.action)
      (goes : (y : Standing) → slice_get t2.objects j ≡ Some y → t3 ≡ with_done j y p.plan.due.items riders p.plan.ups.items t2) (sends : OnlyLeaves t2 t3)
      (e0 e1 e2 e3 : List Entry) (first : e1 ≡ e0 ++ at_all t.here (births_of t.here t.births p.births.items ++ splits_from 0 p.stock.hand p.stock.places))
      (done : (v : Waits) → slice_get t1.pending i ≡ Some v → e2 ≡ e1 ++ at_all t1.here (Done (name_of v.job.action) false ∷ []))
      (left : (y : Standing) → slice_get t2.objects j ≡ Some y → e3 ≡ e2 ++ at_all t2.here (written_due t2.here t2.serial p.plan.due.items
      ++ (rider_events t2.profile.credit_log y.state.ids riders ++ ups p.plan.ups.items))) where
    all : e3 ≡ e0 ++ at_all t.here (committed_from t w.job w.outcome p.stock)
    all = all_written t w.job w.outcome p may.prepared j may.place.standing may.place.stands t.running (remove t.pending i) t1 t2 made objects rest_is riders same e0 e1 e2 e3 first
        (done w still_waits) left

    pub resumed : HasResumed t i j t3 e0 e3
    resumed = record {
      writes = λ v at. subst (λ u. Writes (committed_from t u.job u.outcome (full_stock t u)) t t3 e0 e3) (some_same w v (sym there ∙ at)) (record {
        here = ap (λ (x : Tables). x.here) sends ∙ (ap (λ (x : Tables). x.here) rest ∙ ap (λ (x : Tables). x.here) made.rest);
        localities = ap (λ (x : Tables). x.localities) sends ∙ (ap (λ (x : Tables). x.localities) rest ∙ ap (λ (x : Tables). x.localities) made.rest);
        profile = ap (λ (x : Tables). x.profile) sends ∙ (ap (λ (x : Tables). x.profile) rest ∙ ap (λ (x : Tables). x.profile) made.rest);
        grows = all ∙ ap (λ s. e0 ++ at_all t.here (committed_from t w.job w.outcome s)) may.stock;
      });
      commits = λ v at. subst (λ u. Commits u.job u.outcome (full_stock t u) j (record t { pending = remove t.pending i }) t3) (some_same w v (sym there ∙ at)) (record {
        standing = may.place.standing;
        stands = may.place.stands;
        found = may.place.found;
        goes = all_committed t w.job w.outcome p may.prepared j may.place.standing may.place.stands t.running (remove t.pending i) t1 t2 made objects rest_is t3 riders same goes
            ∙ ap (λ (s : Stock). committed_to w.job w.outcome s j may.place.standing (record t { pending = remove t.pending i })) may.stock;
      });
      few = omega (
        arith,
        ap (λ (es : List Entry). length es) all,
        length-append e0 (at_all t.here (committed_from t w.job w.outcome p.stock)),
        at_all_length t.here (committed_from t w.job w.outcome p.stock),
        may.prepared.limits.entries,
      );
      light = omega (arith, grown_weighs t.here (committed_from t w.job w.outcome p.stock) e0 e3 all, may.prepared.limits.light);
    }

-- the rider of the commit at i, as the code finds it
pub rider_same : (ps qs : List Waits) (i : ℕ) (w v : Waits) (a : Act) (o : Option Id) → ps ≡ qs → slice_get qs i ≡ Some w → v ≡ get_or ps i v → a ≡ v.job.action → option_to_list o ≡ rider_of a
    → option_to_list o ≡ rider_of w.job.action
rider_same ps qs i w v a o same there is of rider =
    let at : v ≡ w = is ∙ (ap (λ xs. get_or xs i v) same ∙ get_or_is qs i w v there) in
    rider ∙ (ap rider_of of ∙ ap (λ (x : Waits). rider_of x.job.action) at)
  where
    get_or_is : (xs : List Waits) (i : ℕ) (x d : Waits) → slice_get xs i ≡ Some x → get_or xs i d ≡ x
    get_or_is [] i x d h = cc
    get_or_is (y ∷ ys) zero x d h = some_same y x h
    get_or_is (y ∷ ys) (suc i) x d h = get_or_is ys i x d h

-- its object keeps its form
pub resumed_kept : (t : Tables) (w : Waits) (j : ℕ) (p : Prepared) (may : MayResume t w j p) (t1 : Tables) → slice_get t1.objects j ≡ Some may.place.standing
    → (x : Standing) → slice_get t1.objects j ≡ Some x → IsKept (record { object = x.object; state = p.plan.state })
resumed_kept t w j p may t1 there x h = subst (λ (y : Standing). IsKept (record { object = y.object; state = p.plan.state })) (some_same may.place.standing x (sym there ∙ h)) may.kept
