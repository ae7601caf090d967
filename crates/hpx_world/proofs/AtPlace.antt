-- Where nothing is under way, each object stands where its home says.
use Rattle.std.proofs.Common.{ℕ, zero, suc, Bool, true, false, cond, List, [], ◌≡◌, ◌+◌, ◌<◌, ◌≤◌, ◌==◌, Some, refl, sym, ap, ◌∙◌, subst, arith, inl, inr}
use Rattle.std.specs.Prelude.{◌&&◌, not, is_some}
use Rattle.std.specs.List.{slice_get, sum_by, count_by}
use Rattle.std.proofs.lemmas.Bool.{eq-eqb}
use Rattle.hpx_value.specs.Ids.{same_object}
use Rattle.hpx_journal.specs.Bags.{total}
use Rattle.hpx_journal.specs.Data.{Id, Parcel}
use Rattle.hpx_journal.specs.Entries.{Rules}
use Rattle.hpx_journal.specs.Laws.{road_run}
use Rattle.hpx_journal.specs.Moving.{IsCounted, IsOnTheRoad, MoveCounts, at_home, going, untold}
use Rattle.hpx_journal.specs.Whole.{recorded_in, replayed}
use Rattle.hpx_journal.proofs.Bags.{total-add, total-le, total-same, total-zero}
use Rattle.hpx_part.specs.Data.{Entry}
use Rattle.hpx_agas.specs.declared.record.Record.{Record}
use Rattle.hpx_steps.specs.Rest.{bound_for}
use Rattle.hpx_steps.specs.Rows.{go_to, one_if, ship_to, tell_of, tells_at}
use Rattle.hpx_tables.specs.Tables.{Tables}
use Rattle.hpx_tables.specs.declared.kept.Arrival.{Arrival}
use Rattle.hpx_tables.specs.declared.kept.Outgoing.{Outgoing}
use Rattle.hpx_world.specs.Tracks.{at_node, kept_for, kept_mail}
use Rattle.hpx_world.proofs.Cleared.{IsCleared}
use Rattle.hpx_world.proofs.Counted.{AreNodes, at_is, counted, home, on_its_road}
use Rattle.hpx_world.proofs.Known.{IsJoined}
use Rattle.hpx_world.proofs.Traffic.{bound, total_one}
use Rattle.hpx_world.proofs.Whereabouts.{c, its_record, never_freed, rests_is, tracked}

pub total_swap : (n l : ℕ) (f : ℕ → ℕ → ℕ) → total n (λ i. total l (λ j. f i j)) ≡ total l (λ j. total n (λ i. f i j))
total_swap zero l f = sym (total-zero l (λ j. 0) (λ j h. refl))
total_swap (suc n) l f = omega (
  arith,
  total_swap n l f,
  total-add l (λ j. f n j) (λ j. total n (λ i. f i j)),
  total-same l (λ j. total (suc n) (λ i. f i j)) (λ j. f n j + total n (λ i. f i j)) (λ j h. refl),
)

-- counts of which nothing is under way: one place is where it rests
module _ (n h : ℕ) (m : MoveCounts) (cm : IsCounted n h m) (road : IsOnTheRoad n h m) (near : h < n)
    (none_go : (t k : ℕ) → t < n → k < n → going m t k ≡ 0) (none_ship : (t k : ℕ) → t < n → k < n → m.ship_kept t k ≡ 0) (none_on : (t : ℕ) → t < n → m.ship_road t ≡ 0)
    (none_told : (t : ℕ) → t < n → untold m t ≡ 0) where
  sent_left : (t k : ℕ) → t < n → k < n → m.sent t k ≡ m.left t k
  sent_left t k lt within = elim (Rattle.std.proofs.lemmas.Bool.cases_eq k h) [
    | inl e ↦ subst (λ j. m.sent t j ≡ m.left t j) (sym e) (omega (arith, cm.sent_own t lt, subst (λ j. going m t j ≡ 0) e (none_go t k lt within)))
    | inr d ↦ omega (arith, cm.sent t k lt within d, road.gos t k lt within, cm.taken t k lt within d, none_go t k lt within)
  ]

  told_landed : (t : ℕ) → t < n → m.told t ≡ m.landed t
  told_landed t lt = elim (Rattle.std.proofs.lemmas.Bool.cases_eq t h) [
    | inl e ↦ subst (λ j. m.told j ≡ m.landed j) (sym e) (omega (arith, cm.heard_own, subst (λ j. untold m j ≡ 0) e (none_told t lt)))
    | inr d ↦ omega (arith, cm.heard t lt d, cm.tells t lt d, road.tells t lt, none_told t lt)
  ]

  left_landed : (t : ℕ) → t < n → total n (λ k. m.left t k) ≡ m.landed t
  left_landed t lt = omega (
    arith,
    total-same n (λ k. m.left t k) (λ k. m.ship_out t k) (λ k within. omega (arith, cm.shipped t k lt within, none_ship t k lt within)),
    road.ships t lt,
    none_on t lt,
    cm.arrived t lt,
  )

  pub rests_once : total n (λ k. m.settled k) ≡ 1
  rests_once = omega (
    arith,
    total-same n (λ k. m.settled k + total n (λ t. m.left t k)) (λ k. cond (h == k) 1 0 + m.landed k) (λ k lt. omega (
      arith,
      cm.placed k lt,
      total-same n (λ t. m.sent t k) (λ t. m.left t k) (λ t within. sent_left t k within lt),
      told_landed k lt,
      turned k,
    )),
    total-add n (λ k. m.settled k) (λ k. total n (λ t. m.left t k)),
    total-add n (λ k. cond (h == k) 1 0) (λ k. m.landed k),
    total_one n h 1 near,
    total_swap n n (λ k t. m.left t k),
    total-same n (λ t. total n (λ k. m.left t k)) (λ t. m.landed t) left_landed,
  )
    where
      turned : (k : ℕ) → at_home h k ≡ cond (h == k) 1 0
      turned k = ap (λ b. cond b 1 0) (Rattle.hpx_steps.proofs.ByRows.eq_turned k h)

module _ (r : Rules) (log : ℕ) (nodes : List Tables) (es : List Entry) (joined : IsJoined r es) (each : AreNodes r log nodes es)
    (quiet : road_run [] es ≡ []) (cleared : (k : ℕ) (t : Tables) → slice_get nodes k ≡ Some t → IsCleared t)
    (o : Id) (managed : 16 ≤ o.kind) (some : 1 ≤ recorded_in o (replayed r es)) where
  abbrev m : MoveCounts
  m = c r log nodes es joined each o managed some

  its_home : o.home < r.localities
  its_home = home r log nodes es joined each o managed some

  -- nothing is counted of lists that are empty
  none_kept : (w : Parcel → ℕ) (k : ℕ) → k < r.localities → at_node nodes (kept_mail w) k ≡ 0
  none_kept w k lt =
      let x = each.node k lt in
      let p = cleared k x.0 x.1 in
      at_is nodes (kept_mail w) k x.0 x.1 ∙ omega (arith, ap (sum_by w) p.desk, ap (sum_by (λ (y : Outgoing). w y.parcel)) p.outgoing)

  none_for : (w : Parcel → ℕ) (k : ℕ) → at_node nodes (kept_for w k) o.home ≡ 0
  none_for w k =
      let x = each.node o.home its_home in
      let p = cleared o.home x.0 x.1 in
      at_is nodes (kept_for w k) o.home x.0 x.1 ∙ (ap (λ (ps : List Parcel). cond (k == x.0.here) (sum_by w ps) (sum_by (bound_for k w) x.0.outgoing)) p.desk
      ∙ (ap (λ (xs : List Outgoing). cond (k == x.0.here) 0 (sum_by (bound_for k w) xs)) p.outgoing ∙ either (k == x.0.here)))
    where
      either : (b : Bool) → ◌≡◌ {A = ℕ} (cond b 0 0) 0
      either true = refl
      either false = refl

  none_on_road : (w : Parcel → ℕ) (k : ℕ) → sum_by (bound r k w) (road_run [] es) ≡ 0
  none_on_road w k = ap (sum_by (bound r k w)) quiet

  none_leaving : (t k : ℕ) → k < r.localities → m.leaving t k ≡ 0
  none_leaving t k lt =
      let x = each.node k lt in
      at_is nodes (λ (y : Tables). sum_by (go_to o t) y.leaving) k x.0 x.1 ∙ ap (sum_by (go_to o t)) (cleared k x.0 x.1).leaving

  none_came : (k : ℕ) → k < r.localities → m.came k ≡ 0
  none_came k lt =
      let x = each.node k lt in
      at_is nodes (λ (y : Tables). count_by (λ (a : Arrival). same_object o a.object) y.came) k x.0 x.1
      ∙ ap (count_by (λ (a : Arrival). same_object o a.object)) (cleared k x.0 x.1).came

  none_go : (t k : ℕ) → t < r.localities → k < r.localities → going m t k ≡ 0
  none_go t k lt within = omega (arith, none_for (go_to o t) k, none_on_road (go_to o t) k, none_leaving t k within)

  none_told : (t : ℕ) → t < r.localities → untold m t ≡ 0
  none_told t lt = omega (arith, none_came t lt, none_kept (tell_of o) t lt, none_on_road (tells_at o t) o.home)

  once : total r.localities (λ k. m.settled k) ≡ 1
  once = rests_once r.localities o.home m (counted r log nodes es joined each o managed some) (on_its_road r log nodes es joined each o managed some) its_home
      none_go (λ t k lt within. none_kept (ship_to o t) k within) (λ t lt. none_on_road (ship_to o t) t) none_told

  abbrev pub its_place : Record
  its_place = (its_record r log nodes es joined each o managed some).0

  -- which says that it does not move
  pub still : is_some its_place.moving ≡ false
  still = elim (Rattle.std.proofs.lemmas.Bool.cases_Bool (is_some its_place.moving)) [
    | inr f ↦ f
    | inl t ↦ absurd (omega (
      arith,
      once,
      total-zero r.localities (λ k. m.settled k) (λ k lt. rests_is r log nodes es joined each o managed some k ∙ ap (λ b. one_if (not b && (its_place.place == k))) t),
    ))
  ]

  -- it stands somewhere
  pub stands_once : 1 ≤ total r.localities (λ k. m.stands k)
  stands_once = omega (
    arith,
    once,
    total-le r.localities (λ k. m.settled k) (λ k. m.stands k) (λ k lt. omega (
      arith,
      (tracked r log nodes es joined each o managed some).stands k lt,
      never_freed r log nodes es joined each o managed some k,
    )),
  )

  -- and there
  pub stands_told : (place : ℕ) → place < r.localities → its_place.place ≡ place → m.stands place ≡ 1
  stands_told place lt at = omega (
    arith,
    (tracked r log nodes es joined each o managed some).stands place lt,
    never_freed r log nodes es joined each o managed some place,
    none_told place lt,
    total-zero r.localities (λ t. going m t place) (λ t within. none_go t place within lt),
    rests_is r log nodes es joined each o managed some place,
    ap (λ b. one_if (not b && (its_place.place == place))) still,
    ap one_if (eq-eqb its_place.place place at),
  )
