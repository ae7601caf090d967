-- What the localities count of the moves of an object.
use Rattle.std.proofs.Common.{ℕ, cond, List, ◌≡◌, ◌≢◌, ◌+◌, ◌-◌, ◌<◌, ◌≤◌, ◌==◌, Some, length, refl, sym, ap, ◌∙◌, subst, arith, inl, inr}
use Rattle.std.specs.List.{slice_get, sum_by, count_by, AllByRecursion}
use Rattle.std.proofs.lemmas.Bool.{cases_eq, eq-eqb, ne_eqb}
use Rattle.hpx_value.specs.Ids.{same_object}
use Rattle.hpx_journal.specs.Bags.{total}
use Rattle.hpx_journal.specs.Data.{Id, Parcel}
use Rattle.hpx_journal.specs.Entries.{Rules}
use Rattle.hpx_journal.specs.Laws.{is_freed, count_events}
use Rattle.hpx_journal.specs.Local.{is_standing}
use Rattle.hpx_journal.specs.Moving.{IsCounted, IsOnTheRoad, IsTracked, MoveCounts, at_home, is_born_of, is_landed_of, is_left_of}
use Rattle.hpx_journal.specs.Whole.{IsLegal, IsClean, part, replayed, recorded_in}
use Rattle.hpx_journal.proofs.Bags.{total-same, total-add}
use Rattle.hpx_journal.proofs.Grow.{legal_part, legal_clean, run_part}
use Rattle.hpx_journal.proofs.Moving.{tracked}
use Rattle.hpx_journal.proofs.Places.{standing_run}
use Rattle.hpx_journal.proofs.Start.{first, start_whole, joined_legal, roots_unmanaged}
use Rattle.hpx_part.specs.Data.{Entry, Standing}
use Rattle.hpx_part.specs.Parts.{at_boot}
use Rattle.hpx_agas.specs.declared.record.Record.{Record}
use Rattle.hpx_steps.specs.Flows.{MovesTo, PlacedAt, go_for, record_moves, record_rests, dies}
use Rattle.hpx_steps.specs.Rest.{bound_for}
use Rattle.hpx_steps.specs.Rows.{go_to, ship_to, tell_of, tells_at, one_if}
use Rattle.hpx_steps.specs.Sound.{SendsOwn, all_count, come, gone, gone_to, grants_of}
use Rattle.hpx_steps.specs.Turn.{bare_standing}
use Rattle.hpx_steps.proofs.Sums.{map_sum}
use Rattle.hpx_tables.specs.Kept.{record_here}
use Rattle.hpx_tables.specs.Tables.{Tables}
use Rattle.hpx_tables.specs.declared.kept.Arrival.{Arrival}
use Rattle.hpx_tables.specs.declared.kept.Outgoing.{Outgoing}
use Rattle.hpx_world.specs.Tracks.{at_node, kept_for, kept_mail, leaves_for, moves_of}
pub use Rattle.hpx_world.proofs.AtEach.{AreNodes, at_is}
use Rattle.hpx_world.proofs.AtEach.{clean, place_at, s, shipped_at, taken_at, tells_at_it}
use Rattle.hpx_world.proofs.AtItsHome.{begun_flow, placed_flow, kept_for_home, kept_for_all, told_on_desk}
use Rattle.hpx_world.proofs.Begun.{born_is, none_dies, near, live_record}
use Rattle.hpx_world.proofs.Known.{IsJoined, IsShown}
use Rattle.hpx_world.proofs.Mails.{for_few, go_few, ship_bound}
use Rattle.hpx_world.proofs.Nearby.{all_gone, all_left, tables_near, sum_goes, sum_goes_to}
use Rattle.hpx_world.proofs.OnRoad.{on_the_road, none_comes, none_tells, goes_home}
use Rattle.hpx_world.proofs.Rowed.{taken_here, shipped_away, kept_self, arrived_here, told_away, told_own, none_left}
use Rattle.hpx_world.proofs.Traffic.{own_goes, own_none, own_somewhere, total_one}

-- at one place another sum
total_but : (n h : ℕ) (f g v : ℕ → ℕ) → h < n → g h ≡ 0 → ((k : ℕ) → k ≢ h → v k ≡ g k) → (c : ℕ) → v h ≡ c → total n v ≡ c + total n g
total_but n h f g v lt none same c is = omega (
  arith,
  total-same n v (λ k. cond (h == k) c 0 + g k) (λ k within. elim (cases_eq h k) [
    | inl e ↦ rw (eq-eqb h k e) (subst (λ j. v j ≡ c + g j) e (omega (arith, none, is)))
    | inr d ↦ rw (ne_eqb h k d) (omega (arith, same k (λ e. d (sym e))))
  ]),
  total-add n (λ k. cond (h == k) c 0) g,
  total_one n h c lt,
)

module _ (r : Rules) (log : ℕ) (nodes : List Tables) (es : List Entry) (joined : IsJoined r es) (each : AreNodes r log nodes es)
    (o : Id) (managed : 16 ≤ o.kind) (some : 1 ≤ recorded_in o (replayed r es)) where
  pub legal : IsLegal r es
  legal = joined_legal r joined.grammar es joined.join

  pub home : o.home < r.localities
  home = near r es legal o some

  born : (k : ℕ) → count_events (is_born_of o) (part k es) ≡ at_home o.home k
  born = born_is r es legal o some

  sent : (k : ℕ) → k < r.localities → AllByRecursion (λ (e : Entry). SendsOwn r r.localities k log e.event) (part k es)
  sent = Rattle.hpx_world.proofs.AtEach.sent r log nodes es joined each o managed home born

  abbrev pub m : MoveCounts
  m = moves_of r nodes es o

  -- ---- its home

  module _ (t : Tables) (at : slice_get nodes o.home ≡ Some t) where
    x : IsShown r log es o.home t
    x = each.shown o.home t at

    pub its : (y : Record) × (record_here t o ≡ Some y)
    its = live_record o t.records (subst (λ (c : ℕ). 1 ≤ c) (x.shows.counts.live o (sym x.here)) some)

    alive : 1 ≤ all_count (dies o) (part o.home es) → ⊥
    alive = none_dies r es legal o some

    came : m.came o.home ≡ count_by (λ (a : Arrival). same_object o a.object) t.came
    came = at_is nodes (λ (y : Tables). count_by (λ (a : Arrival). same_object o a.object) y.came) o.home t at

    pub kept : m.tell_kept o.home ≡ kept_mail (tell_of o) t
    kept = at_is nodes (kept_mail (tell_of o)) o.home t at

    told_home : m.told o.home + (m.came o.home + m.tell_kept o.home) ≡ m.landed o.home
    told_home =
        let e : m.told o.home ≡ m.landed o.home - (m.came o.home + m.tell_kept o.home) = rw (eq-eqb o.home o.home refl) refl in
        omega (arith, e, told_own r log es o.home t x o refl, came, kept)

    told_else : (j : ℕ) → j ≢ o.home → m.told j ≡ m.tell_in j
    told_else j d = rw (ne_eqb j o.home d) refl

    sent_home : (to : ℕ) → m.sent to o.home ≡ m.go_kept to o.home + m.leaving to o.home + m.left to o.home
    sent_home to = rw (eq-eqb o.home o.home refl) refl

    sent_else : (to k : ℕ) → k ≢ o.home → m.sent to k ≡ m.go_kept to k + m.go_out to k
    sent_else to k d = rw (ne_eqb k o.home d) refl

    -- what it keeps
    pub kept_there : (to : ℕ) → m.go_kept to o.home ≡ sum_by (go_to o to) t.desk
    kept_there to = at_is nodes (kept_for (go_to o to) o.home) o.home t at ∙ ap (λ b. cond b (sum_by (go_to o to) t.desk) (sum_by (bound_for o.home (go_to o to)) t.outgoing)) (eq-eqb o.home t.here (sym x.here))

    kept_away : (to k : ℕ) → k ≢ o.home → m.go_kept to k ≡ sum_by (bound_for k (go_to o to)) t.outgoing
    kept_away to k d = at_is nodes (kept_for (go_to o to) k) o.home t at
        ∙ ap (λ b. cond b (sum_by (go_to o to) t.desk) (sum_by (bound_for k (go_to o to)) t.outgoing)) (ne_eqb k t.here (λ e. d (e ∙ x.here)))

    leaving_is : (to : ℕ) → m.leaving to o.home ≡ sum_by (go_to o to) t.leaving
    leaving_is to = at_is nodes (λ (y : Tables). sum_by (go_to o to) y.leaving) o.home t at

    -- all that it made for moves to a place
    sent_all : (to : ℕ) → total r.localities (λ k. m.sent to k)
        ≡ (sum_by (go_to o to) t.desk + sum_by (go_to o to) t.leaving + m.left to o.home) + (sum_by (λ (y : Outgoing). go_to o to y.parcel) t.outgoing + all_count (gone r (go_to o to)) (part o.home es))
    sent_all to =
        let g : ℕ → ℕ = λ k. sum_by (bound_for k (go_to o to)) t.outgoing + all_count (gone_to r k (go_to o to)) (part o.home es) in
        omega (
          arith,
          total_but r.localities o.home g g (λ k. m.sent to k) home
              (omega (arith, kept_for_home r log es o t x alive its.0 its.1 (go_to o to), goes_home r log es joined.join.carried sent o home (go_to o to)))
              (λ k d. omega (arith, sent_else to k d, kept_away to k d))
              (sum_by (go_to o to) t.desk + sum_by (go_to o to) t.leaving + m.left to o.home)
              (omega (arith, sent_home to, kept_there to, leaving_is to)),
          total-add r.localities (λ k. sum_by (bound_for k (go_to o to)) t.outgoing) (λ k. all_count (gone_to r k (go_to o to)) (part o.home es)),
          kept_for_all r log es o t x alive its.0 its.1 (go_to o to),
          own_somewhere r r.localities o.home log (go_to o to) (part o.home es) (sent o.home home),
        )

    pub moving_is : (to : ℕ) → m.moving to ≡ record_moves t.here (MovesTo o to) (record_here t o)
    moving_is to = at_is nodes (λ (y : Tables). record_moves y.here (MovesTo o to) (record_here y o)) o.home t at

    pub settled_is : (k : ℕ) → m.settled k ≡ record_rests (PlacedAt o k) (record_here t o)
    settled_is k = at_is nodes (λ (y : Tables). record_rests (PlacedAt o k) (record_here y o)) o.home t at

    on_desk : (sum_by (tells_at o o.home) t.desk ≡ kept_mail (tell_of o) t) × ((j : ℕ) → o.home ≢ j → sum_by (tells_at o j) t.desk ≡ 0)
    on_desk = told_on_desk r log es o t x alive its.0 its.1

    none_in : (w : Parcel → ℕ) → ((p : Parcel) → w p ≤ grants_of o p) → all_count (come r w) (part o.home es) ≡ 0
    none_in = none_comes r log es joined.join.carried sent o home

    none_told_in : all_count (come r (tells_at o o.home)) (part o.home es) ≡ 0
    none_told_in = none_tells r log es joined.join.carried sent o home

    flow_at : (to : ℕ) → record_moves t.here (MovesTo o to) (record_here t o)
        + (all_count (come r (go_to o to)) (part o.home es) + (all_count (come r (tells_at o to)) (part o.home es) + cond (to == o.home) (all_count (λ e. one_if (is_landed_of o e)) (part o.home es)) 0))
        ≡ sum_by (go_to o to) t.desk + sum_by (tells_at o to) t.desk + sum_by (λ (y : Outgoing). go_to o to y.parcel) t.outgoing + sum_by (go_to o to) t.leaving
        + cond (to == o.home) (count_by (λ (a : Arrival). same_object o a.object) t.came) 0
        + (all_count (gone r (go_to o to)) (part o.home es) + all_count (leaves_for o to) (part o.home es))
    flow_at = begun_flow r log es o t x alive its.0 its.1

    begun_home : m.moving o.home + m.told o.home ≡ total r.localities (λ k. m.sent o.home k)
    begun_home =
        let a : cond (o.home == o.home) (all_count (λ e. one_if (is_landed_of o e)) (part o.home es)) 0 ≡ m.landed o.home = rw (eq-eqb o.home o.home refl) refl in
        let b : cond (o.home == o.home) (count_by (λ (a : Arrival). same_object o a.object) t.came) 0 ≡ count_by (λ (a : Arrival). same_object o a.object) t.came = rw (eq-eqb o.home o.home refl) refl in
        omega (
          arith,
          sent_all o.home,
          flow_at o.home,
          a,
          b,
          told_home,
          came,
          kept,
          on_desk.0,
          moving_is o.home,
          none_told_in,
          none_in (go_to o o.home) (go_few o o.home),
        )

    begun_else : (to : ℕ) → to ≢ o.home → m.moving to + m.told to ≡ total r.localities (λ k. m.sent to k)
    begun_else to d =
        let a : ◌≡◌ {A = ℕ} (cond (to == o.home) (all_count (λ e. one_if (is_landed_of o e)) (part o.home es)) 0) 0 = rw (ne_eqb to o.home d) refl in
        let b : ◌≡◌ {A = ℕ} (cond (to == o.home) (count_by (λ (a : Arrival). same_object o a.object) t.came) 0) 0 = rw (ne_eqb to o.home d) refl in
        omega (
          arith,
          sent_all to,
          flow_at to,
          a,
          b,
          told_else to d,
          on_desk.1 to (λ e. d (sym e)),
          moving_is to,
          none_in (go_to o to) (go_few o to),
        )

    begun_at : (to : ℕ) → m.moving to + m.told to ≡ total r.localities (λ k. m.sent to k)
    begun_at to = elim (cases_eq to o.home) [
      | inl e ↦ subst (λ j. m.moving j + m.told j ≡ total r.localities (λ k. m.sent j k)) (sym e) begun_home
      | inr d ↦ begun_else to d
    ]

    placed_home : m.settled o.home + total r.localities (λ to. m.sent to o.home) ≡ at_home o.home o.home + m.told o.home
    placed_home =
        let y = tables_near r joined.grammar joined.laws es legal o log o.home t x in
        let same : (c : ℕ) → cond (o.home == o.home) c 0 ≡ c = λ c. ap (λ b. cond b c 0) (eq-eqb o.home o.home refl) in
        omega (
          arith,
          settled_is o.home,
          total-same r.localities (λ to. m.sent to o.home) (λ to. sum_by (go_to o to) t.desk + (sum_by (go_to o to) t.leaving + m.left to o.home))
              (λ to within. omega (arith, sent_home to, kept_there to, leaving_is to)),
          total-add r.localities (λ to. sum_by (go_to o to) t.desk) (λ to. sum_by (go_to o to) t.leaving + m.left to o.home),
          total-add r.localities (λ to. sum_by (go_to o to) t.leaving) (λ to. m.left to o.home),
          sum_goes r.localities o t.desk y.desk,
          sum_goes r.localities o t.leaving y.leaving,
          all_left r joined.grammar joined.laws es legal o o.home,
          placed_flow r log es o t x alive its.0 its.1 o.home,
          same (all_count (λ e. one_if (is_landed_of o e)) (part o.home es)),
          same (count_by (λ (a : Arrival). same_object o a.object) t.came),
          same (sum_by (grants_of o) t.desk),
          same (sum_by (grants_of o) t.leaving),
          same (all_count (λ e. one_if (is_left_of o e)) (part o.home es)),
          kept_for_home r log es o t x alive its.0 its.1 (grants_of o),
          goes_home r log es joined.join.carried sent o home (grants_of o),
          none_in (go_for o o.home o.home) (for_few o o.home o.home),
          none_told_in,
          on_desk.0,
          told_home,
          came,
          kept,
        )

    placed_else : (k : ℕ) → k ≢ o.home → m.settled k + total r.localities (λ to. m.sent to k) ≡ at_home o.home k + m.told k
    placed_else k d =
        let y = tables_near r joined.grammar joined.laws es legal o log o.home t x in
        let none : (c : ℕ) → cond (k == o.home) c 0 ≡ 0 = λ c. ap (λ b. cond b c 0) (ne_eqb k o.home d) in
        let far : (c : ℕ) → cond (o.home == k) c 0 ≡ 0 = λ c. ap (λ b. cond b c 0) (ne_eqb o.home k (λ e. d (sym e))) in
        omega (
          arith,
          settled_is k,
          total-same r.localities (λ to. m.sent to k) (λ to. sum_by (bound_for k (go_to o to)) t.outgoing + all_count (gone_to r k (go_to o to)) (part o.home es))
              (λ to within. omega (arith, sent_else to k d, kept_away to k d)),
          total-add r.localities (λ to. sum_by (bound_for k (go_to o to)) t.outgoing) (λ to. all_count (gone_to r k (go_to o to)) (part o.home es)),
          sum_goes_to r.localities k o t.outgoing y.outgoing,
          all_gone r joined.grammar joined.laws es legal o o.home k,
          placed_flow r log es o t x alive its.0 its.1 k,
          none (all_count (λ e. one_if (is_landed_of o e)) (part o.home es)),
          none (count_by (λ (a : Arrival). same_object o a.object) t.came),
          none (all_count (λ e. one_if (is_left_of o e)) (part o.home es)),
          far (sum_by (grants_of o) t.desk),
          far (sum_by (grants_of o) t.leaving),
          none_in (go_for o k o.home) (for_few o k o.home),
          told_else k d,
          on_desk.1 k (λ e. d (sym e)),
        )

    placed_at : (k : ℕ) → m.settled k + total r.localities (λ to. m.sent to k) ≡ at_home o.home k + m.told k
    placed_at k = elim (cases_eq k o.home) [
      | inl e ↦ subst (λ j. m.settled j + total r.localities (λ to. m.sent to j) ≡ at_home o.home j + m.told j) (sym e) placed_home
      | inr d ↦ placed_else k d
    ]

  pub counted : IsCounted r.localities o.home m
  counted =
      let y = each.node o.home home in
      record {
        sent = λ t k lt within d. sent_else y.0 y.1 t k d;
        sent_own = λ t lt. sent_home y.0 y.1 t;
        begun = λ t lt. begun_at y.0 y.1 t;
        placed = λ k lt. placed_at y.0 y.1 k;
        heard = λ t lt d. told_else y.0 y.1 t d;
        heard_own = omega (arith, told_home y.0 y.1);
        taken = λ t k lt within d. let z = each.node k within in taken_at r log nodes es joined each o managed home born k within z.0 z.1 t d;
        shipped = λ t k lt within. let z = each.node k within in shipped_at r log nodes es joined each o managed home born k within z.0 z.1 t lt;
        arrived = λ t lt. let z = each.node t lt in arrived_here r log es t z.0 (s r log nodes es joined each o managed home born t lt z.0 z.1) o (clean r log nodes es joined each o managed home born t lt z.0 z.1);
        tells = λ t lt d. let z = each.node t lt in tells_at_it r log nodes es joined each o managed home born t lt z.0 z.1 d;
        place = λ k lt. let z = each.node k lt in place_at r log nodes es joined each o managed home born k lt z.0 z.1;
      }

  pub on_its_road : IsOnTheRoad r.localities o.home m
  on_its_road = on_the_road r log es joined.join.carried sent o home nodes

  pub tracked_moves : IsTracked r.localities m
  tracked_moves = tracked r.localities o.home m counted on_its_road
