-- An object of which no credit is out stands in one place until it is freed, and what frees it goes there.
use Rattle.std.proofs.Common.{ℕ, Bool, true, false, cond, List, [], ◌∷◌, ◌≡◌, ◌≢◌, ◌+◌, ◌<◌, ◌≤◌, ◌==◌, Option, Some, None, refl, sym, ap, ◌∙◌, subst, arith, inl, inr}
use Rattle.std.specs.Prelude.{◌&&◌, is_some}
use Rattle.std.specs.Option.{option_map_or}
use Rattle.std.specs.List.{slice_get, sum_by, count_by, find, AllByRecursion}
use Rattle.std.proofs.lemmas.Bool.{cases_eq, cases_lt, eq-eqb, ne_eqb}
use Rattle.std.proofs.lemmas.List.Sums.{sum_by-cons}
use Rattle.hpx_value.specs.Ids.{same_object}
use Rattle.hpx_journal.specs.Bags.{total}
use Rattle.hpx_journal.specs.Data.{Id, Parcel}
use Rattle.hpx_journal.specs.Entries.{Rules}
use Rattle.hpx_journal.specs.Laws.{IsBornIn, count_events, is_free_of, is_freed, freeds, road_run, takes_such}
use Rattle.hpx_journal.specs.Local.{is_standing}
use Rattle.hpx_journal.specs.Moving.{IsOnTheRoad, MoveCounts, at_home, is_born_of, is_landed_of, is_left_of}
use Rattle.hpx_journal.specs.Rows.{IsDead}
use Rattle.hpx_journal.specs.Whole.{IsDeadIn, IsLegal, part, replayed, recorded_in, credit_sum}
use Rattle.hpx_journal.proofs.Bags.{total-same, total-add, total-zero, total-term, total-le}
use Rattle.hpx_journal.proofs.DeadOnce.{is_death, dies_once}
use Rattle.hpx_journal.proofs.Failures.{below_all}
use Rattle.hpx_journal.proofs.Frames.{total_less}
use Rattle.hpx_journal.proofs.Start.{joined_legal, legal_whole}
use Rattle.hpx_part.specs.Data.{Event, Entry, Count, Freed, In, Out}
use Rattle.hpx_agas.specs.Records.{find_record}
use Rattle.hpx_agas.specs.declared.record.Record.{Record}
use Rattle.hpx_steps.specs.Flows.{dies}
use Rattle.hpx_steps.specs.Frames.{IsOnItsWay}
use Rattle.hpx_steps.specs.Rest.{bound_for, unpaid}
use Rattle.hpx_steps.specs.Rows.{FreesOf, causes, frees_one, go_to, goes, one_if, ship_to, tell_of, tells_at, weighed}
use Rattle.hpx_steps.specs.Sound.{SendsOwn, all_count, come, gone, gone_to, grants_of}
use Rattle.hpx_tables.specs.Kept.{held_here, record_here, stands_here, waits_here}
use Rattle.hpx_tables.specs.Tables.{Tables}
use Rattle.hpx_tables.specs.declared.kept.Arrival.{Arrival}
use Rattle.hpx_tables.specs.declared.kept.Outgoing.{Outgoing}
use Rattle.hpx_world.specs.Tracks.{at_node, kept_mail, leaves_for, moves_of}
use Rattle.hpx_world.proofs.AtEach.{AreNodes, at_is, clean, place_at, sent, shipped_at, taken_at, tells_at_it}
use Rattle.hpx_world.proofs.AtItsHome.{two_counts}
use Rattle.hpx_world.proofs.AtPlace.{total_swap}
use Rattle.hpx_world.proofs.Audited.{count_in_records}
use Rattle.hpx_world.proofs.Begun.{born_there, dies_needed}
use Rattle.hpx_world.proofs.Freeing.{ends_at, free_home}
use Rattle.hpx_world.proofs.Known.{IsJoined, IsShown}
use Rattle.hpx_world.proofs.Mails.{go_few}
use Rattle.hpx_world.proofs.Nearby.{all_gone, all_left}
use Rattle.hpx_world.proofs.OnRoad.{on_the_road, goes_out, goes_home}
use Rattle.hpx_world.proofs.Rowed.{all_same, arrived_here, on_way}
use Rattle.hpx_world.proofs.Traffic.{bound, own_none, own_somewhere, road_count, sum_parts, sum_same, total_at, total_one, total_sum}
use Rattle.hpx_world.proofs.Unnamed.{NoneIn, grants_few, none_came, none_held, none_named, none_on_road, none_tell, none_tell_on_road, none_waits, ships_few}
use Rattle.hpx_world.proofs.Whereabouts.{found_by}

-- where each is at most another, and all are as many, each is the other
each_same : (n : ℕ) (f g : ℕ → ℕ) → ((j : ℕ) → j < n → f j ≤ g j) → total n g ≤ total n f → (k : ℕ) → k < n → g k ≤ f k
each_same n f g less all k lt = elim (cases_lt (f k) (g k)) [
  | inl more ↦ absurd (omega (arith, all, total_less n f g k lt less (omega (arith, more))))
  | inr most ↦ omega (arith, most)
]

nothing : (b : Bool) → ◌≡◌ {A = ℕ} (cond b 0 0) 0
nothing true = refl
nothing false = refl

-- ---- entries

frees_taken : (r : Rules) (o : Id) (e : Event) → come r (frees_one o) e ≡ cond (takes_such (is_free_of o) r e) 1 0
frees_taken r o (In bytes) = each (r.parcel_of bytes)
  where
    each : (p : Option Parcel) → weighed (frees_one o) p ≡ cond (is_free_of o p) 1 0
    each None = refl
    each (Some p) = refl
frees_taken r o _ = refl

frees_go : (r : Rules) (o : Id) (e : Event) → gone r (frees_one o) e + one_if (is_freed o e) ≡ goes r (FreesOf o) e
frees_go r o (Out to bytes) = omega arith
frees_go r o (Freed x) = omega arith
frees_go r o _ = refl

frees_come : (r : Rules) (o : Id) (e : Event) → causes r (FreesOf o) e ≡ come r (frees_one o) e + cond (is_death o e) 1 0
frees_come r o (In bytes) = omega arith
frees_come r o (Count x count why) = omega arith
frees_come r o _ = refl

module _ (r : Rules) (log : ℕ) (nodes : List Tables) (es : List Entry) (joined : IsJoined r es) (each : AreNodes r log nodes es)
    (o : Id) (managed : 16 ≤ o.kind) (home : o.home < r.localities) (dead : IsDeadIn o (replayed r es)) (born : IsBornIn o (replayed r es)) (gone_all : credit_sum r o (replayed r es) ≡ 0) where
  births : (k : ℕ) → count_events (is_born_of o) (part k es) ≡ at_home o.home k
  births = born_there r es (joined_legal r joined.grammar es joined.join) o born

  abbrev m : MoveCounts
  m = moves_of r nodes es o

  abbrev n : ℕ
  n = r.localities

  its_legal : IsLegal r es
  its_legal = joined_legal r joined.grammar es joined.join

  own_sent : (k : ℕ) → k < r.localities → AllByRecursion (λ (e : Entry). SendsOwn r r.localities k log e.event) (part k es)
  own_sent = sent r log nodes es joined each o managed home births

  road : IsOnTheRoad r.localities o.home m
  road = on_the_road r log es joined.join.carried own_sent o home nodes

  -- ---- at its home

  abbrev x : Tables
  x = (each.node o.home home).0

  at_x : slice_get nodes o.home ≡ Some x
  at_x = (each.node o.home home).1

  sx : IsShown r log es o.home x
  sx = each.shown o.home x at_x

  no_record : record_here x o ≡ None
  no_record = elim_record (record_here x o) refl
    where
      counted_none : option_map_or (λ (y : Record). y.count) (find_record o x.records) 0 ≡ 0
      counted_none = omega (
        arith,
        sym (count_in_records o x.records),
        sx.shows.counts.live o (sym sx.here),
        (legal_whole r es its_legal).ledger o,
        gone_all,
      )

      elim_record : (y : Option Record) → record_here x o ≡ y → record_here x o ≡ None
      elim_record None e = e
      elim_record (Some y) e = absurd (omega (arith, counted_none, ap (λ (z : Option Record). option_map_or (λ (q : Record). q.count) z 0) e, (sx.tidy.places o y e).1))

  no_grants : NoneIn (grants_of o) x
  no_grants = none_named r log es joined o managed gone_all o.home x sx (grants_of o) (grants_few o managed)

  ends : (j : ℕ) → cond (j == o.home) (all_count (dies o) (part o.home es)) 0 + (all_count (come r (tells_at o j)) (part o.home es) + cond (j == o.home) (all_count (λ e. one_if (is_landed_of o e)) (part o.home es)) 0)
      ≤ cond (o.home == j) (sum_by (frees_one o) x.desk) 0 + sum_by (bound_for j (frees_one o)) x.outgoing
      + (all_count (gone_to r j (grants_of o)) (part o.home es) + all_count (gone_to r j (frees_one o)) (part o.home es)
      + cond (j == o.home) (all_count (λ e. one_if (is_left_of o e)) (part o.home es) + all_count (λ e. one_if (is_freed o e)) (part o.home es)) 0)
  ends = ends_at r log es o x sx no_record no_grants (none_tell r log es joined o managed gone_all o.home x sx) (none_came r log es joined o managed gone_all o.home x sx)

  died : 1 ≤ all_count (dies o) (part o.home es)
  died = dies_needed r es its_legal o dead

  -- ---- what frees it

  abbrev frees : Parcel → ℕ
  frees = frees_one o

  -- it is under way to j
  abbrev pub way : ℕ → ℕ
  way j = cond (o.home == j) (sum_by (frees_one o) x.desk) 0 + sum_by (bound_for j (frees_one o)) x.outgoing + sum_by (bound r j (frees_one o)) (road_run [] es)

  frees_road : (j : ℕ) → sum_by (bound r j frees) (road_run [] es) + all_count (come r frees) (part j es) ≡ all_count (gone_to r j frees) (part o.home es)
  frees_road j = road_count r frees j es joined.join.carried ∙ total_at n (λ i. all_count (gone_to r j frees) (part i es)) o.home home (λ i lt d.
      own_none r n i log j frees (part i es) (own_sent i lt) (λ to p way. let z : frees p ≡ 0 = free_home o i to p way.may (λ e. d (sym e)) in rw z (nothing (to == j))))

  none_home : all_count (gone_to r o.home frees) (part o.home es) ≡ 0
  none_home = goes_home r log es joined.join.carried own_sent o home frees

  freed_came : (j : ℕ) → j < n → all_count (come r frees) (part j es) ≤ all_count (λ e. one_if (is_freed o e)) (part j es)
  freed_came j lt =
      let y = each.node j lt in
      omega (arith, all_same (come r frees) (λ e. cond (takes_such (is_free_of o) r e) 1 0) (part j es) (frees_taken r o), (each.shown j y.0 y.1).paid.frees o)

  -- ---- where it stands

  module _ (j : ℕ) (lt : j < n) (t : Tables) (at : slice_get nodes j ≡ Some t) where
    sj : IsShown r log es j t
    sj = each.shown j t at

    place : m.stands j + m.freed j + total n (λ to. m.left to j) ≡ at_home o.home j + m.landed j
    place = place_at r log nodes es joined each o managed home births j lt t at

    lefts : total n (λ to. m.left to j) ≡ all_count (λ e. one_if (is_left_of o e)) (part j es)
    lefts = all_left r joined.grammar joined.laws es its_legal o j

    -- it left where that was granted
    left_granted : j ≢ o.home → total n (λ to. m.left to j) ≡ all_count (gone_to r j (grants_of o)) (part o.home es)
    left_granted d =
        total-same n (λ to. m.left to j) (λ to. all_count (gone_to r j (go_to o to)) (part o.home es)) (λ to within. omega (
          arith,
          taken_at r log nodes es joined each o managed home births j lt t at to d,
          at_is nodes (λ (y : Tables). sum_by (go_to o to) y.leaving) j t at,
          (none_named r log es joined o managed gone_all j t sj (go_to o to) (λ p. few to p)).leaving,
          goes_out r log es joined.join.carried own_sent o home (go_to o to) (go_few o to) j,
          none_on_road r log es joined o managed gone_all (go_to o to) (few to) j,
        ))
        ∙ all_gone r joined.grammar joined.laws es its_legal o o.home j
      where
        few : (to : ℕ) (p : Parcel) → go_to o to p ≤ Rattle.hpx_world.proofs.Unnamed.message_names o p
        few to p = omega (arith, go_few o to p, grants_few o managed p)

    -- and it landed where that was told
    landed_told : j ≢ o.home → m.landed j ≡ all_count (come r (tells_at o j)) (part o.home es)
    landed_told d = omega (
      arith,
      tells_at_it r log nodes es joined each o managed home births j lt t at d,
      at_is nodes (λ (y : Tables). count_by (λ (a : Arrival). same_object o a.object) y.came) j t at,
      none_came r log es joined o managed gone_all j t sj,
      at_is nodes (kept_mail (tell_of o)) j t at,
      (none_tell r log es joined o managed gone_all j t sj).desk,
      (none_tell r log es joined o managed gone_all j t sj).outgoing,
      road.tells j lt,
      none_tell_on_road r log es joined o managed gone_all j o.home,
    )

    stands_way : m.stands j ≤ way j
    stands_way = elim (cases_eq j o.home) [
      | inl e ↦ subst (λ i. m.stands i ≤ way i) (sym e) (own_way e)
      | inr d ↦ other_way d
    ]
      where
        own_way : j ≡ o.home → m.stands o.home ≤ way o.home
        own_way e =
            let same : (c : ℕ) → cond (o.home == o.home) c 0 ≡ c = λ c. ap (λ (b : Bool). cond b c 0) (eq-eqb o.home o.home refl) in
            let granted : all_count (gone_to r o.home (grants_of o)) (part o.home es) ≡ 0 = goes_home r log es joined.join.carried own_sent o home (grants_of o) in
            omega (
              arith,
              ends o.home,
              same (all_count (dies o) (part o.home es)),
              same (all_count (λ e. one_if (is_landed_of o e)) (part o.home es)),
              same (sum_by (frees_one o) x.desk),
              same (all_count (λ e. one_if (is_left_of o e)) (part o.home es) + all_count (λ e. one_if (is_freed o e)) (part o.home es)),
              same 1,
              died,
              granted,
              none_home,
              subst (λ i. m.stands i + m.freed i + total n (λ to. m.left to i) ≡ at_home o.home i + m.landed i) e place,
              subst (λ i. total n (λ to. m.left to i) ≡ all_count (λ e. one_if (is_left_of o e)) (part i es)) e lefts,
            )

        other_way : j ≢ o.home → m.stands j ≤ way j
        other_way d =
            let none : (c : ℕ) → cond (j == o.home) c 0 ≡ 0 = λ c. ap (λ (b : Bool). cond b c 0) (ne_eqb j o.home d) in
            let far : (c : ℕ) → cond (o.home == j) c 0 ≡ 0 = λ c. ap (λ (b : Bool). cond b c 0) (ne_eqb o.home j (λ e. d (sym e))) in
            omega (
              arith,
              ends j,
              none (all_count (dies o) (part o.home es)),
              none (all_count (λ e. one_if (is_landed_of o e)) (part o.home es)),
              none (all_count (λ e. one_if (is_left_of o e)) (part o.home es) + all_count (λ e. one_if (is_freed o e)) (part o.home es)),
              none 1,
              far (sum_by (frees_one o) x.desk),
              place,
              left_granted d,
              landed_told d,
              frees_road j,
              freed_came j lt,
            )

    -- what is paid for at j
    paid_at : all_count (gone r frees) (part j es) + m.freed j + (sum_by frees t.desk + sum_by (λ (y : Outgoing). frees y.parcel) t.outgoing)
        ≤ all_count (come r frees) (part j es) + count_events (is_death o) (part j es)
    paid_at = omega (
      arith,
      sj.paid.rows (FreesOf o) tt,
      all_same (λ e. gone r frees e + one_if (is_freed o e)) (goes r (FreesOf o)) (part j es) (frees_go r o),
      two_counts (gone r frees) (λ e. one_if (is_freed o e)) (part j es),
      all_same (causes r (FreesOf o)) (λ e. come r frees e + cond (is_death o e) 1 0) (part j es) (frees_come r o),
      two_counts (come r frees) (λ e. cond (is_death o e) 1 0) (part j es),
    )

  -- ---- all of them

  stands_less : (j : ℕ) → j < n → m.stands j ≤ way j
  stands_less j lt = let y = each.node j lt in stands_way j lt y.0 y.1

  -- it left and landed as often
  left_landed : (to : ℕ) → to < n → total n (λ j. m.left to j) ≡ m.landed to
  left_landed to within =
      let y = each.node to within in
      omega (
        arith,
        total-same n (λ j. m.left to j) (λ j. m.ship_out to j) (λ j lt.
            let z = each.node j lt in
            let none = none_named r log es joined o managed gone_all j z.0 (each.shown j z.0 z.1) (ship_to o to) (ships_few o managed to) in
            omega (arith, shipped_at r log nodes es joined each o managed home births j lt z.0 z.1 to within, at_is nodes (kept_mail (ship_to o to)) j z.0 z.1, none.desk, none.outgoing)),
        road.ships to within,
        none_on_road r log es joined o managed gone_all (ship_to o to) (ships_few o managed to) to,
        arrived_here r log es to y.0 (each.shown to y.0 y.1) o (clean r log nodes es joined each o managed home births to within y.0 y.1),
      )

  -- so it stands, or was freed, once
  stands_once : total n (λ j. m.stands j) + total n (λ j. m.freed j) ≡ 1
  stands_once = omega (
    arith,
    total-same n (λ j. m.stands j + m.freed j + total n (λ to. m.left to j)) (λ j. cond (o.home == j) 1 0 + m.landed j) (λ j lt. let y = each.node j lt in omega (arith, place j lt y.0 y.1, turned j)),
    total-add n (λ j. m.stands j + m.freed j) (λ j. total n (λ to. m.left to j)),
    total-add n (λ j. m.stands j) (λ j. m.freed j),
    total-add n (λ j. cond (o.home == j) 1 0) (λ j. m.landed j),
    total_one n o.home 1 home,
    total_swap n n (λ j to. m.left to j),
    total-same n (λ to. total n (λ j. m.left to j)) (λ to. m.landed to) left_landed,
  )
    where
      turned : (j : ℕ) → at_home o.home j ≡ cond (o.home == j) 1 0
      turned j = ap (λ (b : Bool). cond b 1 0) (Rattle.hpx_steps.proofs.ByRows.eq_turned j o.home)

  -- what frees it, all over
  abbrev kept_frees : ℕ → ℕ
  kept_frees j = at_node nodes (λ (y : Tables). sum_by (frees_one o) y.desk + sum_by (λ (z : Outgoing). frees_one o z.parcel) y.outgoing) j

  deaths : total n (λ j. count_events (is_death o) (part j es)) ≤ 1
  deaths = omega (arith, sum_parts (λ e. cond (is_death o e) 1 0) n es (below_all r [] es joined.join.carried), dies_once r o es its_legal)

  all_paid : total n (λ j. all_count (gone r frees) (part j es)) + total n (λ j. m.freed j) + total n kept_frees ≤ total n (λ j. all_count (come r frees) (part j es)) + 1
  all_paid = omega (
    arith,
    deaths,
    total-le n (λ j. all_count (gone r frees) (part j es) + m.freed j + kept_frees j) (λ j. all_count (come r frees) (part j es) + count_events (is_death o) (part j es)) (λ j lt.
        let y = each.node j lt in omega (arith, paid_at j lt y.0 y.1, at_is nodes (λ (z : Tables). sum_by frees z.desk + sum_by (λ (q : Outgoing). frees q.parcel) z.outgoing) j y.0 y.1)),
    total-add n (λ j. all_count (gone r frees) (part j es) + m.freed j) kept_frees,
    total-add n (λ j. all_count (gone r frees) (part j es)) (λ j. m.freed j),
    total-add n (λ j. all_count (come r frees) (part j es)) (λ j. count_events (is_death o) (part j es)),
  )

  all_road : total n (λ j. sum_by (bound r j frees) (road_run [] es)) + total n (λ j. all_count (come r frees) (part j es)) ≡ total n (λ i. all_count (gone r frees) (part i es))
  all_road = omega (
    arith,
    total-add n (λ j. sum_by (bound r j frees) (road_run [] es)) (λ j. all_count (come r frees) (part j es)),
    total-same n (λ j. sum_by (bound r j frees) (road_run [] es) + all_count (come r frees) (part j es)) (λ j. total n (λ i. all_count (gone_to r j frees) (part i es))) (λ j lt. road_count r frees j es joined.join.carried),
    total_swap n n (λ j i. all_count (gone_to r j frees) (part i es)),
    total-same n (λ i. total n (λ j. all_count (gone_to r j frees) (part i es))) (λ i. all_count (gone r frees) (part i es)) (λ i lt. own_somewhere r n i log frees (part i es) (own_sent i lt)),
  )

  all_ways : total n way ≤ total n kept_frees + total n (λ j. sum_by (bound r j frees) (road_run [] es))
  all_ways = omega (
    arith,
    total-add n (λ j. cond (o.home == j) (sum_by frees x.desk) 0 + sum_by (bound_for j frees) x.outgoing) (λ j. sum_by (bound r j frees) (road_run [] es)),
    total-add n (λ j. cond (o.home == j) (sum_by frees x.desk) 0) (λ j. sum_by (bound_for j frees) x.outgoing),
    total_one n o.home (sum_by frees x.desk) home,
    kept_all,
    at_is nodes (λ (z : Tables). sum_by frees z.desk + sum_by (λ (q : Outgoing). frees q.parcel) z.outgoing) o.home x at_x,
    total-term n kept_frees o.home home,
  )
    where
      kept_all : total n (λ j. sum_by (bound_for j frees) x.outgoing) ≡ sum_by (λ (y : Outgoing). frees y.parcel) x.outgoing
      kept_all = total_sum n (λ j (y : Outgoing). bound_for j frees y) x.outgoing
          ∙ sum_same (λ (y : Outgoing). total n (λ j. bound_for j frees y)) (λ (y : Outgoing). frees y.parcel) x.outgoing
          (Rattle.hpx_journal.proofs.Alls.all-map (IsOnItsWay n o.home) (λ (y : Outgoing). total n (λ j. bound_for j frees y) ≡ frees y.parcel) (λ y h. total_one n y.to (frees y.parcel) h.somewhere)
          x.outgoing (on_way r log es o.home x sx o))

  -- where something comes that frees it, it stands
  pub stands_there : (j : ℕ) → j < r.localities → 1 ≤ way j → 1 ≤ m.stands j
  stands_there j lt some = omega (
    arith,
    some,
    each_same n (λ i. m.stands i) way stands_less (omega (arith, stands_once, all_paid, all_road, all_ways)) j lt,
  )

  -- and breaks no rule
  module _ (k : ℕ) (lt : k < r.localities) (t : Tables) (at : slice_get nodes k ≡ Some t) (some : 1 ≤ way k) where
    pub up : stands_here t o ≡ true
    up = found_by o t.objects (omega (arith, stands_there k lt some, at_is nodes (λ (y : Tables). count_by (is_standing o) y.objects) k t at))

    pub unwaited : waits_here t o ≡ false
    unwaited = none_waits r log es joined o managed gone_all k t (each.shown k t at)

    pub unheld : held_here t o ≡ 0
    unheld = none_held r log es joined o managed gone_all k t (each.shown k t at)
