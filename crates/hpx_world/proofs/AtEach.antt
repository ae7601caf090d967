-- What each locality counts of the moves of an object that was born.
use Rattle.std.proofs.Common.{ℕ, cond, List, ◌≡◌, ◌≢◌, ◌+◌, ◌-◌, ◌<◌, ◌≤◌, ◌==◌, Some, length, refl, sym, ap, ◌∙◌, subst, arith, inl, inr}
use Rattle.std.specs.List.{slice_get, sum_by, count_by, AllByRecursion}
use Rattle.std.proofs.lemmas.Bool.{cases_eq, eq-eqb, ne_eqb}
use Rattle.hpx_value.specs.Ids.{same_object}
use Rattle.hpx_journal.specs.Bags.{total}
use Rattle.hpx_journal.specs.Data.{Id, Parcel}
use Rattle.hpx_journal.specs.Entries.{Rules}
use Rattle.hpx_journal.specs.Laws.{is_freed, count_events}
use Rattle.hpx_journal.specs.Local.{is_standing}
use Rattle.hpx_journal.specs.Moving.{IsCounted, IsOnTheRoad, IsTracked, MoveCounts, at_home, is_born_of, is_landed_of, is_left_of}
use Rattle.hpx_journal.specs.Whole.{IsLegal, IsClean, part, replayed, recorded_in}
use Rattle.hpx_journal.proofs.Bags.{total-same, total-add}
use Rattle.hpx_journal.proofs.Grow.{legal_part, legal_clean, run_part}
use Rattle.hpx_journal.proofs.Moving.{tracked}
use Rattle.hpx_journal.proofs.Places.{standing_run}
use Rattle.hpx_journal.proofs.Start.{first, start_whole, joined_legal, roots_unmanaged}
use Rattle.hpx_part.specs.Data.{Entry, Standing}
use Rattle.hpx_part.specs.Parts.{at_boot}
use Rattle.hpx_agas.specs.declared.record.Record.{Record}
use Rattle.hpx_steps.specs.Flows.{MovesTo, PlacedAt, go_for, record_moves, record_rests, dies}
use Rattle.hpx_steps.specs.Rest.{bound_for}
use Rattle.hpx_steps.specs.Rows.{go_to, ship_to, tell_of, tells_at, one_if}
use Rattle.hpx_steps.specs.Sound.{SendsOwn, all_count, come, gone, gone_to, grants_of}
use Rattle.hpx_steps.specs.Turn.{bare_standing}
use Rattle.hpx_steps.proofs.Sums.{map_sum}
use Rattle.hpx_tables.specs.Kept.{record_here}
use Rattle.hpx_tables.specs.Tables.{Tables}
use Rattle.hpx_tables.specs.declared.kept.Arrival.{Arrival}
use Rattle.hpx_tables.specs.declared.kept.Outgoing.{Outgoing}
use Rattle.hpx_world.specs.Tracks.{at_node, kept_for, kept_mail, leaves_for, moves_of}
use Rattle.hpx_world.proofs.AtItsHome.{begun_flow, placed_flow, kept_for_home, kept_for_all, told_on_desk}
use Rattle.hpx_world.proofs.Begun.{born_is, none_dies, near, live_record}
use Rattle.hpx_world.proofs.Known.{IsJoined, IsShown}
use Rattle.hpx_world.proofs.Mails.{for_few, go_few, ship_bound}
use Rattle.hpx_world.proofs.Nearby.{all_gone, all_left, tables_near, sum_goes, sum_goes_to}
use Rattle.hpx_world.proofs.OnRoad.{on_the_road, none_comes, none_tells, goes_home}
use Rattle.hpx_world.proofs.Rowed.{taken_here, shipped_away, kept_self, arrived_here, told_away, told_own, none_left}
use Rattle.hpx_world.proofs.Traffic.{own_goes, own_none, own_somewhere, total_one}

-- each node of a world is shown, one for each locality
pub record AreNodes (r : Rules) (log : ℕ) (nodes : List Tables) (es : List Entry) : Type 0 where
  pub count : length nodes ≡ r.localities
  pub node : (k : ℕ) → k < r.localities → (t : Tables) × (slice_get nodes k ≡ Some t)
  pub shown : (k : ℕ) (t : Tables) → slice_get nodes k ≡ Some t → IsShown r log es k t

pub at_is : (nodes : List Tables) (w : Tables → ℕ) (k : ℕ) (t : Tables) → slice_get nodes k ≡ Some t → at_node nodes w k ≡ w t
at_is nodes w k t at = rw at refl

module _ (r : Rules) (log : ℕ) (nodes : List Tables) (es : List Entry) (joined : IsJoined r es) (each : AreNodes r log nodes es)
    (o : Id) (managed : 16 ≤ o.kind) (home : o.home < r.localities) (born : (k : ℕ) → count_events (is_born_of o) (part k es) ≡ at_home o.home k) where
  legal : IsLegal r es
  legal = joined_legal r joined.grammar es joined.join

  pub sent : (k : ℕ) → k < r.localities → AllByRecursion (λ (e : Entry). SendsOwn r r.localities k log e.event) (part k es)
  sent k lt = let x = each.node k lt in (each.shown k x.0 x.1).order.sent

  abbrev pub m : MoveCounts
  m = moves_of r nodes es o

  -- ---- each locality

  module _ (k : ℕ) (lt : k < r.localities) (t : Tables) (at : slice_get nodes k ≡ Some t) where
    pub s : IsShown r log es k t
    s = each.shown k t at

    pub clean : IsClean r (at_boot r k) (part k es)
    clean = legal_clean r joined.grammar (first r) es (start_whole r) legal k lt

    own_left : all_count (leaves_for o k) (part k es) ≡ 0
    own_left = none_left r ((first r).places k) (part k es) (legal_part r (first r) es legal k) o k refl

    pub taken_at : (to : ℕ) → k ≢ o.home → m.go_in to k ≡ m.leaving to k + m.left to k
    taken_at to other = omega (arith, taken_here r log es k t s o to (λ e. other (sym e)), at_is nodes (λ (x : Tables). sum_by (go_to o to) x.leaving) k t at)

    pub shipped_at : (to : ℕ) → to < r.localities → m.left to k ≡ m.ship_kept to k + m.ship_out to k
    shipped_at to within = elim (cases_eq to k) [
      | inl e ↦ subst (λ j. m.left j k ≡ m.ship_kept j k + m.ship_out j k) (sym e) (omega (
        arith,
        own_left,
        kept_self r log es k t s o,
        at_is nodes (kept_mail (ship_to o k)) k t at,
        none_out,
      ))
      | inr d ↦ omega (arith, shipped_away r log es k t s o to within d, at_is nodes (kept_mail (ship_to o to)) k t at)
    ]
      where
        none_out : all_count (gone r (ship_to o k)) (part k es) ≡ 0
        none_out = omega (
          arith,
          own_goes r r.localities k log k (ship_to o k) (ship_to o k) (part k es) (sent k lt)
              (λ to p way. ship_bound o k k to p way.may),
          own_none r r.localities k log k (ship_to o k) (part k es) (sent k lt) (λ to p way. rw (ne_eqb to k way.away) refl),
        )

    pub tells_at_it : k ≢ o.home → m.landed k ≡ m.came k + m.tell_kept k + m.tell_out k
    tells_at_it other = omega (
      arith,
      told_away r log es k t s o home (λ e. other (sym e)),
      at_is nodes (λ (x : Tables). count_by (λ (a : Arrival). same_object o a.object) x.came) k t at,
      at_is nodes (kept_mail (tell_of o)) k t at,
    )

    pub place_at : m.stands k + m.freed k + total r.localities (λ to. m.left to k) ≡ at_home o.home k + m.landed k
    place_at = omega (
      arith,
      at_is nodes (λ (x : Tables). count_by (is_standing o) x.objects) k t at,
      map_sum (λ (x : Standing). one_if (is_standing o x)) bare_standing t.objects,
      s.shows.objects.objects.counts o,
      subst (λ l. count_by (is_standing o) l.objects + count_events (is_freed o) (part k es) + count_events (is_left_of o) (part k es)
          ≡ count_by (is_standing o) ((first r).places k).objects + count_events (is_born_of o) (part k es) + count_events (is_landed_of o) (part k es))
          (sym (run_part r (first r) es k))
          (standing_run r ((first r).places k) (part k es) (legal_part r (first r) es legal k) o),
      roots_unmanaged r.localities k o managed,
      all_left r joined.grammar joined.laws es legal o k,
      born k,
    )
