-- No action lacked a place to go when it came to its locality.
use Rattle.std.proofs.Common.{ℕ, List, [], ◌∷◌, ◌++◌, ◌≡◌, ◌+◌, ◌<◌, ◌≤◌, ◌==◌, cond, refl, sym, ap, ◌∙◌, subst, arith, inl, inr}
use Rattle.std.specs.List.{count_by, AllByRecursion}
use Rattle.std.proofs.lemmas.Bool.{cases_eq, eq-eqb}
use Rattle.hpx_value.specs.Ids.{bare}
use Rattle.hpx_value.specs.Values.{bare_act}
use Rattle.hpx_journal.specs.Data.{Id, Act}
use Rattle.hpx_journal.specs.Entries.{Rules, target_of}
use Rattle.hpx_journal.specs.Laws.{is_freed, count_events}
use Rattle.hpx_journal.specs.Local.{is_standing, recorded}
use Rattle.hpx_journal.specs.Moving.{is_born_of, is_landed_of, is_left_of}
use Rattle.hpx_journal.specs.Natives.{StandsAtHome}
use Rattle.hpx_journal.specs.Whole.{IsClean, IsJoin, part, recorded_in, replayed, run_local}
use Rattle.hpx_journal.proofs.Credited.{credit_alive}
use Rattle.hpx_journal.proofs.Formed.{any_counts}
use Rattle.hpx_journal.proofs.Grow.{join_front, legal_clean, legal_part, part_append, run_part}
use Rattle.hpx_journal.proofs.Joined.{part_other, part_same}
use Rattle.hpx_journal.proofs.Places.{standing_run}
use Rattle.hpx_journal.proofs.Start.{first, legal_whole, start_whole}
use Rattle.hpx_part.specs.Data.{Entry, Local}
use Rattle.hpx_part.specs.Parts.{at_boot}
use Rattle.hpx_steps.specs.Flows.{PlacedAt, dies, flow_comes, flow_goes, go_for}
use Rattle.hpx_steps.specs.Homes.{HasNoPlace, WasStranded}
use Rattle.hpx_steps.specs.Items.{Among}
use Rattle.hpx_steps.specs.Rows.{one_if}
use Rattle.hpx_steps.specs.Sound.{SendsOwn, all_count}
use Rattle.hpx_steps.proofs.Changes.{among_all}
use Rattle.hpx_steps.proofs.Puts.{target-bare}
use Rattle.hpx_tables.proofs.Alls.{all_parts}
use Rattle.hpx_world.proofs.AtItsHome.{placed_comes, placed_goes}
use Rattle.hpx_world.proofs.Begun.{born_here, near, none_dies}
use Rattle.hpx_world.proofs.Known.{IsJoined}
use Rattle.hpx_world.proofs.Mails.{for_few}
use Rattle.hpx_world.proofs.Named.{IsActMet, lawful, met_recorded, target_near, waiting}
use Rattle.hpx_world.proofs.OnRoad.{none_comes, none_tells}
use Rattle.hpx_world.proofs.Whereabouts.{part_none}

-- ---- the front of a journal

-- entries that lead with these at k
record IsFrontOf (k : ℕ) (es before : List Entry) : Type 0 where
  front : List Entry
  later : List Entry
  whole : es ≡ front ++ later
  is : part k front ≡ before

front_of : (k : ℕ) (es before after : List Entry) → part k es ≡ before ++ after → IsFrontOf k es before
front_of k es [] after split = record { front = []; later = es; whole = refl; is = refl }
front_of k [] (x ∷ before) after split = absurd (cc)
front_of k (e ∷ es) (x ∷ before) after split = elim (cases_eq e.at k) [
  | inl same ↦
      let own : part k (e ∷ es) ≡ e ∷ part k es = subst (λ j. part j (e ∷ es) ≡ e ∷ part j es) same (part_same e es) in
      let both : e ∷ part k es ≡ x ∷ (before ++ after) = sym own ∙ split in
      let head : e ≡ x = cc in
      let tail : part k es ≡ before ++ after = cc in
      let y = front_of k es before after tail in
      record {
        front = e ∷ y.front;
        later = y.later;
        whole = ap (λ zs. e ∷ zs) y.whole;
        is = subst (λ j. part j (e ∷ y.front) ≡ e ∷ part j y.front) same (part_same e y.front) ∙ (ap (λ zs. e ∷ zs) y.is ∙ ap (λ z. z ∷ before) head);
      }
  | inr other ↦
      let y = front_of k es (x ∷ before) after (sym (part_other k e es other) ∙ split) in
      record {
        front = e ∷ y.front;
        later = y.later;
        whole = ap (λ zs. e ∷ zs) y.whole;
        is = part_other k e y.front other ∙ y.is;
      }
]

-- ---- an action that was met has a place to go

module _ (r : Rules) (log : ℕ) (es : List Entry) (joined : IsJoined r es)
    (sent : (k : ℕ) → k < r.localities → AllByRecursion (λ (e : Entry). SendsOwn r r.localities k log e.event) (part k es)) where
  -- of what is at home there, as it was born and came, it stands or has gone
  stands_or_left : (o : Id) → 1 ≤ recorded_in o (replayed r es)
      → 1 + all_count (flow_comes r o.home (PlacedAt o o.home)) (part o.home es)
      ≤ count_by (is_standing o) ((replayed r es).places o.home).objects + all_count (flow_goes r o.home (PlacedAt o o.home)) (part o.home es)
  stands_or_left o some =
      let legal = lawful r es joined in
      let home = near r es legal o some in
      let same : (c : ℕ) → cond (o.home == o.home) c 0 ≡ c = λ c. ap (λ b. cond b c 0) (eq-eqb o.home o.home refl) in
      omega (
        arith,
        subst (λ (l : Local). count_by (is_standing o) l.objects + count_events (is_freed o) (part o.home es) + count_events (is_left_of o) (part o.home es)
            ≡ count_by (is_standing o) ((first r).places o.home).objects + count_events (is_born_of o) (part o.home es) + count_events (is_landed_of o) (part o.home es))
            (sym (run_part r (first r) es o.home))
            (standing_run r ((first r).places o.home) (part o.home es) (legal_part r (first r) es legal o.home) o),
        part_none (λ e. one_if (is_freed o e)) o.home es (credit_alive r es legal o (omega (arith, some, (legal_whole r es legal).ledger o))).kept,
        born_here r es legal o some,
        placed_comes r o.home o o.home (part o.home es),
        placed_goes r o.home o o.home (part o.home es),
        same (all_count (λ e. one_if (is_landed_of o e)) (part o.home es)),
        same (all_count (λ e. one_if (is_left_of o e)) (part o.home es)),
        none_comes r log es joined.join.carried sent o home (go_for o o.home o.home) (for_few o o.home o.home),
        none_tells r log es joined.join.carried sent o home,
      )

  module _ (act : Act) (met : IsActMet r (replayed r es) (bare_act act)) where
    home_near : (target_of act).home < r.localities
    home_near = subst (λ (o : Id). o.home < r.localities) (target-bare act) (target_near r.localities (bare_act act) joined.some met.near)

    root_stands : (target_of act).kind < 16 → 1 ≤ count_by (is_standing (target_of act)) ((replayed r es).places (target_of act).home).objects
    root_stands small =
        let up = subst (StandsAtHome r.localities (replayed r es)) (target-bare act) (met.root (subst (λ (o : Id). o.kind < 16) (sym (target-bare act)) small)) in
        any_counts (is_standing (bare (target_of act))) ((replayed r es).places (target_of act).home).objects up.stands

    has_place : (k : ℕ) → HasNoPlace r k ((replayed r es).places k) (part k es) (target_of act) → ⊥
    has_place k (inl far) = omega (arith, far, home_near)
    has_place k (inr h) = elim h.1 [
      | inl root ↦ omega (
        arith,
        root_stands root.0,
        subst (λ j. count_by (is_standing (target_of act)) ((replayed r es).places j).objects ≡ 0) (sym h.0) root.1,
      )
      | inr managed ↦
          let some = met_recorded r es joined act met managed.0 in
          elim managed.1 [
            | inl none ↦ omega (arith, some, subst (λ j. recorded (target_of act) ((replayed r es).places j) ≡ 0) (sym h.0) none)
            | inr more ↦ elim more [
              | inl dead ↦ none_dies r es (lawful r es joined) (target_of act) some (subst (λ j. 1 ≤ all_count (dies (target_of act)) (part j es)) (sym h.0) dead)
              | inr lost ↦ omega (
                arith,
                stands_or_left (target_of act) some,
                subst (λ j. count_by (is_standing (target_of act)) ((replayed r es).places j).objects + all_count (flow_goes r j (PlacedAt (target_of act) j)) (part j es)
                    < 1 + all_count (flow_comes r j (PlacedAt (target_of act) j)) (part j es)) (sym h.0) lost,
              )
            ]
          ]
    ]

-- ---- so none was stranded

module _ (r : Rules) (log : ℕ) (es : List Entry) (joined : IsJoined r es)
    (sent : (k : ℕ) → k < r.localities → AllByRecursion (λ (e : Entry). SendsOwn r r.localities k log e.event) (part k es))
    (k : ℕ) (lt : k < r.localities) (act : Act) (x : WasStranded r k (part k es) act) where
  y : IsFrontOf k es x.before
  y = front_of k es x.before x.after x.split

  joined_front : IsJoined r y.front
  joined_front = record {
    some = joined.some;
    grammar = joined.grammar;
    laws = joined.laws;
    join = join_front r (first r) y.front y.later (subst (IsJoin r) y.whole joined.join);
  }

  sent_front : (j : ℕ) → j < r.localities → AllByRecursion (λ (e : Entry). SendsOwn r r.localities j log e.event) (part j y.front)
  sent_front j within =
      let Own : Entry → Type 0 = λ (e : Entry). SendsOwn r r.localities j log e.event in
      (all_parts Own (part j y.front) (part j y.later) (subst (AllByRecursion Own) (ap (part j) y.whole ∙ part_append j y.front y.later) (sent j within))).0

  clean : IsClean r (at_boot r k) x.before
  clean = subst (IsClean r (at_boot r k)) y.is (legal_clean r joined.grammar (first r) y.front (start_whole r) (lawful r y.front joined_front) k lt)

  place : run_local r (at_boot r k) x.before ≡ (replayed r y.front).places k
  place = sym (run_part r (first r) y.front k ∙ ap (run_local r (at_boot r k)) y.is)

  met : IsActMet r (replayed r y.front) (bare_act act)
  met = among_all (IsActMet r (replayed r y.front)) (bare_act act) ((replayed r y.front).places k).waiting
      (subst (λ (l : Local). Among (bare_act act) l.waiting) place (x.waits clean)) (waiting r y.front joined_front k lt)

  pub never_stranded : ⊥
  never_stranded = has_place r log y.front joined_front sent_front act met k
      (subst (λ b. HasNoPlace r k ((replayed r y.front).places k) b (target_of act)) (sym y.is)
      (subst (λ (l : Local). HasNoPlace r k l x.before (target_of act)) place (x.lost clean)))
