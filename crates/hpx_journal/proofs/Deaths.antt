-- Where each locality frees the dead and no frame is on its way, each dead object was freed.
use Rattle.std.proofs.Common.{ℕ, List, [], ◌∷◌, ◌≡◌, ◌≢◌, ◌+◌, ◌<◌, ◌≤◌, refl, sym, ap, ◌∙◌, subst, arith, inl, inr}
use Rattle.std.specs.List.{sum_by}
use Rattle.std.proofs.lemmas.List.Sums.{sum_by-cons}
use Rattle.std.proofs.lemmas.Bool.{ne_eqb, cases_lt}
use Rattle.hpx_value.specs.Ids.{Id}
use Rattle.hpx_journal.specs.Entries.{Event, Out, In, Entry, Frame, Rules}
use Rattle.hpx_journal.specs.Local.{boot}
use Rattle.hpx_journal.specs.Rows.{IsDead}
use Rattle.hpx_journal.specs.Roots.{roots}
use Rattle.hpx_journal.specs.Whole.{IsLegal, IsCarried, IsDeadIn, part, replayed, run_local, arrives_at, sends, road_after}
use Rattle.hpx_journal.specs.Laws.{is_freed, freeds, is_free_of, sends_such, takes_such, FreesTheDead, count_events, road_run}
use Rattle.hpx_journal.proofs.Bags.{total-le, total-term}
use Rattle.hpx_journal.proofs.Keys.{one_if}
use Rattle.hpx_journal.proofs.Wholes.{road_moves}
use Rattle.hpx_journal.proofs.Grow.{run_part, run_road, legal_carried}
use Rattle.hpx_journal.proofs.Failures.{AreBelow, below_all, count_parts}
use Rattle.hpx_journal.proofs.Start.{first}

abbrev frame_free : Rules → Id → Frame → ℕ
frame_free r o f = one_if (is_free_of o (r.parcel_of f.1))

sends_counts : (r : Rules) (o : Id) (e : Event) → sum_by (frame_free r o) (sends e) ≡ one_if (sends_such (is_free_of o) r e)
sends_counts r o (Out to bytes) = omega arith
sends_counts r o _ = refl

takes_counts : (r : Rules) (o : Id) (k : ℕ) (e : Event) → sum_by (frame_free r o) (arrives_at k e) ≡ one_if (takes_such (is_free_of o) r e)
takes_counts r o k (In bytes) = omega arith
takes_counts r o k _ = refl

-- each Free that was sent is on the road or was taken in
frees_carried : (r : Rules) (o : Id) (road : List Frame) (es : List Entry) → IsCarried r road es
    → sum_by (frame_free r o) (road_run road es) + count_events (takes_such (is_free_of o) r) es
    ≡ sum_by (frame_free r o) road + count_events (sends_such (is_free_of o) r) es
frees_carried r o road [] h = refl
frees_carried r o road (e ∷ es) h =
    omega (
      arith,
      frees_carried r o (road_after road e) es h.2,
      road_moves (frame_free r o) road e h.1,
      sends_counts r o e.event,
      takes_counts r o e.at e.event,
      sum_by-cons (λ x. one_if (takes_such (is_free_of o) r x.event)) e es,
      sum_by-cons (λ x. one_if (sends_such (is_free_of o) r x.event)) e es,
    )

-- beyond the last locality nothing was written
pub part_beyond : (n k : ℕ) (es : List Entry) → AreBelow n es → n ≤ k → part k es ≡ []
part_beyond n k [] h beyond = refl
part_beyond n k (e ∷ es) h beyond =
    let d : e.at ≢ k = λ t. absurd (omega (arith, h.0)) in
    rw (ne_eqb e.at k d) (part_beyond n k es h.1 beyond)

module _ (r : Rules) (es : List Entry) (legal : IsLegal r es) (road : (replayed r es).road ≡ [])
    (frees : (k : ℕ) → k < r.localities → FreesTheDead r k (part k es)) (o : Id) (dead : IsDeadIn o (replayed r es)) where
  carried : IsCarried r [] es
  carried = legal_carried r (first r) es legal

  below : AreBelow r.localities es
  below = below_all r [] es carried

  dead_at : (k : ℕ) → o.home ≡ k → IsDead o (run_local r (boot (roots r.localities k) k) (part k es))
  dead_at k t =
      subst (λ j. IsDead o (run_local r (boot (roots r.localities j) j) (part j es))) t
      (subst (IsDead o) (run_part r (first r) es o.home) dead)

  home_below : o.home < r.localities
  home_below = elim (cases_lt o.home r.localities) [
    | inl h ↦ h
    | inr h ↦
        let none : part o.home es ≡ [] = part_beyond r.localities o.home es below h in
        let d : IsDead o (run_local r (boot (roots r.localities o.home) o.home) []) =
        subst (λ zs. IsDead o (run_local r (boot (roots r.localities o.home) o.home) zs)) none (dead_at o.home refl) in
        absurd (cc)
  ]

  pub legal_all_freed : 1 ≤ freeds o es
  legal_all_freed =
      let n = r.localities in
      let freed : ℕ → ℕ = λ k. freeds o (part k es) in
      let sent : ℕ → ℕ = λ k. count_events (sends_such (is_free_of o) r) (part k es) in
      let none : sum_by (frame_free r o) (road_run [] es) ≡ 0 = ap (sum_by (frame_free r o)) (sym (run_road r (first r) es) ∙ road) in
      omega (
        arith,
        (frees o.home home_below).sent o refl (dead_at o.home refl),
        total-term n freed o.home home_below,
        total-term n sent o.home home_below,
        frees_carried r o [] es carried,
        total-le n (λ k. count_events (takes_such (is_free_of o) r) (part k es)) freed (λ k h. (frees k h).freed o),
        count_parts (is_freed o) n es below,
        count_parts (sends_such (is_free_of o) r) n es below,
        count_parts (takes_such (is_free_of o) r) n es below,
      )
