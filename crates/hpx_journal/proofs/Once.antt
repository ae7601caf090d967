-- An action is fired once, and done once, where it was fired.
use Rattle.std.proofs.Common.{ℕ, cond, List, [], ◌∷◌, ◌≡◌, ◌+◌, ◌≤◌, refl, sym, ap, subst, arith, inl, inr}
use Rattle.std.specs.Prelude.{◌&&◌, ◌==◌}
use Rattle.std.specs.List.{sum_by, count_by}
use Rattle.std.proofs.lemmas.List.Sums.{sum_by-cons}
use Rattle.std.proofs.lemmas.Bool.{eq-eqb, ne_eqb, cases_eq}
use Rattle.hpx_journal.specs.Bags.{total}
use Rattle.hpx_journal.specs.Entries.{Name, Event, Fire, Done, Entry, Rules}
use Rattle.hpx_journal.specs.Local.{Local, is_act, after}
use Rattle.hpx_journal.specs.Foreign.{present}
use Rattle.hpx_journal.specs.Whole.{Space, step, run, IsLegalFrom, MayStand, at_place}
use Rattle.hpx_journal.specs.Laws.{fired_here, fires, dones, fires_at, dones_at, is_fire, is_done}
use Rattle.hpx_journal.proofs.Bags.{total-le}
use Rattle.hpx_journal.proofs.Moves.{name_counts}
use Rattle.hpx_journal.proofs.Present.{fired_moves, done_moves, fire_names, done_names}
use Rattle.hpx_journal.proofs.Wholes.{IsWhole, whole_run, total_moves, at_same, at_other}
use Rattle.hpx_journal.proofs.Joined.{one_place}

abbrev pub fired_or_done : Name → Local → ℕ
fired_or_done a s = count_by (is_act a) s.fired + count_by (is_act a) s.done

abbrev pub done_here : Name → Local → ℕ
done_here a s = count_by (is_act a) s.done

fire_counts : (a : Name) (e : Event) → sum_by (name_counts a) (fire_names e) ≡ cond (is_fire a e) 1 0
fire_counts a (Fire b) = omega arith
fire_counts a _ = refl

done_counts : (a : Name) (e : Event) → sum_by (name_counts a) (done_names e) ≡ cond (is_done a e) 1 0
done_counts a (Done b failed) = omega arith
done_counts a _ = refl

fires_step : (r : Rules) (w : Space) (e : Entry) → MayStand r w e → (a : Name)
    → total r.localities (λ k. fired_or_done a ((step r w e).places k))
    ≡ total r.localities (λ k. fired_or_done a (w.places k)) + cond (is_fire a e.event) 1 0
unfolding step
fires_step r w e ok a =
    omega (
      arith,
      total_moves r.localities (fired_or_done a) w.places e.at (after r (w.places e.at) e.event) ok.place,
      fired_moves r (w.places e.at) e.event ok.allowed.row a,
      done_moves r (w.places e.at) e.event ok.allowed.row a,
      fire_counts a e.event,
      done_counts a e.event,
    )

dones_step : (r : Rules) (w : Space) (e : Entry) → MayStand r w e → (a : Name)
    → total r.localities (λ k. done_here a ((step r w e).places k))
    ≡ total r.localities (λ k. done_here a (w.places k)) + cond (is_done a e.event) 1 0
unfolding step
dones_step r w e ok a =
    omega (
      arith,
      total_moves r.localities (done_here a) w.places e.at (after r (w.places e.at) e.event) ok.place,
      done_moves r (w.places e.at) e.event ok.allowed.row a,
      done_counts a e.event,
    )

pub fires_run : (r : Rules) (w : Space) (es : List Entry) → IsLegalFrom r w es → (a : Name)
    → total r.localities (λ k. fired_or_done a ((run r w es).places k))
    ≡ total r.localities (λ k. fired_or_done a (w.places k)) + fires a es
fires_run r w [] h a = omega arith
fires_run r w (e ∷ es) h a =
    rw (sum_by-cons (λ x. cond (is_fire a x.event) 1 0) e es)
    (omega (arith, fires_step r w e h.0 a, fires_run r (step r w e) es h.1 a))

pub dones_run : (r : Rules) (w : Space) (es : List Entry) → IsLegalFrom r w es → (a : Name)
    → total r.localities (λ k. done_here a ((run r w es).places k))
    ≡ total r.localities (λ k. done_here a (w.places k)) + dones a es
dones_run r w [] h a = omega arith
dones_run r w (e ∷ es) h a =
    rw (sum_by-cons (λ x. cond (is_done a x.event) 1 0) e es)
    (omega (arith, dones_step r w e h.0 a, dones_run r (step r w e) es h.1 a))

module _ (r : Rules) (w : Space) (es : List Entry) (whole : IsWhole r w) (legal : IsLegalFrom r w es) (a : Name) where
  pub fires_once : fires a es ≤ 1
  fires_once =
      omega (
        arith,
        fires_run r w es legal a,
        one_place r (run r w es) (whole_run r w es whole legal) a,
        total-le r.localities (λ k. fired_or_done a ((run r w es).places k)) (λ k. present a ((run r w es).places k)) (λ k h. omega arith),
      )

  pub dones_once : dones a es ≤ 1
  dones_once =
      omega (
        arith,
        dones_run r w es legal a,
        one_place r (run r w es) (whole_run r w es whole legal) a,
        total-le r.localities (λ k. done_here a ((run r w es).places k)) (λ k. present a ((run r w es).places k)) (λ k h. omega arith),
      )

-- ---- at one locality

fired_step : (r : Rules) (w : Space) (e : Entry) → MayStand r w e → (k : ℕ) (a : Name)
    → fired_here a ((step r w e).places k) + cond ((e.at == k) && is_done a e.event) 1 0
    ≡ fired_here a (w.places k) + cond ((e.at == k) && is_fire a e.event) 1 0
unfolding step
fired_step r w e ok k a = elim (cases_eq e.at k) [
  | inl same ↦
      let s = w.places e.at in
      let x : fired_here a (at_place w.places e.at (after r s e.event) k) ≡ fired_here a (after r s e.event) =
      subst (λ j. fired_here a (at_place w.places e.at (after r s e.event) j) ≡ fired_here a (after r s e.event)) same
      (ap (fired_here a) (at_same w.places e.at (after r s e.event))) in
      let y : fired_here a (w.places k) ≡ fired_here a s = ap (λ j. fired_here a (w.places j)) (sym same) in
      rw (eq-eqb e.at k same) (omega (
        arith,
        x,
        y,
        fired_moves r s e.event ok.allowed.row a,
        fire_counts a e.event,
        done_counts a e.event,
      ))
  | inr other ↦
      rw (ne_eqb e.at k other) (omega (
        arith,
        ap (fired_here a) (at_other w.places e.at (after r (w.places e.at) e.event) k other),
      ))
]

fired_run : (r : Rules) (w : Space) (es : List Entry) → IsLegalFrom r w es → (k : ℕ) (a : Name)
    → fired_here a ((run r w es).places k) + dones_at k a es ≡ fired_here a (w.places k) + fires_at k a es
fired_run r w [] h k a = omega arith
fired_run r w (e ∷ es) h k a =
    omega (
      arith,
      sum_by-cons (λ x. cond ((x.at == k) && is_fire a x.event) 1 0) e es,
      sum_by-cons (λ x. cond ((x.at == k) && is_done a x.event) 1 0) e es,
      fired_step r w e h.0 k a,
      fired_run r (step r w e) es h.1 k a,
    )

-- where nothing is fired yet, what was fired at k is done at k, or runs there still
pub dones_or_runs : (r : Rules) (w : Space) (es : List Entry) → IsLegalFrom r w es → (k : ℕ) (a : Name)
    → (w.places k).fired ≡ [] → fired_here a ((run r w es).places k) + dones_at k a es ≡ fires_at k a es
dones_or_runs r w es legal k a none =
    let z : fired_here a (w.places k) ≡ 0 = ap (count_by (is_act a)) none in
    omega (arith, fired_run r w es legal k a)

-- where nothing is fired yet, what is done at k was fired at k
pub dones_where : (r : Rules) (w : Space) (es : List Entry) → IsLegalFrom r w es → (k : ℕ) (a : Name)
    → (w.places k).fired ≡ [] → dones_at k a es ≤ fires_at k a es
dones_where r w es legal k a none =
    let z : fired_here a (w.places k) ≡ 0 = ap (count_by (is_act a)) none in
    omega (arith, fired_run r w es legal k a)
