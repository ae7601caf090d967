-- The whole journal: what each entry keeps at one locality is kept in the sum over all of them and the road.
use Rattle.std.proofs.Common.{ℕ, List, [], ◌∷◌, ◌≡◌, ◌≢◌, ◌+◌, ◌<◌, ◌≤◌, refl, sym, ap, ◌∙◌, subst, arith, inl, inr}
use Rattle.std.specs.List.{sum_by, count_by}
use Rattle.std.proofs.lemmas.List.Sums.{sum_by-cons, sum_by-append}
use Rattle.std.proofs.lemmas.Bool.{eq-eqb, ne_eqb, cases_eq}
use Rattle.hpx_value.specs.Ids.{Id, same_object}
use Rattle.hpx_journal.specs.Bags.{minus, Covers, total}
use Rattle.hpx_journal.specs.Entries.{Name, Entry, Frame, Rules, same_frame}
use Rattle.hpx_journal.specs.Tokens.{worth}
use Rattle.hpx_journal.specs.Local.{Local, after, takes, gives, recorded}
use Rattle.hpx_journal.specs.Foreign.{present, kept}
use Rattle.hpx_journal.specs.Whole.{Space, sends, arrives, road_after, at_place, step, run, MayStand, IsLegalFrom, credit_sum, recorded_in}
use Rattle.hpx_journal.specs.Laws.{freeds}
use Rattle.hpx_journal.proofs.Bags.{sum_by-minus, total-change}
use Rattle.hpx_journal.proofs.Same.{same_frame-true, worth-Counts}
use Rattle.hpx_journal.proofs.Moves.{tokens_move}
use Rattle.hpx_journal.proofs.Present.{present_moves, frame_acts, drawn}
use Rattle.hpx_journal.proofs.Objects.{born, frame_objects, freed_count, objects_move, strays, sends_no_strays}
use Rattle.hpx_journal.proofs.Asks.{frame_asks, asks_go, asks_come}
use Rattle.hpx_journal.proofs.Ledger.{ledger_moves, frame_worth, IsSane, sane_after, recorded_elsewhere}

-- ---- one step

pub at_same : (places : ℕ → Local) (k : ℕ) (s : Local) → at_place places k s k ≡ s
at_same places k s = rw (eq-eqb k k refl) refl

pub at_other : (places : ℕ → Local) (k : ℕ) (s : Local) (j : ℕ) → k ≢ j → at_place places k s j ≡ places j
at_other places k s j h = rw (ne_eqb k j h) refl

pub total_moves : (n : ℕ) (m : Local → ℕ) (places : ℕ → Local) (k : ℕ) (s : Local) → k < n
    → total n (λ j. m (at_place places k s j)) + m (places k) ≡ total n (λ j. m (places j)) + m s
total_moves n m places k s h =
    omega (
      arith,
      total-change n (λ j. m (places j)) (λ j. m (at_place places k s j)) k h (λ j d. ap m (at_other places k s j d)),
      ap m (at_same places k s),
    )

pub road_moves : (f : Frame → ℕ) (road : List Frame) (e : Entry) → Covers same_frame road (arrives e)
    → sum_by f (road_after road e) + sum_by f (arrives e) ≡ sum_by f road + sum_by f (sends e.event)
road_moves f road e h =
    rw (sum_by-append f (sends e.event) (minus same_frame road (arrives e)))
    (omega (arith, sum_by-minus f f same_frame (λ k x t. ap f (sym (same_frame-true k x t))) road (arrives e) h))

pub record IsWhole (r : Rules) (w : Space) : Type 0 where
  pub here : (k : ℕ) → (w.places k).here ≡ k
  pub sane : (k : ℕ) → IsSane (w.places k)
  pub ledger : (o : Id) → credit_sum r o w ≡ recorded_in o w
  pub single : (a : Name) → total r.localities (λ k. present a (w.places k)) + sum_by (frame_acts r a) w.road
      ≡ total r.localities (λ k. drawn a (w.places k))
  pub objects : (o : Id) → 16 ≤ o.kind → total r.localities (λ k. kept o (w.places k)) + sum_by (frame_objects r o) w.road
      ≤ total r.localities (λ k. born o (w.places k))
  pub straight : sum_by (strays r) w.road ≡ 0
  pub asks : (o : Id) → total r.localities (λ k. count_by (same_object o) (w.places k).asks_gone)
      ≡ total r.localities (λ k. count_by (same_object o) (w.places k).asks_come) + sum_by (frame_asks r o) w.road

module _ (r : Rules) (w : Space) (e : Entry) (whole : IsWhole r w) (ok : MayStand r w e) where
  new : Local
  new = after r (w.places e.at) e.event

  recorded_step : (o : Id)
      → sum_by (worth o) (takes r e.event) + sum_by (frame_worth r o) (arrives e) + recorded o (at_place w.places e.at new o.home)
      ≡ sum_by (worth o) (gives r e.event) + sum_by (frame_worth r o) (sends e.event) + recorded_in o w
  unfolding new
  recorded_step o =
      let s : Local = w.places e.at in
      let moves = ledger_moves r s e.event (whole.sane e.at) ok.allowed.row e.at o in
      elim (cases_eq e.at o.home) [
        | inl same ↦
            let x : at_place w.places e.at new o.home ≡ new =
            subst (λ j. at_place w.places e.at new j ≡ new) same (at_same w.places e.at new) in
            let a : recorded o (at_place w.places e.at new o.home) ≡ recorded o new = ap (recorded o) x in
            let b : recorded_in o w ≡ recorded o s = ap (λ k. recorded o (w.places k)) (sym same) in
            omega arith
        | inr other ↦
            let a : recorded o (at_place w.places e.at new o.home) ≡ recorded_in o w =
            ap (recorded o) (at_other w.places e.at new o.home other) in
            let b : recorded o new ≡ recorded o s =
            recorded_elsewhere r s e.event ok.allowed.row o (λ h. other (sym (whole.here e.at) ∙ sym h)) in
            omega arith
      ]

  pub ledger_step : (o : Id) → credit_sum r o (step r w e) ≡ recorded_in o (step r w e)
  unfolding step new
  ledger_step o =
      omega (
        arith,
        recorded_step o,
        whole.ledger o,
        total_moves r.localities (λ s. sum_by (worth o) s.tokens) w.places e.at new ok.place,
        tokens_move r (w.places e.at) e ok.allowed (worth o) (worth-Counts o),
        road_moves (frame_worth r o) w.road e ok.road,
      )

  pub single_step : (a : Name)
      → total r.localities (λ k. present a ((step r w e).places k)) + sum_by (frame_acts r a) (step r w e).road
      ≡ total r.localities (λ k. drawn a ((step r w e).places k))
  unfolding step new
  single_step a =
      omega (
        arith,
        whole.single a,
        present_moves r (w.places e.at) e.event ok.allowed.row e.at a,
        total_moves r.localities (present a) w.places e.at new ok.place,
        total_moves r.localities (drawn a) w.places e.at new ok.place,
        road_moves (frame_acts r a) w.road e ok.road,
      )

  pub objects_change : (o : Id) → 16 ≤ o.kind
      → total r.localities (λ k. kept o ((step r w e).places k)) + sum_by (frame_objects r o) (step r w e).road + freed_count o e.event
      + total r.localities (λ k. born o (w.places k))
      ≤ total r.localities (λ k. kept o (w.places k)) + sum_by (frame_objects r o) w.road
      + total r.localities (λ k. born o ((step r w e).places k))
  unfolding step new
  objects_change o managed =
      omega (
        arith,
        objects_move r (w.places e.at) e.event ok.allowed.row e.at o managed,
        total_moves r.localities (kept o) w.places e.at new ok.place,
        total_moves r.localities (born o) w.places e.at new ok.place,
        road_moves (frame_objects r o) w.road e ok.road,
      )

  objects_step : (o : Id) → 16 ≤ o.kind
      → total r.localities (λ k. kept o ((step r w e).places k)) + sum_by (frame_objects r o) (step r w e).road
      ≤ total r.localities (λ k. born o ((step r w e).places k))
  objects_step o managed = omega (arith, whole.objects o managed, objects_change o managed)

  straight_step : sum_by (strays r) (step r w e).road ≡ 0
  unfolding step
  straight_step =
      omega (arith, whole.straight, sends_no_strays r (w.places e.at) e.event ok.allowed.row, road_moves (strays r) w.road e ok.road)

  asks_step : (o : Id) → total r.localities (λ k. count_by (same_object o) ((step r w e).places k).asks_gone)
      ≡ total r.localities (λ k. count_by (same_object o) ((step r w e).places k).asks_come) + sum_by (frame_asks r o) (step r w e).road
  unfolding step new
  asks_step o =
      omega (
        arith,
        whole.asks o,
        asks_go r (w.places e.at) e.event o,
        asks_come r (w.places e.at) e.event e.at o,
        total_moves r.localities (λ s. count_by (same_object o) s.asks_gone) w.places e.at new ok.place,
        total_moves r.localities (λ s. count_by (same_object o) s.asks_come) w.places e.at new ok.place,
        road_moves (frame_asks r o) w.road e ok.road,
      )

  after_here : (k : ℕ) → ((step r w e).places k).here ≡ k
  unfolding step after
  after_here k = elim (cases_eq e.at k) [
    | inl same ↦ rw same (rw (at_same w.places k (after r (w.places k) e.event)) (whole.here k))
    | inr other ↦ rw (at_other w.places e.at (after r (w.places e.at) e.event) k other) (whole.here k)
  ]

  after_sane : (k : ℕ) → IsSane ((step r w e).places k)
  unfolding step
  after_sane k = elim (cases_eq e.at k) [
    | inl same ↦
        let h : IsSane (after r (w.places e.at) e.event) = sane_after r (w.places e.at) e.event (whole.sane e.at) ok.allowed.row in
        subst (λ j. IsSane (at_place w.places e.at (after r (w.places e.at) e.event) j)) same
        (subst IsSane (sym (at_same w.places e.at (after r (w.places e.at) e.event))) h)
    | inr other ↦ subst IsSane (sym (at_other w.places e.at (after r (w.places e.at) e.event) k other)) (whole.sane k)
  ]

  pub whole_step : IsWhole r (step r w e)
  whole_step = record { here = after_here; sane = after_sane; ledger = ledger_step; single = single_step; objects = objects_step; straight = straight_step; asks = asks_step }

pub whole_run : (r : Rules) (w : Space) (es : List Entry) → IsWhole r w → IsLegalFrom r w es → IsWhole r (run r w es)
whole_run r w [] whole h = whole
whole_run r w (e ∷ es) whole h = whole_run r (step r w e) es (whole_step r w e whole h.0) h.1

-- each Freed takes an object away
pub objects_run : (r : Rules) (w : Space) (es : List Entry) → IsWhole r w → IsLegalFrom r w es → (o : Id) → 16 ≤ o.kind
    → total r.localities (λ k. kept o ((run r w es).places k)) + sum_by (frame_objects r o) (run r w es).road + freeds o es
    + total r.localities (λ k. born o (w.places k))
    ≤ total r.localities (λ k. kept o (w.places k)) + sum_by (frame_objects r o) w.road
    + total r.localities (λ k. born o ((run r w es).places k))
objects_run r w [] whole h o managed = omega arith
objects_run r w (e ∷ es) whole h o managed =
    omega (
      arith,
      objects_change r w e whole h.0 o managed,
      objects_run r (step r w e) es (whole_step r w e whole h.0) h.1 o managed,
      sum_by-cons (λ x. freed_count o x.event) e es,
    )
