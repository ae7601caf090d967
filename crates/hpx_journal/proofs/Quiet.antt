-- A legal journal leaves as many frames on the road as were sent and not accepted; where none are, and no locality has
-- anything to do, it is quiet.
use Rattle.std.proofs.Common.{ℕ, List, [], ◌∷◌, ◌≡◌, ◌+◌, ◌<◌, ◌≤◌, true, refl, ap, subst, arith, inl, inr, length, length-append}
use Rattle.std.specs.List.{sum_by}
use Rattle.std.proofs.lemmas.List.Sums.{sum_by-cons}
use Rattle.std.proofs.lemmas.Bool.{cases_Bool, cases_lt}
use Rattle.hpx_value.specs.Ids.{Id}
use Rattle.hpx_journal.specs.Entries.{Event, Out, Freed, Entry, Rules, Frame}
use Rattle.hpx_journal.specs.Local.{Local, is_standing}
use Rattle.hpx_journal.specs.Foreign.{kept}
use Rattle.hpx_journal.specs.Rows.{Row}
use Rattle.hpx_journal.specs.Whole.{Space, IsLegal, IsLegalFrom, IsCarried, IsQuiet, IsQuietAt, IsDeadIn, replayed, step, sends, arrives, road_after}
use Rattle.hpx_journal.specs.Laws.{travelling_in, ins, outs, outs_by, road_run, freeds, is_freed}
use Rattle.hpx_journal.proofs.Wholes.{road_moves}
use Rattle.hpx_journal.proofs.Grow.{run_road, road_sum, legal_carried}
use Rattle.hpx_journal.proofs.Bags.{total-term, find-nothing}
use Rattle.hpx_journal.proofs.Start.{first, legal_freed}
use Rattle.hpx_journal.proofs.Same.{same_object-true}
use Rattle.hpx_journal.proofs.Objects.{freed_count}

sum_by-one : {X : Type 0} (xs : List X) → sum_by (λ x. 1) xs ≡ length xs
sum_by-one [] = refl
sum_by-one (x ∷ xs) = omega (arith, sum_by-cons (λ y. 1) x xs, sum_by-one xs)

none_left : {X : Type 0} (xs : List X) → length xs ≡ 0 → xs ≡ []
none_left [] h = refl
none_left (x ∷ xs) h = absurd (omega arith)

-- what is freed is managed
freed_here : (e : Event) (o : Id) → is_freed o e ≡ true → ((x : Id) → e ≡ Freed x → 16 ≤ x.kind) → 16 ≤ o.kind
freed_here (Freed x) o t h = let k : o.kind ≡ x.kind = ap (λ y. y.kind) (same_object-true o x t) in omega (arith, h x refl)
freed_here _ o t h = absurd (cc)

row_freed : (r : Rules) (s : Local) (e : Event) (x : Id) → e ≡ Freed x → Row r s e → 16 ≤ x.kind
row_freed r s e x t h = let row : Row r s (Freed x) = subst (Row r s) t h in row.0.0

freeds_managed : (r : Rules) (w : Space) (es : List Entry) → IsLegalFrom r w es → (o : Id) → 1 ≤ freeds o es → 16 ≤ o.kind
freeds_managed r w [] legal o h = absurd (omega arith)
freeds_managed r w (e ∷ es) legal o h = elim (cases_Bool (is_freed o e.event)) [
  | inl t ↦ freed_here e.event o t (λ x u. row_freed r (w.places e.at) e.event x u legal.0.allowed.row)
  | inr t ↦
      let none : freed_count o e.event ≡ 0 = rw t refl in
      freeds_managed r (step r w e) es legal.1 o (omega (arith, sum_by-cons (λ x. freed_count o x.event) e es))
]

pub freed_managed : (r : Rules) (es : List Entry) → IsLegal r es → (o : Id) → 1 ≤ freeds o es → 16 ≤ o.kind
freed_managed r es legal o h = freeds_managed r (first r) es legal o h

module _ (r : Rules) (es : List Entry) (legal : IsLegal r es) where
  -- an object is freed once
  pub legal_freed_once : (o : Id) → freeds o es ≤ 1
  legal_freed_once o = elim (cases_lt (freeds o es) 1) [
    | inl i ↦ omega arith
    | inr i ↦ omega (arith, legal_freed r es legal o (freed_managed r es legal o i))
  ]

  -- on the road is what was sent and not accepted, whatever is counted of frames
  pub legal_road_sum : (g : Frame → ℕ) → sum_by g (replayed r es).road + sum_by g (ins es) ≡ sum_by (λ (x : ℕ × Frame). g x.1) (outs es)
  legal_road_sum g = omega (arith, ap (sum_by g) (run_road r (first r) es), road_sum r [] es (legal_carried r (first r) es legal) g)

  pub legal_lengths : length (replayed r es).road + length (ins es) ≡ length (outs es)
  legal_lengths = omega (arith, legal_road_sum (λ f. 1), sum_by-one (replayed r es).road, sum_by-one (ins es), sum_by-one (outs es))

  pub legal_road_empty : length (ins es) ≡ length (outs es) → (replayed r es).road ≡ []
  legal_road_empty same = none_left (replayed r es).road (omega (arith, legal_lengths))

  -- what was freed stands nowhere, nor does it travel
  pub legal_gone : (o : Id) (k : ℕ) → 16 ≤ o.kind → k < r.localities → 1 ≤ freeds o es → kept o ((replayed r es).places k) ≡ 0
  legal_gone o k managed h freed =
      omega (arith, legal_freed r es legal o managed, total-term r.localities (λ j. kept o ((replayed r es).places j)) k h)

  -- nor is it on the road
  pub legal_away : (o : Id) → 16 ≤ o.kind → 1 ≤ freeds o es → travelling_in r o (replayed r es) ≡ 0
  legal_away o managed freed = omega (arith, freed, legal_freed r es legal o managed)

  pub legal_quiet : ((k : ℕ) → k < r.localities → IsQuietAt ((replayed r es).places k)) → length (ins es) ≡ length (outs es)
      → ((o : Id) → IsDeadIn o (replayed r es) → 1 ≤ freeds o es) → IsQuiet r (replayed r es)
  legal_quiet places same freed = record {
    road = legal_road_empty same;
    places = places;
    gone = λ o k h dead. find-nothing (is_standing o) ((replayed r es).places k).objects
        (omega (arith, legal_gone o k (freed_managed r es legal o (freed o dead)) h (freed o dead)));
  }
