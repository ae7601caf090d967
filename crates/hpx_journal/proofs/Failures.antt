-- An action fails only where a refused Count stands.
use Rattle.std.proofs.Common.{ℕ, Bool, true, List, [], ◌∷◌, ◌≡◌, ◌+◌, ◌<◌, ◌≤◌, refl, ap, arith}
use Rattle.std.specs.List.{sum_by, count_by}
use Rattle.std.proofs.lemmas.List.Sums.{sum_by-cons, sum_by-append}
use Rattle.hpx_journal.specs.Bags.{total}
use Rattle.hpx_journal.specs.Entries.{Event, Given, Done, Out, In, Entry, Frame, Rules}
use Rattle.hpx_journal.specs.Local.{Local, after, is_given_none, given_by}
use Rattle.hpx_journal.specs.Rows.{Row}
use Rattle.hpx_journal.specs.Whole.{IsLegal, IsCarried, part, arrives_at, sends, road_after}
use Rattle.hpx_journal.specs.Laws.{IsLegalLocal, is_refusing, sends_such, takes_such, hands_refusal, is_refused_count, is_failed, count_events, RefusesForCause}
use Rattle.hpx_journal.proofs.Bags.{total-zero, total-change, total-le, total-add}
use Rattle.hpx_journal.proofs.Keys.{one_if}
use Rattle.hpx_journal.proofs.Wholes.{road_moves}
use Rattle.hpx_journal.proofs.Joined.{part_same, part_other}
use Rattle.hpx_journal.proofs.Grow.{legal_part, legal_carried}
use Rattle.hpx_journal.proofs.Start.{first}

abbrev event_counts : (Event → Bool) → Entry → ℕ
event_counts p e = one_if (p e.event)

-- ---- at one locality

given_counts : (e : Event) → count_by is_given_none (given_by e) ≡ one_if (hands_refusal e)
given_counts (Given o log) = omega arith
given_counts _ = refl

givens_after : (r : Rules) (s : Local) (e : Event)
    → count_by is_given_none (after r s e).given ≡ count_by is_given_none s.given + one_if (hands_refusal e)
unfolding after
givens_after r s e = omega (arith, sum_by-append (λ x. one_if (is_given_none x)) (given_by e) s.given, given_counts e)

failures_step : (r : Rules) (s : Local) (e : Event) → (after r s e).failures ≡ s.failures + one_if (is_failed e)
unfolding after
failures_step r s (Done a true) = refl
failures_step r s _ = omega arith

few_after : (r : Rules) (s : Local) (e : Event) → Row r s e → s.failures ≤ count_by is_given_none s.given
    → s.failures + one_if (is_failed e) ≤ count_by is_given_none s.given + one_if (hands_refusal e)
few_after r s (Done a true) row h = omega (arith, row.3)
few_after r s _ row h = omega arith

failures_run : (r : Rules) (s : Local) (es : List Entry) → IsLegalLocal r s es → s.failures ≤ count_by is_given_none s.given
    → s.failures + count_events is_failed es ≤ count_by is_given_none s.given + count_events hands_refusal es
failures_run r s [] legal h = omega arith
failures_run r s (e ∷ es) legal h =
    let few = few_after r s e.event legal.0.row h in
    let f = failures_step r s e.event in
    let g = givens_after r s e.event in
    omega (
      arith,
      failures_run r (after r s e.event) es legal.1 (omega arith),
      sum_by-cons (event_counts is_failed) e es,
      sum_by-cons (event_counts hands_refusal) e es,
    )

-- ---- parts

-- all localities are below n
abbrev pub AreBelow : ℕ → List Entry → Type 0
AreBelow n [] = Unit {0}
AreBelow n (e ∷ es) = (e.at < n) × AreBelow n es

pub below_all : (r : Rules) (road : List Frame) (es : List Entry) → IsCarried r road es → AreBelow r.localities es
below_all r road [] h = tt
below_all r road (e ∷ es) h = (h.0, below_all r (road_after road e) es h.2)

no_parts : (p : Event → Bool) (n : ℕ) → total n (λ k. count_events p (part k [])) ≡ 0
no_parts p n = total-zero n (λ k. count_events p (part k [])) (λ k h. refl)

-- what stands in the whole stands in its parts
pub count_parts : (p : Event → Bool) (n : ℕ) (es : List Entry) → AreBelow n es
    → total n (λ k. count_events p (part k es)) ≡ count_events p es
count_parts p n [] h = no_parts p n
count_parts p n (e ∷ es) h =
    let own : count_events p (part e.at (e ∷ es)) ≡ count_events p (e ∷ part e.at es) = ap (count_events p) (part_same e es) in
    omega (
      arith,
      own,
      count_parts p n es h.1,
      sum_by-cons (event_counts p) e es,
      sum_by-cons (event_counts p) e (part e.at es),
      total-change n (λ k. count_events p (part k es)) (λ k. count_events p (part k (e ∷ es))) e.at h.0
          (λ j d. ap (count_events p) (part_other j e es d)),
    )

-- ---- the road

abbrev frame_refusals : Rules → Frame → ℕ
frame_refusals r f = one_if (is_refusing (r.parcel_of f.1))

sends_counts : (r : Rules) (e : Event) → sum_by (frame_refusals r) (sends e) ≡ one_if (sends_such is_refusing r e)
sends_counts r (Out to bytes) = omega arith
sends_counts r _ = refl

takes_counts : (r : Rules) (k : ℕ) (e : Event) → sum_by (frame_refusals r) (arrives_at k e) ≡ one_if (takes_such is_refusing r e)
takes_counts r k (In bytes) = omega arith
takes_counts r k _ = refl

-- what was taken in was sent
refusals_carried : (r : Rules) (road : List Frame) (es : List Entry) → IsCarried r road es
    → count_events (takes_such is_refusing r) es ≤ sum_by (frame_refusals r) road + count_events (sends_such is_refusing r) es
refusals_carried r road [] h = omega arith
refusals_carried r road (e ∷ es) h =
    omega (
      arith,
      refusals_carried r (road_after road e) es h.2,
      road_moves (frame_refusals r) road e h.1,
      sends_counts r e.event,
      takes_counts r e.at e.event,
      sum_by-cons (event_counts (takes_such is_refusing r)) e es,
      sum_by-cons (event_counts (sends_such is_refusing r)) e es,
    )

module _ (r : Rules) (es : List Entry) (legal : IsLegal r es) where
  pub legal_failures : (k : ℕ) → count_events is_failed (part k es) ≤ count_events hands_refusal (part k es)
  legal_failures k =
      omega (arith, failures_run r ((first r).places k) (part k es) (legal_part r (first r) es legal k) (omega arith))

  pub legal_refusals : ((k : ℕ) → k < r.localities → RefusesForCause r (part k es))
      → count_events is_failed es ≤ count_events is_refused_count es
  legal_refusals cause =
      let n = r.localities in
      let carried = legal_carried r (first r) es legal in
      let below = below_all r [] es carried in
      let sent : ℕ → ℕ = λ k. count_events (sends_such is_refusing r) (part k es) in
      let handed : ℕ → ℕ = λ k. count_events hands_refusal (part k es) in
      let taken : ℕ → ℕ = λ k. count_events (takes_such is_refusing r) (part k es) in
      let refused : ℕ → ℕ = λ k. count_events is_refused_count (part k es) in
      omega (
        arith,
        refusals_carried r [] es carried,
        total-le n (λ k. sent k + handed k) (λ k. taken k + refused k) (λ k h. (cause k h).few),
        total-le n (λ k. count_events is_failed (part k es)) handed (λ k h. legal_failures k),
        total-add n sent handed,
        total-add n taken refused,
        count_parts is_failed n es below,
        count_parts hands_refusal n es below,
        count_parts (sends_such is_refusing r) n es below,
        count_parts (takes_such is_refusing r) n es below,
        count_parts is_refused_count n es below,
      )
