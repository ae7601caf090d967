-- From a passive moment on, the entries alone pay.
use Rattle.hpx_node.proofs.Common.{Actions, AreFired, Entry, Event, IsPassive, Landings, Leavings, List, Objects, Outgoing, Parcel, Row, Rules, StandsWith, Tables, [], ap, arith, brings, causes, fires_one, goes, hops, joins, length, map, map-append, of_accepted, of_came, owes, part, refl, sets_out, subst, sum_by, sum_by-append, sum_by-cons, unpaid, weight, ℕ, ◌++◌, ◌+◌, ◌∙◌, ◌∷◌, ◌≡◌, ◌≤◌}
use Rattle.hpx_agas.specs.declared.record.Waiting.{Waiting}
use Rattle.hpx_journal.proofs.Grow.{part_append}
use Rattle.hpx_steps.proofs.ByRows.{by_rows}
use Rattle.hpx_steps.specs.Rows.{IsRowAt}
use Rattle.hpx_node.proofs.IdleFired.{fired_first, fired_last, hops_sum, moves_sum, sum_events, total}

none_accepted : (row : Row) → of_accepted row [] ≡ 0
none_accepted = by_rows (λ row. of_accepted row [] ≡ 0) refl refl refl refl refl refl refl refl refl refl refl (λ o. refl) (λ o to. refl) (λ o to. refl) (λ o to. refl) (λ o. refl)

none_came : (row : Row) → of_came row [] ≡ 0
none_came = by_rows (λ row. of_came row [] ≡ 0) refl refl refl refl refl refl refl refl refl refl refl (λ o. refl) (λ o to. refl) (λ o to. refl) (λ o to. refl) (λ o. refl)

pub passive_unpaid : (t : Tables) → IsPassive t → (row : Row) → unpaid row t ≡ 0
passive_unpaid t passive row = omega (
  arith,
  ap (sum_by (weight row)) passive.desk,
  ap (sum_by (λ (x : Outgoing). weight row x.parcel)) passive.outgoing,
  ap (sum_by (λ (w : Waiting Parcel). weight row w.item)) passive.queued,
  ap (sum_by (owes row)) passive.leaving,
  ap (sum_by (owes row)) passive.stray,
  ap (of_came row) passive.came,
  ap (of_accepted row) passive.accepted,
  none_came row,
  none_accepted row,
)

pub paid_since : (r : Rules) (t t' : Tables) (entries later : List Entry) → StandsWith r t [] [] entries → IsPassive t
    → StandsWith r t' [] [] (entries ++ later) → t'.here ≡ t.here → (row : Row) → IsRowAt t.localities t.here row → IsRowAt t'.localities t'.here row
    → sum_by (λ (e : Entry). goes r row e.event) (part t.here later) + unpaid row t'
    ≡ sum_by (λ (e : Entry). causes r row e.event) (part t.here later)
paid_since r t t' entries later h passive h' here row kept kept' =
    let split : part t'.here (entries ++ later) ≡ part t.here entries ++ part t.here later =
    ap (λ k. part k (entries ++ later)) here ∙ part_append t.here entries later in
    omega (
      arith,
      h.paid.rows row kept,
      h'.paid.rows row kept',
      passive_unpaid t passive row,
      ap (sum_by (λ (e : Entry). goes r row e.event)) split,
      ap (sum_by (λ (e : Entry). causes r row e.event)) split,
      sum_by-append (λ (e : Entry). goes r row e.event) (part t.here entries) (part t.here later),
      sum_by-append (λ (e : Entry). causes r row e.event) (part t.here entries) (part t.here later),
    )

pub hops_once : (r : Rules) (t : Tables) (entries : List Entry) → StandsWith r t [] [] entries
    → sum_by (λ (e : Entry). hops r e.event) (part t.here entries) ≤ sum_by (λ (e : Entry). sets_out r e.event) (part t.here entries)
hops_once r t entries h = omega (arith, h.paid.once, hops_sum r (part t.here entries))

-- ---- actions from a passive moment on

-- two sums over messages are no more than a third, where each message counts so
less_each : (f g h : Parcel → ℕ) → ((p : Parcel) → f p + g p ≤ h p) → (ps : List Parcel) → sum_by f ps + sum_by g ps ≤ sum_by h ps
less_each f g h each [] = omega arith
less_each f g h each (p ∷ ps) = omega (arith, each p, less_each f g h each ps, sum_by-cons f p ps, sum_by-cons g p ps, sum_by-cons h p ps)

three_each : (f g k h : Parcel → ℕ) → ((p : Parcel) → f p + g p + k p ≤ h p) → (ps : List Parcel) → sum_by f ps + sum_by g ps + sum_by k ps ≤ sum_by h ps
three_each f g k h each [] = omega arith
three_each f g k h each (p ∷ ps) = omega (arith, each p, three_each f g k h each ps, sum_by-cons f p ps, sum_by-cons g p ps, sum_by-cons k p ps, sum_by-cons h p ps)

none_each : (ps : List Parcel) (f : Parcel → ℕ) → ((p : Parcel) → f p ≡ 0) → sum_by f ps ≡ 0
none_each [] f each = refl
none_each (p ∷ ps) f each = omega (arith, each p, none_each ps f each, sum_by-cons f p ps)

less_going : (xs : List Outgoing) → sum_by (λ (x : Outgoing). weight Objects x.parcel) xs ≤ sum_by (λ (x : Outgoing). weight Actions x.parcel) xs
less_going [] = omega arith
less_going (x ∷ xs) = omega (arith, less_going xs, sum_by-cons (λ (y : Outgoing). weight Objects y.parcel) x xs, sum_by-cons (λ (y : Outgoing). weight Actions y.parcel) x xs)

less_queued : (ws : List (Waiting Parcel)) → sum_by (λ (w : Waiting Parcel). weight Objects w.item) ws ≤ sum_by (λ (w : Waiting Parcel). weight Actions w.item) ws
less_queued [] = omega arith
less_queued (w ∷ ws) = omega (arith, less_queued ws, sum_by-cons (λ (y : Waiting Parcel). weight Objects y.item) w ws, sum_by-cons (λ (y : Waiting Parcel). weight Actions y.item) w ws)

none_going : (f : Parcel → ℕ) → ((p : Parcel) → f p ≡ 0) → (xs : List Outgoing) → sum_by (λ (x : Outgoing). f x.parcel) xs ≡ 0
none_going f each [] = refl
none_going f each (x ∷ xs) = omega (arith, each x.parcel, none_going f each xs, sum_by-cons (λ (y : Outgoing). f y.parcel) x xs)

none_waiting : (f : Parcel → ℕ) → ((p : Parcel) → f p ≡ 0) → (ws : List (Waiting Parcel)) → sum_by (λ (w : Waiting Parcel). f w.item) ws ≡ 0
none_waiting f each [] = refl
none_waiting f each (w ∷ ws) = omega (arith, each w.item, none_waiting f each ws, sum_by-cons (λ (y : Waiting Parcel). f y.item) w ws)

-- of the actions that are here, those on the move and those that are accepted for good are others
pub actions_here : (t : Tables) → unpaid Objects t + unpaid Leavings t + unpaid Landings t + (length t.accepted + sum_by brings t.stray) ≤ unpaid Actions t
actions_here t = omega (
  arith,
  less_each (weight Objects) (λ p. 0) (weight Actions) (λ p. omega arith) t.desk,
  less_going t.outgoing,
  less_queued t.queued,
  less_each (owes Leavings) (owes Landings) (owes Actions) (λ p. omega arith) t.leaving,
  three_each brings (owes Leavings) (owes Landings) (owes Actions) (λ p. omega arith) t.stray,
  none_each t.leaving (owes Objects) (λ p. refl),
  none_each t.stray (owes Objects) (λ p. refl),
  none_each t.desk (weight Leavings) (λ p. refl),
  none_each t.desk (weight Landings) (λ p. refl),
  none_going (weight Leavings) (λ p. refl) t.outgoing,
  none_going (weight Landings) (λ p. refl) t.outgoing,
  none_waiting (weight Leavings) (λ p. refl) t.queued,
  none_waiting (weight Landings) (λ p. refl) t.queued,
)

-- the events of entries
abbrev events : List Entry → List Event
events es = map (λ (e : Entry). e.event) es

pub hops_since : (r : Rules) (t t' : Tables) (entries later : List Entry) → StandsWith r t [] [] entries → IsPassive t
    → StandsWith r t' [] [] (entries ++ later) → t'.here ≡ t.here
    → sum_by (λ (e : Entry). hops r e.event) (part t.here later) ≤ sum_by (λ (e : Entry). sets_out r e.event) (part t.here later)
hops_since r t t' entries later h passive h' here =
    let n : ℕ = length t'.accepted + sum_by brings t'.stray in
    let split : part t'.here (entries ++ later) ≡ part t.here entries ++ part t.here later =
    ap (λ k. part k (entries ++ later)) here ∙ part_append t.here entries later in
    let all : AreFired n (events (part t.here entries) ++ events (part t.here later)) =
    subst (AreFired n) (ap events split ∙ map-append (λ (e : Entry). e.event) (part t.here entries) (part t.here later)) h'.paid.fired in
    let these = fired_last n (events (part t.here entries)) (events (part t.here later)) all in
    omega (
      arith,
      fired_first n (events (part t.here later)) these,
      sum_events joins (part t.here later),
      sum_events fires_one (part t.here later),
      moves_sum r (part t.here later),
      paid_since r t t' entries later h passive h' here Actions tt tt,
      paid_since r t t' entries later h passive h' here Objects tt tt,
      paid_since r t t' entries later h passive h' here Leavings tt tt,
      paid_since r t t' entries later h passive h' here Landings tt tt,
      actions_here t',
    )
