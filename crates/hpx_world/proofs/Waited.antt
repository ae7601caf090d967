-- What is given was asked for, and is still waited for.
use Rattle.std.proofs.Common.{ℕ, Bool, true, false, cond, List, [], ◌∷◌, ◌≡◌, ◌≢◌, ◌+◌, ◌==◌, ◌<◌, ◌≤◌, Some, refl, sym, ap, ◌∙◌, arith, inl, inr}
use Rattle.std.specs.List.{slice_get, sum_by, AllByRecursion}
use Rattle.std.proofs.lemmas.Bool.{cases_eq, eq-eqb, ne_eqb}
use Rattle.std.proofs.lemmas.List.Sums.{sum_by-cons}
use Rattle.hpx_value.specs.Ids.{same_object}
use Rattle.hpx_journal.specs.Data.{Id, Parcel, Ask, Give}
use Rattle.hpx_journal.specs.Entries.{Rules, Frame}
use Rattle.hpx_journal.specs.Laws.{road_run, IsOnRoad}
use Rattle.hpx_journal.specs.Whole.{arrives, arrives_at, sends, part, replayed}
use Rattle.hpx_journal.proofs.Alls.{all-map}
use Rattle.hpx_journal.proofs.Bools.{and_false, false_from}
use Rattle.hpx_journal.proofs.Credited.{among}
use Rattle.hpx_journal.proofs.Frames.{frames_carried, part_sum, sum_le}
use Rattle.hpx_journal.proofs.Grow.{run_road}
use Rattle.hpx_journal.proofs.Ledger.{same_homes}
use Rattle.hpx_journal.proofs.PoolMoves.{arrived}
use Rattle.hpx_journal.proofs.Same.{same_object-refl}
use Rattle.hpx_journal.proofs.Start.{first, zero_all}
use Rattle.hpx_part.specs.Data.{Event, Entry, In, Out}
use Rattle.hpx_steps.specs.Frames.{MayGoTo}
use Rattle.hpx_steps.specs.Rows.{weighed}
use Rattle.hpx_steps.specs.Sound.{IsOwn, SendsOwn, asks_for, gives_for, gone, gone_to, come, all_count}
use Rattle.hpx_steps.specs.Rest.{waits_for, AreInOrder}
use Rattle.hpx_tables.specs.Tables.{Tables}
use Rattle.hpx_world.proofs.Counted.{AreNodes}
use Rattle.hpx_world.proofs.FromOthers.{IsSentWell, sends_own, arrivals_well}
use Rattle.hpx_world.proofs.Known.{IsJoined, IsShown}

-- what the message of a frame counts, if it goes to j
abbrev counts_to : Rules → ℕ → (Parcel → ℕ) → Frame → ℕ
counts_to r j w f = cond (f.0 == j) (weighed w (r.parcel_of f.1)) 0

either_zero : (b : Bool) → ◌≡◌ {A = ℕ} 0 (cond b 0 0)
either_zero true = refl
either_zero false = refl

if_none : (b : Bool) (n : ℕ) → n ≡ 0 → ◌≡◌ {A = ℕ} (cond b n 0) 0
if_none true n e = e
if_none false n e = refl

if_less : (b : Bool) (n : ℕ) → cond b n 0 ≤ n
if_less true n = omega arith
if_less false n = omega arith

sum_alike : {X : Type 0} (f g : X → ℕ) → ((x : X) → f x ≡ g x) → (xs : List X) → sum_by f xs ≡ sum_by g xs
sum_alike f g h [] = refl
sum_alike f g h (x ∷ xs) = omega (arith, h x, sum_alike f g h xs, sum_by-cons f x xs, sum_by-cons g x xs)

module _ (r : Rules) (j : ℕ) (w : Parcel → ℕ) where
  comes_one : (k : ℕ) (e : Event) → sum_by (counts_to r j w) (arrives_at k e) ≡ cond (k == j) (come r w e) 0
  comes_one k (In bytes) = omega arith
  comes_one k _ = either_zero (k == j)

  -- what came to j
  comes : (es : List Entry) → sum_by (λ e. sum_by (counts_to r j w) (arrives e)) es ≡ all_count (come r w) (part j es)
  comes es =
      sum_alike (λ e. sum_by (counts_to r j w) (arrives e)) (λ (e : Entry). cond (e.at == j) (come r w e.event) 0) (λ e. comes_one e.at e.event) es
      ∙ sym (part_sum j (come r w) es)

-- ---- what one locality sends

module _ (r : Rules) (log : ℕ) (o : Id) (n k : ℕ) where
  gives_home : (from to : ℕ) (p : Parcel) → MayGoTo from to p → from ≢ o.home → gives_for o n p ≡ 0
  gives_home from to (Give id entry) may away =
      let other : same_object o id ≡ false = false_from (same_object o id) (λ t. away (may ∙ sym (same_homes o id t))) in
      rw (other, and_false (entry == n)) refl
  gives_home from to _ may away = refl

  asks_own : (from : ℕ) (p : Parcel) → IsOwn from log p → from ≢ k → asks_for k o n p ≡ 0
  asks_own from (Ask id asker entry) own away = rw (ne_eqb asker k (λ e. away (sym own ∙ e))) refl
  asks_own from _ own away = refl

  sent_gives : (from : ℕ) (e : Event) → SendsOwn r r.localities from log e
      → sum_by (counts_to r k (gives_for o n)) (sends e) ≤ cond (from == o.home) (gone_to r k (gives_for o n) e) 0
  sent_gives from (Out to bytes) h = elim (cases_eq from o.home) [
    | inl same ↦ rw (eq-eqb from o.home same) (omega arith)
    | inr other ↦
        let none : weighed (gives_for o n) (r.parcel_of bytes) ≡ 0 =
        ap (weighed (gives_for o n)) h.spelled ∙ gives_home from to h.parcel h.way.may other in
        omega (arith, if_none (to == k) (weighed (gives_for o n) (r.parcel_of bytes)) none)
  ]
  sent_gives from _ h = omega arith

  -- none to itself
  sent_none : o.home ≡ k → (from : ℕ) (e : Event) → SendsOwn r r.localities from log e → sum_by (counts_to r k (gives_for o n)) (sends e) ≡ 0
  sent_none home from (Out to bytes) h = elim (cases_eq from o.home) [
    | inl same ↦
        let away : (to == k) ≡ false = ne_eqb to k (λ e. h.way.away (e ∙ (sym home ∙ sym same))) in
        omega (arith, ap (λ b. cond b (weighed (gives_for o n) (r.parcel_of bytes)) 0) away)
    | inr other ↦
        let none : weighed (gives_for o n) (r.parcel_of bytes) ≡ 0 =
        ap (weighed (gives_for o n)) h.spelled ∙ gives_home from to h.parcel h.way.may other in
        omega (arith, if_none (to == k) (weighed (gives_for o n) (r.parcel_of bytes)) none)
  ]
  sent_none home from _ h = refl

  sent_asks : (from : ℕ) (e : Event) → SendsOwn r r.localities from log e
      → sum_by (counts_to r o.home (asks_for k o n)) (sends e) ≤ cond (from == k) (gone r (asks_for k o n) e) 0
  sent_asks from (Out to bytes) h = elim (cases_eq from k) [
    | inl same ↦
        rw (eq-eqb from k same) (omega (arith, if_less (to == o.home) (weighed (asks_for k o n) (r.parcel_of bytes))))
    | inr other ↦
        let none : weighed (asks_for k o n) (r.parcel_of bytes) ≡ 0 =
        ap (weighed (asks_for k o n)) h.spelled ∙ asks_own from h.parcel h.own other in
        omega (arith, if_none (to == o.home) (weighed (asks_for k o n) (r.parcel_of bytes)) none)
  ]
  sent_asks from _ h = omega arith

  -- no ask of k comes to k
  arrived_asks : (at : ℕ) (e : Event) → AllByRecursion (IsSentWell r log) (arrives_at at e) → sum_by (counts_to r k (asks_for k o n)) (arrives_at at e) ≡ 0
  arrived_asks at (In bytes) h = elim (cases_eq at k) [
    | inl same ↦
        let x = h.0 in
        let none : weighed (asks_for k o n) (r.parcel_of bytes) ≡ 0 =
        ap (weighed (asks_for k o n)) x.own.spelled ∙ asks_own x.from x.own.parcel x.own.own (λ e. x.own.way.away (same ∙ sym e)) in
        omega (arith, if_none (at == k) (weighed (asks_for k o n) (r.parcel_of bytes)) none)
    | inr other ↦ omega (arith, ap (λ b. cond b (weighed (asks_for k o n) (r.parcel_of bytes)) 0) (ne_eqb at k other))
  ]
  arrived_asks at _ h = refl

-- ---- all of them

module _ (r : Rules) (log : ℕ) (nodes : List Tables) (es : List Entry) (joined : IsJoined r es) (each : AreNodes r log nodes es) (o : Id) (n k : ℕ) (near : o.home < r.localities) where
  abbrev gives_away : ℕ
  gives_away = sum_by (counts_to r k (gives_for o n)) (road_run [] es)

  abbrev asked_there : ℕ
  asked_there = all_count (gone r (asks_for k o n)) (part k es)

  abbrev its_home : (t : Tables) × (slice_get nodes o.home ≡ Some t)
  its_home = each.node o.home near

  gives_sent : gives_away + all_count (come r (gives_for o n)) (part k es) ≡ sum_by (λ (e : Entry). sum_by (counts_to r k (gives_for o n)) (sends e.event)) es
  gives_sent = omega (
    arith,
    frames_carried r (counts_to r k (gives_for o n)) [] es joined.join.carried,
    comes r k (gives_for o n) es,
  )

  home_order : AreInOrder r r.localities o.home log its_home.0.desk its_home.0.outgoing its_home.0.pending (part o.home es)
  home_order = (each.shown o.home its_home.0 its_home.1).order

  -- no more is given than was asked for
  gives_few : gives_away + all_count (come r (gives_for o n)) (part k es) ≤ asked_there
  gives_few = elim (cases_eq o.home k) [
    | inl same ↦ omega (
      arith,
      gives_sent,
      zero_all (λ (e : Entry). sum_by (counts_to r k (gives_for o n)) (sends e.event)) es
          (all-map (λ (e : Entry). SendsOwn r r.localities e.at log e.event) (λ (e : Entry). sum_by (counts_to r k (gives_for o n)) (sends e.event) ≡ 0)
          (λ e h. sent_none r log o n k same e.at e.event h) es (sends_own r log nodes es joined each)),
    )
    | inr other ↦ omega (
      arith,
      gives_sent,
      sum_le (λ (e : Entry). sum_by (counts_to r k (gives_for o n)) (sends e.event)) (λ (e : Entry). cond (e.at == o.home) (gone_to r k (gives_for o n) e.event) 0) es
          (all-map (λ (e : Entry). SendsOwn r r.localities e.at log e.event)
          (λ (e : Entry). sum_by (counts_to r k (gives_for o n)) (sends e.event) ≤ cond (e.at == o.home) (gone_to r k (gives_for o n) e.event) 0)
          (λ e h. sent_gives r log o n k e.at e.event h) es (sends_own r log nodes es joined each)),
      part_sum o.home (gone_to r k (gives_for o n)) es,
      home_order.given k (λ e. other (sym e)) o n,
      frames_carried r (counts_to r o.home (asks_for k o n)) [] es joined.join.carried,
      comes r o.home (asks_for k o n) es,
      sum_le (λ (e : Entry). sum_by (counts_to r o.home (asks_for k o n)) (sends e.event)) (λ (e : Entry). cond (e.at == k) (gone r (asks_for k o n) e.event) 0) es
          (all-map (λ (e : Entry). SendsOwn r r.localities e.at log e.event)
          (λ (e : Entry). sum_by (counts_to r o.home (asks_for k o n)) (sends e.event) ≤ cond (e.at == k) (gone r (asks_for k o n) e.event) 0)
          (λ e h. sent_asks r log o n k e.at e.event h) es (sends_own r log nodes es joined each)),
      part_sum k (gone r (asks_for k o n)) es,
    )
  ]

  own_asks : all_count (come r (asks_for k o n)) (part k es) ≡ 0
  own_asks =
      sym (comes r k (asks_for k o n) es)
      ∙ zero_all (λ e. sum_by (counts_to r k (asks_for k o n)) (arrives e)) es
      (all-map (λ e. AllByRecursion (IsSentWell r log) (arrives e)) (λ e. sum_by (counts_to r k (asks_for k o n)) (arrives e) ≡ 0)
      (λ e h. arrived_asks r log o n k e.at e.event h) es (arrivals_well r log nodes es joined each))

  module _ (t : Tables) (s : IsShown r log es k t) where
    -- what is given on the road to k, or on its own desk, is waited for there
    pub awaited : gives_away + sum_by (gives_for o n) t.desk ≤ waits_for o n t.pending
    awaited = omega (arith, gives_few, own_asks, s.order.asked o n)

-- a Give on the road to k
pub road_given : (r : Rules) (es : List Entry) (id : Id) (entry k : ℕ) (bytes : List ℕ) → IsOnRoad (k, bytes) (replayed r es)
    → r.parcel_of bytes ≡ Some (Give id entry) → 1 ≤ sum_by (counts_to r k (gives_for id entry)) (road_run [] es)
road_given r es id entry k bytes on spelled =
    let one : counts_to r k (gives_for id entry) (k, bytes) ≡ 1 = rw (eq-eqb k k refl, spelled, eq-eqb entry entry refl, same_object-refl id) refl in
    let few = arrived (λ x. (g : Frame → ℕ) → g x ≤ sum_by g (replayed r es).road) (replayed r es).road (k, bytes) (among (replayed r es).road) on
    (counts_to r k (gives_for id entry)) in
    omega (arith, one, few, ap (sum_by (counts_to r k (gives_for id entry))) (run_road r (first r) es))

-- a Give that is first on a desk
pub desk_given : (id : Id) (entry : ℕ) (t : Tables) (p : Parcel) (rest : List Parcel) → t.desk ≡ p ∷ rest → p ≡ Give id entry → 1 ≤ sum_by (gives_for id entry) t.desk
desk_given id entry t p rest first is =
    let one : gives_for id entry (Give id entry) ≡ 1 = rw (eq-eqb entry entry refl, same_object-refl id) refl in
    omega (arith, one, ap (gives_for id entry) is, ap (sum_by (gives_for id entry)) first, sum_by-cons (gives_for id entry) p rest)
