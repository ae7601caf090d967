-- What two waves of one round show.
use Rattle.std.proofs.Common.{ℕ, zero, suc, true, false, List, [], ◌∷◌, ◌++◌, ◌≡◌, ◌≢◌, ◌+◌, ◌<◌, ◌≤◌, refl, sym, ap, ◌∙◌, subst, arith, inl, inr, length, take, drop, append-nil}
use Rattle.std.specs.Prelude.{max}
use Rattle.std.specs.List.{AllByRecursion}
use Rattle.std.proofs.Math.Nat.{le-max_left, le-max_right, max-le}
use Rattle.std.proofs.lemmas.List.{take-append-drop}
use Rattle.std.proofs.lemmas.List.{length-append}
use Rattle.std.proofs.lemmas.Bool.{cases_eq, eq-eqb}
use Rattle.hpx_journal.specs.Bags.{total, Covers}
use Rattle.hpx_journal.specs.Entries.{Rules, same_frame}
use Rattle.hpx_journal.specs.declared.entry.Event.{Event}
use Rattle.hpx_journal.specs.declared.entry.Event.TheVariants.{Line, In}
use Rattle.hpx_journal.specs.declared.entry.Entry.{Entry}
use Rattle.hpx_journal.specs.Local.{boot, after}
use Rattle.hpx_journal.specs.declared.local.Local.{Local}
use Rattle.hpx_journal.specs.Rows.{Allowed, Row}
use Rattle.hpx_journal.specs.Roots.{roots}
use Rattle.hpx_journal.specs.Whole.{IsLegal, IsQuiet, IsQuietAt, arrives_at, part, replayed}
use Rattle.hpx_journal.specs.Laws.{IsLegalLocal, ins, outs}
use Rattle.hpx_journal.specs.Sessions.{FeedsNothing}
use Rattle.hpx_journal.proofs.Bags.{total-le}
use Rattle.hpx_journal.proofs.Start.{first}
use Rattle.hpx_journal.proofs.Fronts.{legal_front, legal_rest}
use Rattle.hpx_journal.proofs.Grow.{run_part, part_append, legal_part, legal_carried}
use Rattle.hpx_journal.proofs.Quiet.{legal_lengths, legal_road_empty, legal_quiet}
use Rattle.hpx_journal.proofs.Deaths.{legal_all_freed}
use Rattle.hpx_journal.proofs.Failures.{AreBelow, below_all}
use Rattle.hpx_ended.specs.Waves.{IsAtRest, BeginsAwake, Wakes, Answers, IsWaveRun, IsBetween, Agree, sent_in, greatest}
use Rattle.hpx_ended.proofs.Parts.{take_take, drop_more, part_take, part_drop, part_more, part_behind, ins_append, outs_append, ins_parts, outs_parts, total-squeeze, stays_asleep}

all-left : {X : Type 0} (P : X → Type 0) (xs ys : List X) → AllByRecursion P (xs ++ ys) → AllByRecursion P xs
all-left P [] ys h = tt
all-left P (x ∷ xs) ys h = (h.0, all-left P xs ys h.1)

all-right : {X : Type 0} (P : X → Type 0) (xs ys : List X) → AllByRecursion P (xs ++ ys) → AllByRecursion P ys
all-right P [] ys h = h
all-right P (x ∷ xs) ys h = all-right P xs ys h.1

-- ---- parts do not get shorter

pub lengths_rise : (r : Rules) (es : List Entry) (v : Answers) (w k : ℕ) → IsWaveRun r es v → suc w < v.number → k < r.localities
    → v.lengths w k ≤ v.lengths (suc w) k
lengths_rise r es v w k run h here =
    let i = v.places w k in
    let j = v.places (suc w) k in
    let a : part k (take j es) ≡ part k (take i es) ++ part k (drop i (take j es)) = part_more k es i j (run.order w k k h here here) in
    omega (
      arith,
      run.stand w k (omega arith) here,
      run.stand (suc w) k h here,
      ap length a,
      length-append (part k (take i es)) (part k (drop i (take j es))),
    )

-- ---- the last answer

greatest-above : (n : ℕ) (f : ℕ → ℕ) (k : ℕ) → k < n → f k ≤ greatest n f
greatest-above zero f k h = absurd (omega arith)
greatest-above (suc n) f k h = elim (cases_eq k n) [
  | inl t ↦ subst (λ (j : ℕ). f j ≤ max (f n) (greatest n f)) (sym t) (le-max_left (f n) (greatest n f))
  | inr d ↦ omega (arith, le-max_right (f n) (greatest n f), greatest-above n f k (omega arith))
]

greatest-below : (n : ℕ) (f : ℕ → ℕ) (m : ℕ) → ((k : ℕ) → k < n → f k ≤ m) → greatest n f ≤ m
greatest-below zero f m h = omega arith
greatest-below (suc n) f m h = max-le (h n (omega arith)) (greatest-below n f m (λ k i. h k (omega arith)))

pub last_between : (r : Rules) (es : List Entry) (v : Answers) (w : ℕ) → IsWaveRun r es v → suc w < v.number
    → IsBetween r v w (greatest r.localities (v.places w))
last_between r es v w run h = record {
  behind = λ k i. greatest-above r.localities (v.places w) k i;
  before = λ k i. greatest-below r.localities (v.places w) (v.places (suc w) k) (λ j l. run.order w j k h l i);
}

-- ---- lines are fed at locality 0 alone

no_line : (r : Rules) (s : Local) (e : Entry) → s.here ≢ 0 → Allowed r s e → FeedsNothing e.event
no_line r s e away a = at e.event a.row
  where
    at : (ev : Event) → Row r s ev → FeedsNothing ev
    at (Line a bytes) row = away row.0
    at _ row = tt

no_lines : (r : Rules) (s : Local) (es : List Entry) → s.here ≢ 0 → IsLegalLocal r s es → AllByRecursion (λ e. FeedsNothing e.event) es
unfolding after
no_lines r s [] away legal = tt
no_lines r s (e ∷ es) away legal = (no_line r s e away legal.0, no_lines r (after r s e.event) es away legal.1)

-- ---- between two waves of a round that agree

module _ (r : Rules) (es : List Entry) (legal : IsLegal r es) (v : Answers) (run : IsWaveRun r es v) (w : ℕ) (agree : Agree r es v w)
    (t : ℕ) (between : IsBetween r v w t) where
  first_wave : w < v.number
  first_wave = omega (arith, agree.within)

  abbrev pub front : List Entry
  front = take t es

  front_legal : IsLegal r front
  front_legal = legal_front r (first r) front (drop t es) (subst (IsLegal r) (sym (take-append-drop t es)) legal)

  below : AreBelow r.localities front
  below = below_all r [] front (legal_carried r (first r) front front_legal)

  -- how many frames a member had accepted at its answer, and at t
  abbrev pub taken_then : ℕ → ℕ
  taken_then k = length (ins (take (v.lengths w k) (part k es)))

  abbrev pub taken_now : ℕ → ℕ
  taken_now k = length (ins (part k front))

  module _ (k : ℕ) (here : k < r.localities) where
    abbrev pub place : ℕ
    place = v.places w k

    -- what the member wrote from its answer to t
    abbrev pub since : List Entry
    since = part k (drop place front)

    its_part : take (v.lengths w k) (part k es) ≡ part k (take place es)
    its_part = ap (λ n. take n (part k es)) (sym (run.stand w k first_wave here)) ∙ part_take k es place

    grown : part k front ≡ part k (take place es) ++ since
    grown = part_more k es place t (between.behind k here)

    more_taken : taken_now k ≡ taken_then k + length (ins since)
    more_taken =
        let a : length (ins (part k front)) ≡ length (ins (part k (take place es) ++ since)) = ap (λ zs. length (ins zs)) grown in
        let b : length (ins (take (v.lengths w k) (part k es))) ≡ length (ins (part k (take place es))) = ap (λ zs. length (ins zs)) its_part in
        omega (arith, a, b, ins_append (part k (take place es)) since)

    -- what it had sent at its next answer is at least what it had sent at t
    sent_later : length (outs (part k front)) ≤ length (outs (take (v.lengths (suc w) k) (part k es)))
    sent_later =
        let q = v.places (suc w) k in
        let a : take (v.lengths (suc w) k) (part k es) ≡ part k (take q es) =
        ap (λ n. take n (part k es)) (sym (run.stand (suc w) k agree.within here)) ∙ part_take k es q in
        let b : length (outs (take (v.lengths (suc w) k) (part k es))) ≡ length (outs (part k (take q es))) = ap (λ zs. length (outs zs)) a in
        let c : length (outs (part k (take q es))) ≡ length (outs (part k front ++ part k (drop t (take q es)))) =
        ap (λ zs. length (outs zs)) (part_more k es t q (between.before k here)) in
        omega (arith, b, c, outs_append (part k front) (part k (drop t (take q es))))

  sums_taken : total r.localities taken_then ≤ total r.localities taken_now
  sums_taken = total-le r.localities taken_then taken_now (λ k h. omega (arith, more_taken k h))

  sums_sent : length (outs front) ≤ sent_in r es v (suc w)
  sums_sent =
      let a : total r.localities (λ k. length (outs (part k front))) ≤ sent_in r es v (suc w) =
      total-le r.localities (λ k. length (outs (part k front))) (λ k. length (outs (take (v.lengths (suc w) k) (part k es)))) sent_later in
      omega (arith, a, outs_parts r.localities front below)

  same : length (ins front) ≡ length (outs front)
  same =
      let a : total r.localities taken_then ≡ sent_in r es v (suc w) = agree.same in
      omega (arith, a, sums_taken, sums_sent, ins_parts r.localities front below, legal_lengths r front front_legal)

  pub between_road : (replayed r front).road ≡ []
  between_road = legal_road_empty r front front_legal same

  -- so no member accepted a frame from its answer on
  none_taken : (k : ℕ) → k < r.localities → taken_now k ≤ taken_then k
  none_taken k h =
      let a : total r.localities taken_then ≡ sent_in r es v (suc w) = agree.same in
      total-squeeze r.localities taken_then taken_now (λ j l. omega (arith, more_taken j l))
      (omega (arith, a, sums_sent, ins_parts r.localities front below, legal_lengths r front front_legal)) k h

  module _ (k : ℕ) (here : k < r.localities) where
    unfed_before : AllByRecursion (λ e. FeedsNothing e.event) (part 0 (drop (v.places w k) front))
    unfed_before =
        let q = v.places (suc w) k in
        let a : drop (v.places w k) (take q es) ≡ drop (v.places w k) (take t (take q es)) ++ drop t (take q es) =
        drop_more (v.places w k) t (take q es) (between.behind k here) in
        let b : drop (v.places w k) (take q es) ≡ drop (v.places w k) (take t es) ++ drop t (take q es) =
        a ∙ ap (λ zs. drop (v.places w k) zs ++ drop t (take q es)) (take_take t q es (between.before k here)) in
        let c : part 0 (drop (v.places w k) (take q es)) ≡ part 0 (drop (v.places w k) (take t es)) ++ part 0 (drop t (take q es)) =
        ap (part 0) b ∙ part_append 0 (drop (v.places w k) (take t es)) (drop t (take q es)) in
        all-left (λ e. FeedsNothing e.event) (part 0 (drop (v.places w k) (take t es))) (part 0 (drop t (take q es)))
        (subst (AllByRecursion (λ e. FeedsNothing e.event)) c (run.lines w (suc w) k k first_wave agree.within here here agree.round))

    unfed_elsewhere : k ≢ 0 → AllByRecursion (λ e. FeedsNothing e.event) (since k here)
    unfed_elsewhere d =
        all-right (λ e. FeedsNothing e.event) (part k (take (place k here) es)) (since k here)
        (subst (AllByRecursion (λ e. FeedsNothing e.event)) (grown k here)
        (no_lines r (boot (roots r.localities k) k) (part k front) d (legal_part r (first r) front front_legal k)))

    unfed : AllByRecursion (λ e. FeedsNothing e.event) (since k here)
    unfed = elim (cases_eq k 0) [
      | inl z ↦ subst (λ j. AllByRecursion (λ e. FeedsNothing e.event) (part j (drop (v.places w k) front))) (sym z) unfed_before
      | inr d ↦ unfed_elsewhere d
    ]

    -- a member writes nothing from its answer to t
    silent : since k here ≡ []
    silent =
        let a : drop (v.lengths w k) (part k es) ≡ since k here ++ part k (drop t es) =
        ap (λ n. drop n (part k es)) (sym (run.stand w k first_wave here))
        ∙ (part_drop k es (v.places w k) ∙ part_behind k es (v.places w k) t (between.behind k here)) in
        stays_asleep (since k here) (part k (drop t es)) (subst BeginsAwake a (run.rest w k first_wave here).next) unfed
        (omega (arith, none_taken k here, more_taken k here))

    unchanged : part k front ≡ take (v.lengths w k) (part k es)
    unchanged =
        grown k here
        ∙ (ap (λ zs. part k (take (v.places w k) es) ++ zs) silent ∙ (append-nil (part k (take (v.places w k) es)) ∙ sym (its_part k here)))

    pub between_rest : IsAtRest r k (part k (take t es))
    between_rest = subst (IsAtRest r k) (sym unchanged) (run.rest w k first_wave here).rest

    -- what it writes behind t is behind its answer
    behind_t : drop (v.lengths w k) (part k es) ≡ part k (drop t es)
    behind_t =
        ap (λ n. drop n (part k es)) (sym (run.stand w k first_wave here))
        ∙ (part_drop k es (v.places w k) ∙ (part_behind k es (v.places w k) t (between.behind k here) ∙ ap (λ zs. zs ++ part k (drop t es)) silent))

    wakes_behind : BeginsAwake (part k (drop t es))
    wakes_behind = subst BeginsAwake behind_t (run.rest w k first_wave here).next

    unfed_behind : AllByRecursion (λ e. FeedsNothing e.event) (drop (v.lengths w 0) (part 0 es)) → AllByRecursion (λ e. FeedsNothing e.event) (part k (drop t es))
    unfed_behind h = elim (cases_eq k 0) [
      | inl z ↦ subst (AllByRecursion (λ e. FeedsNothing e.event)) behind_t
          (subst (λ j. AllByRecursion (λ e. FeedsNothing e.event) (drop (v.lengths w j) (part j es))) (sym z) h)
      | inr d ↦ subst (AllByRecursion (λ e. FeedsNothing e.event)) behind_t
          (all-right (λ e. FeedsNothing e.event) (take (v.lengths w k) (part k es)) (drop (v.lengths w k) (part k es))
          (subst (AllByRecursion (λ e. FeedsNothing e.event)) (sym (take-append-drop (v.lengths w k) (part k es)))
          (no_lines r (boot (roots r.localities k) k) (part k es) d (legal_part r (first r) es legal k))))
    ]

  pub between_quiet : IsQuiet r (replayed r (take t es))
  between_quiet =
      legal_quiet r front front_legal
      (λ k h. subst IsQuietAt (sym (run_part r (first r) front k)) (between_rest k h).still)
      same
      (λ o dead. legal_all_freed r front front_legal between_road (λ k h. (between_rest k h).frees) o dead)

  -- ---- where no line is fed behind the numbers of member 0, nothing follows

  follower : (e : Entry) (later : List Entry) → drop t es ≡ e ∷ later → AllByRecursion (λ e. FeedsNothing e.event) (drop (v.lengths w 0) (part 0 es)) → ⊥
  follower e later is unfed =
      let may = (legal_rest r (first r) front (e ∷ later) (subst (λ l. IsLegal r (front ++ l)) is (subst (IsLegal r) (sym (take-append-drop t es)) legal))).0 in
      let first_is : part e.at (drop t es) ≡ e ∷ part e.at later = ap (part e.at) is ∙ own_first e later in
      asleep e.at e.event (subst BeginsAwake first_is (wakes_behind e.at may.place))
      (subst (AllByRecursion (λ x. FeedsNothing x.event)) first_is (unfed_behind e.at may.place unfed)).0
      (subst (λ road. Covers same_frame road (arrives_at e.at e.event)) between_road may.road)
    where
      own_first : (e : Entry) (later : List Entry) → part e.at (e ∷ later) ≡ e ∷ part e.at later
      own_first e later = rw (eq-eqb e.at e.at refl) refl

      asleep : (k : ℕ) (e : Event) → Wakes e → FeedsNothing e → Covers same_frame [] (arrives_at k e) → ⊥
      asleep k (Line a bytes) w f c = f
      asleep k (In bytes) w f c = let no : false ≡ true = c.0 in cc
      asleep k _ w f c = w

  pub end_quiet : AllByRecursion (λ e. FeedsNothing e.event) (drop (v.lengths w 0) (part 0 es)) → IsQuiet r (replayed r es)
  end_quiet unfed = by (drop t es) refl
    where
      by : (later : List Entry) → drop t es ≡ later → IsQuiet r (replayed r es)
      by [] is = subst (λ l. IsQuiet r (replayed r l)) (sym (append-nil front) ∙ (ap (λ l. front ++ l) (sym is) ∙ take-append-drop t es)) between_quiet
      by (e ∷ later) is = absurd (follower e later is unfed)
