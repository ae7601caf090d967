-- A commit begins to wait: its ids are halved ahead, each that does not last is asked for, and it is put aside.
use Rattle.hpx_steps.proofs.Common.{Act, AllByRecursion, AreWithin, Ask, Bool, Entry, Event, HasLeastCredit, HasSplit, Id, Job, Label, List, None, Outcome, Pause, Rules, Some, Standing, Stands, State, Step, Steps, Stock, Suspend, Tables, Turn, Waits, Writes, [], ahead, ahead_is, ap, append-nil, arith, asked_at, asked_events, at_all, at_rest, bare, bare_state, cond, false, find, first_cuts, hand_ids, id_at, is_standing, length, length-append, length-set, log_of, map, named, nat_le, plain, refl, remove, rules_of, set, short_from, short_places, slice_get, stripped, subst, suc, sym, target_of, true, waits_with, with_asks, with_mail, written, zero, ℕ, ◌++◌, ◌+◌, ◌<◌, ◌∙◌, ◌∷◌, ◌≡◌, ◌≢◌, ◌≤◌}
use Rattle.hpx_steps.proofs.Tools.{place_at, put_elsewhere}
use Rattle.hpx_steps.proofs.Committed.{begins}
use Rattle.hpx_steps.proofs.Handled.{steps_append, written_append, written_events}
use Rattle.hpx_steps.proofs.TurnOf.{turn_stands}
use Rattle.hpx_steps.proofs.Work.{CanBeAsked, ahead_steps, asking_turn, asks_steps, with_hand}

-- ---- what is asked for

-- the ids that do not last, of so many places from p on, can be asked for one after another
shorts_can : (k p n : ℕ) (st : Stock) (hand : List Id) → p + k ≤ n → n ≤ length hand → ((q : ℕ) → p ≤ q → q < n → id_at hand q ≡ id_at st.hand q)
    → AllByRecursion (λ q. HasLeastCredit (id_at st.hand q)) (short_from k p st) → CanBeAsked n hand (short_from k p st) (map (id_at st.hand) (short_from k p st))
shorts_can zero p n st hand le long same least = tt
shorts_can (suc k) p n st hand le long same least =
    each (short_from k (p + 1) st) (nat_le (named st.places p) (log_of (id_at st.hand p).log + 1)) least
    (λ h. shorts_can k (p + 1) n st hand (omega (arith, le)) long (λ q from low. same q (omega (arith, from)) low) h)
    (λ h. shorts_can k (p + 1) n st (set hand p (bare (id_at st.hand p))) (omega (arith, le)) (omega (arith, long, length-set hand p (bare (id_at st.hand p))))
    (λ q from low. put_elsewhere hand p q (bare (id_at st.hand p)) (λ e. absurd (omega (arith, e, from))) ∙ same q (omega (arith, from)) low) h)
  where
    each : (after : List ℕ) (b : Bool) → AllByRecursion (λ q. HasLeastCredit (id_at st.hand q)) (cond b after (p ∷ after))
        → (AllByRecursion (λ q. HasLeastCredit (id_at st.hand q)) after → CanBeAsked n hand after (map (id_at st.hand) after))
        → (AllByRecursion (λ q. HasLeastCredit (id_at st.hand q)) after → CanBeAsked n (set hand p (bare (id_at st.hand p))) after (map (id_at st.hand) after))
        → CanBeAsked n hand (cond b after (p ∷ after)) (map (id_at st.hand) (cond b after (p ∷ after)))
    each after true h here behind = here h
    each after false h here behind = (omega (arith, le), place_at hand p (omega (arith, le, long)) ∙ ap Some (same p (omega arith) (omega (arith, le))), h.0, behind h.1)

-- only messages come with asks
pub asks_rest : (k n : ℕ) (ids : List Id) (t : Tables) → with_asks k n ids t ≡ record t { desk = (with_asks k n ids t).desk; outgoing = (with_asks k n ids t).outgoing }
asks_rest k n [] t = refl
asks_rest k n (id ∷ ids) t = asks_rest k (n + 1) ids (with_mail id.home (Ask id k (n + 1)) t)

-- a commit that is put aside before, or behind
asks_aside : (k n : ℕ) (ids : List Id) (ws : List Waits) (t : Tables) → with_asks k n ids (record t { pending = ws }) ≡ record (with_asks k n ids t) { pending = ws }
asks_aside k n [] ws t = refl
asks_aside k n (id ∷ ids) ws t = asks_aside k (n + 1) ids ws (with_mail id.home (Ask id k (n + 1)) t)

some_asked : (n : ℕ) (ps : List ℕ) → 1 ≤ length ps → asked_at n ps ≢ []
some_asked n [] some e = absurd (omega (arith, some))
some_asked n (p ∷ ps) some e = grind arith

-- ---- from rest to rest

module _ (act_of : ℕ → ℕ → ℕ → State → Act → Outcome) (t : Tables) (entries : List Entry) (h : Stands act_of t entries) (i j : ℕ) (job : Job) (out : Outcome) (x : Standing)
    (runs : slice_get t.running i ≡ Some job.action) (stands : slice_get t.objects j ≡ Some x) (found : find (is_standing (target_of job.action)) t.objects ≡ Some x)
    (at : job.at ≡ t.here) (kind : job.kind ≡ x.object.kind) (state : job.state ≡ x.state) (few : (t.localities ≤ 64) × (job.at < t.localities))
    (later : List Id) (none : AllByRecursion (λ (id : Id). id.log ≡ None) later) (places : List ℕ) where
  abbrev r : Rules
  r = rules_of act_of t.localities t.profile

  abbrev many : ℕ
  many = length (job.state.ids ++ (plain job.action).ids)

  -- what it has
  abbrev first : Stock
  first = record { hand = hand_ids job.state (plain job.action) later; places = places }

  -- its stock, once what it has is split
  abbrev pub split : Stock
  split = ahead (length (job.state.ids ++ (plain job.action).ids)) (record { hand = hand_ids job.state (plain job.action) later; places = places })

  abbrev pub short : List ℕ
  short = short_places (length (job.state.ids ++ (plain job.action).ids)) (ahead (length (job.state.ids ++ (plain job.action).ids)) (record { hand = hand_ids job.state (plain job.action) later; places = places }))

  abbrev pub lacking : List Id
  lacking = map (id_at split.hand) short

  -- it waits
  abbrev pub waits : Waits
  waits = waits_with job out t.localities (asked_at t.asked short) (stripped short split)

  abbrev lent : Tables
  lent = record t { running = remove t.running i; objects = set t.objects j (record { object = x.object; state = bare_state x.state }) }

  -- where it leads
  abbrev pub waited : Tables
  waited = record (with_asks t.here t.asked lacking (record lent { pending = t.pending ++ waits ∷ [] })) { asked = t.asked + length lacking }

  abbrev w : Waits
  w = waits_with job out t.localities [] first

  abbrev begun : Turn
  begun = record (at_rest lent) { working = w ∷ [] }

  pub wait_stands : AreWithin first.hand places → AllByRecursion (λ p. HasLeastCredit (id_at split.hand p)) short → 1 ≤ length short → job.action.code ≢ 1 → HasSplit t.profile.credit_log waits
      → Stands act_of waited (entries ++ at_all t.here (first_cuts many 0 first.hand places ++ asked_events lacking))
  wait_stands within least some stays split_so =
      let fits : many ≤ length first.hand = omega (arith, length-append job.state.ids ((plain job.action).ids ++ later), length-append (plain job.action).ids later, length-append job.state.ids (plain job.action).ids) in
      let longer : many ≤ length split.hand = omega (arith, fits, (ahead_is many first fits within).longer) in
      let one = ahead_steps r w [] first.hand places refl (record begun { working = [] }) many 0 first refl (omega (arith, fits)) within (omega arith) (λ q le lt. (refl, refl)) in
      let m : Turn = record (with_hand w [] split.hand (record begun { working = [] })) { last = one.0 } in
      let two = asks_steps r m w [] [] short lacking split refl refl (shorts_can many 0 many split split.hand (omega arith) longer (λ q from low. refl) least) in
      let asked : Turn = record (asking_turn w [] (stripped short split).hand (asked_at t.asked short) m) {
        last = two.0;
        tables = record (with_asks t.here t.asked lacking lent) { asked = t.asked + length lacking };
      } in
      let aside : Tables = record (with_asks t.here t.asked lacking lent) { asked = t.asked + length lacking; pending = (with_asks t.here t.asked lacking lent).pending ++ waits ∷ [] } in
      let rest = asks_rest t.here t.asked lacking lent in
      let pauses : Step r asked Pause (record (at_rest aside) { last = two.0 }) = record {
        w = record w { hand = (stripped short split).hand; asked = asked_at t.asked short };
        rest = [];
        works = refl;
        places = (stripped short split).places;
        lacks = some_asked t.asked short some;
        stays = stays;
        split = subst (λ (z : Tables). HasSplit z.profile.credit_log waits) (sym rest) split_so;
        now = refl;
      } in
      let cuts_of : List Event = first_cuts many 0 first.hand places in
      let labels : List Label = map (λ e. Writes e) cuts_of ++ (map (λ e. Writes e) (asked_events lacking) ++ Pause ∷ []) in
      let steps : Steps r begun labels (record (at_rest aside) { last = two.0 }) =
      steps_append r begun m (record (at_rest aside) { last = two.0 }) (map (λ e. Writes e) cuts_of) (map (λ e. Writes e) (asked_events lacking) ++ Pause ∷ []) one.1
      (steps_append r m asked (record (at_rest aside) { last = two.0 }) (map (λ e. Writes e) (asked_events lacking)) (Pause ∷ []) two.1 (record (at_rest aside) { last = two.0 }, pauses, refl)) in
      let ends : aside ≡ waited =
      ap (λ (z : Tables). record (with_asks t.here t.asked lacking lent) { asked = t.asked + length lacking; pending = z.pending ++ waits ∷ [] }) rest
      ∙ ap (λ (z : Tables). record z { asked = t.asked + length lacking }) (sym (asks_aside t.here t.asked lacking (t.pending ++ waits ∷ []) lent)) in
      subst (λ z. Stands act_of z (entries ++ at_all t.here (cuts_of ++ asked_events lacking))) ends
      (subst (λ es. Stands act_of aside (entries ++ at_all t.here es)) writes
      (turn_stands act_of t aside entries (Suspend ∷ labels) two.0 h (begun, begins r t i j job out x runs stands found at kind state few later none places, steps)))
    where
      writes : written (map (λ e. Writes e) (first_cuts many 0 first.hand places) ++ (map (λ e. Writes e) (asked_events lacking) ++ Pause ∷ [])) ≡ first_cuts many 0 first.hand places ++ asked_events lacking
      writes = simp (written_append, written_events, append-nil)
