-- An action ends: what holds of what it leaves, and that it is done, or fails.
use Rattle.std.proofs.lemmas.List.Edits.{length-remove}
use Rattle.hpx_part.proofs.Keyed.{slice_get_less}
use Rattle.hpx_steps.proofs.Common.{eq-eqb, is_move, Act, Agree, Agree-found, AllByRecursion, AreMade, AskedFor, Bool, Commits, Done, Due, Ends, Entry, Event, Fails, HasCommits, HasPlaces, HasRightCredit, Id, IsAct, IsCommit, IsDue, IsSound, IsTidy, Item, Leads, List, Loose, Name, Option, Refusal, Remains, Row, Rules, Some, Standing, StandsHere, State, TidyAt, Token, Turn, View, Waits, Working, [], action_of, all_append, answered_by, any_counted, ap, arith, asking, asks_under, bare, bare_act, bare_due, bare_standing, bare_state, causes, commits, cond, count_by, count_in, counted_any, counts_of, drop, due_ids, due_with, ends, failure, false, filter, find, find_passes, fired_of, follows_done, follows_fail, freeing, given_to, goes, hopping, id_at, ids_named, inl, is_act, is_answer, is_asked, is_recorded, is_standing, joined, length, length-append, list_any, map, map-append, means, name_of, names_of, option_to_list, own, own_ids, plain, refl, refusal_of, refusals_of, rider_of, same_name-refl, same_object, same_refusal, session, set, some_same, split_get, split_set, state_after, subst, suc, sum_by, sum_by-append, sum_by-cons, sym, take, target_of, tokens, tokens_of, true, unpaid, view, weigh, with_credit, worth, wrote, zero, ℕ, ◌&&◌, ◌++◌, ◌+◌, ◌<◌, ◌==◌, ◌||◌, ◌∙◌, ◌∷◌, ◌≡◌, ◌≤◌, grants_here, leads_away, tells_come, flow, tells_own, brought, moved_by, Arrival, Moved, CameWith, CameAlone, Brought, Untold, arrival_of, same_arrival, move_of, None, and_true, same_object-true, eqb-true, is_some, not, remove, slice_get, one_if, ◌⊎◌, inr}
use Rattle.hpx_journal.specs.Entries.{same_name}
use Rattle.hpx_steps.proofs.Tools.{Changes, Keeps, Sees, all_come, all_with, among_at, as_seen, bare_all, bare_lent, by_rows, credit_tokens, due_change, end_commits, fewer, first_goes, found-bare, holding, ids_append, ids_each, ids_flat, loose_change, more_come, no_tokens, none_sum, objects_change, one_turns, retidy, ridden_sum, rider_all, same_map, sees_covers, sees_leads, single_set, stand_set, target-bare, then, told_as, total, total_append, total_map, view_asking, view_covered, view_worth, working_change, same_tracks, same_says, same_flows, Trade, brought_change, untold_change, none_trade, one_goes, zeros}

any_bare : (o : Id) (ids : List Id) → list_any (same_object o) (map bare ids) ≡ list_any (same_object o) ids
any_bare o [] = refl
any_bare o (id ∷ ids) = ap (λ b. same_object o id || b) (any_bare o ids)

-- one that the plain action names is one that the action names
ridden_any : (p : Id → Bool) (xs : List Id) (a : Act) → IsAct a → list_any p (xs ++ (plain a).ids) ≡ true → list_any p (xs ++ a.ids) ≡ true
ridden_any p xs a shape h = any_counted p (xs ++ a.ids) (omega (arith, counted_any p (xs ++ (plain a).ids) h, sum_by-append (counts_of p), ridden_sum (counts_of p) a shape))

any_turned : (p : Id → Bool) (xs ys : List Id) → list_any p (xs ++ ys) ≡ true → list_any p (ys ++ xs) ≡ true
any_turned p xs ys h = any_counted p (ys ++ xs) (omega (arith, counted_any p (xs ++ ys) h, sum_by-append (counts_of p)))

-- what is told is told of one that came
and_less : (b c : Bool) → one_if (b && c) ≤ one_if c
and_less true c = omega arith
and_less false c = omega arith

-- the arrival that is told from others, by its name and its object
arrival_is : (a b c : Arrival) → same_arrival a b ≡ true → same_arrival a c ≡ true → b ≡ c
arrival_is a b c h k =
    let p = same_is a b h in
    let q = same_is a c k in p ∙ sym q
  where
    log_none : (x : Option ℕ) → not (is_some x) ≡ true → x ≡ None
    log_none None e = refl
    log_none (Some n) e = cc

    same_is : (a b : Arrival) → same_arrival a b ≡ true → b ≡ record { name = a.name; object = bare a.object }
    same_is a b h =
        let k = and_true (same_name a.name b.name) (same_object a.object b.object && not (is_some b.object.log)) h in
        let n = and_true (a.name.origin == b.name.origin) (a.name.serial == b.name.serial) k.0 in
        let o = and_true (same_object a.object b.object) (not (is_some b.object.log)) k.1 in
        let object : b.object ≡ bare a.object = ap (λ l. record b.object { log = l }) (log_none b.object.log o.1) ∙ sym (same_object-true a.object b.object o.0) in
        sym (ap (λ m. record { name = record { origin = m; serial = a.name.serial }; object = bare a.object }) (eqb-true a.name.origin b.name.origin n.0)
        ∙ (ap (λ m. record { name = record { origin = b.name.origin; serial = m }; object = bare a.object }) (eqb-true a.name.serial b.name.serial n.1)
        ∙ ap (λ z. record { name = b.name; object = z }) (sym object)))

-- where it is none of these
none_brought : (a c : Arrival) → same_arrival a c ≡ true → (bs : List Arrival) → ((i : ℕ) → slice_get bs i ≡ Some c → ⊥) → sum_by (λ b. one_if (same_arrival a b)) bs ≡ 0
none_brought a c is [] k = refl
none_brought a c is (b ∷ bs) k = each (same_arrival a b) refl (none_brought a c is bs (λ i e. k (suc i) e))
  where
    each : (t : Bool) → same_arrival a b ≡ t → sum_by (λ b. one_if (same_arrival a b)) bs ≡ 0 → sum_by (λ b. one_if (same_arrival a b)) (b ∷ bs) ≡ 0
    each true e rest = absurd (k 0 (ap Some (arrival_is a b c e is)))
    each false e rest = omega (arith, sum_by-cons (λ b. one_if (same_arrival a b)) b bs, ap one_if e, rest)

module _ (r : Rules) (s : Turn) (entries : List Entry) (h : IsSound r s entries) (w : Waits) (rest : List Waits) (j : ℕ) (x : Standing) (left : Remains) (moved : Moved)
    (g : Ends s (name_of w.job.action) w rest j x left moved) where
  abbrev act : Act
  act = w.job.action

  abbrev new : Standing
  new = record { object = x.object; state = left.state }

  abbrev pub now : Turn
  now = ends j w rest x left moved s

  abbrev dues : List Item
  dues = map (λ d. IsDue d) left.due

  -- what is loose then: its rider, and what is named nowhere
  abbrev rest_ids : List Id
  rest_ids = with_credit (rider_of w.job.action) ++ left.loose

  abbrev looses : List Item
  looses = map (λ i. Loose i) (with_credit (rider_of w.job.action) ++ left.loose)

  -- its object came with it, or with another
  abbrev Told : Type 0
  Told = CameWith s w.job.action moved ⊎ CameAlone s w.job.action moved

  abbrev away : Told → List Item
  away (inl k) = Brought (arrival_of w.job.action) ∷ []
  away (inr k) = []

  abbrev news : Told → List Item
  news (inl k) = Untold (bare (target_of w.job.action)) ∷ []
  news (inr k) = []

  -- once that is known
  abbrev noted : Turn
  noted = record s { untold = moved.untold; tables = record s.tables { came = moved.came } }

  abbrev less : Turn
  less = record noted { working = rest }

  abbrev settled : Turn
  settled = record less { tables = record noted.tables { objects = set s.tables.objects j new } }

  notes : (k : Told) → Changes (away k) (news k) s noted
  notes (inl k) =
      subst (λ c. Changes (Brought (arrival_of act) ∷ []) (Untold (bare (target_of act)) ∷ []) s (record s { untold = moved.untold; tables = record s.tables { came = c } })) (sym k.came)
      (subst (λ u. Changes (Brought (arrival_of act) ∷ []) (Untold (bare (target_of act)) ∷ []) s (record s { untold = u; tables = record s.tables { came = remove s.tables.came k.i } })) (sym k.untold)
      (then (Brought (arrival_of act) ∷ []) [] [] (Untold (bare (target_of act)) ∷ []) s (record s { tables = record s.tables { came = remove s.tables.came k.i } })
      (record s { untold = s.untold ++ bare (target_of act) ∷ []; tables = record s.tables { came = remove s.tables.came k.i } })
      (brought_change (Brought (arrival_of act) ∷ []) [] s (remove s.tables.came k.i) (one_goes (λ y. Brought y) s.tables.came k.i (arrival_of act) k.there))
      (untold_change [] (Untold (bare (target_of act)) ∷ []) (record s { tables = record s.tables { came = remove s.tables.came k.i } }) (s.untold ++ bare (target_of act) ∷ [])
      (more_come (λ y. Untold y) s.untold (bare (target_of act) ∷ [])))))
  notes (inr k) =
      subst (λ c. Changes [] [] s (record s { untold = moved.untold; tables = record s.tables { came = c } })) (sym k.came)
      (subst (λ u. Changes [] [] s (record s { untold = u })) (sym k.untold) (untold_change [] [] s s.untold (none_trade (λ y. Untold y) s.untold)))

  pub ends_then : Changes (Working w ∷ StandsHere x ∷ []) (StandsHere new ∷ (dues ++ looses)) noted now
  ends_then = then (Working w ∷ []) [] (StandsHere x ∷ []) (StandsHere new ∷ (dues ++ looses)) noted less now
      (working_change (Working w ∷ []) [] noted rest (first_goes (λ y. Working y) s.working w rest g.works))
      (then (StandsHere x ∷ []) (StandsHere new ∷ []) [] (dues ++ looses) less settled now
      (objects_change (StandsHere x ∷ []) (StandsHere new ∷ []) less (set s.tables.objects j new) (one_turns (λ y. StandsHere y) s.tables.objects j x new g.stands))
      (then [] dues [] looses settled (record settled { due = left.due }) now
      (due_change [] dues settled left.due (all_come (λ y. IsDue y) s.due left.due g.due))
      (loose_change [] looses (record settled { due = left.due }) (s.loose ++ rest_ids) (more_come (λ y. Loose y) s.loose rest_ids))))

  pub change : Changes (away g.told ++ Working w ∷ StandsHere x ∷ []) (news g.told ++ StandsHere new ∷ (dues ++ looses)) s now
  change = then (away g.told) (news g.told) (Working w ∷ StandsHere x ∷ []) (StandsHere new ∷ (dues ++ looses)) s noted now (notes g.told) ends_then

  -- what weighs the same untold
  even : (f : Item → ℕ) → f (Brought (arrival_of w.job.action)) ≡ f (Untold (bare (target_of w.job.action))) → weigh f noted ≡ weigh f s
  even f same = each g.told (notes g.told)
    where
      each : (k : Told) → Changes (away k) (news k) s noted → weigh f noted ≡ weigh f s
      each (inl k) c = let e : weigh f noted + (f (Brought (arrival_of w.job.action)) + 0) ≡ weigh f s + (f (Untold (bare (target_of w.job.action))) + 0) = c.0 f in omega (arith, e, same)
      each (inr k) c = let e : weigh f noted + 0 ≡ weigh f s + 0 = c.0 f in omega (arith, e)

  -- a weight before and after, once that is known
  moves_then : (f : Item → ℕ) → weigh f now + (f (Working w) + f (StandsHere x)) ≡ weigh f noted + (f (StandsHere new) + (sum_by (λ d. f (IsDue d)) left.due + sum_by (λ i. f (Loose i)) (with_credit (rider_of w.job.action) ++ left.loose)))
  moves_then f =
      let k : weigh f now + (f (Working w) + (f (StandsHere x) + 0)) ≡ weigh f noted + (f (StandsHere new) + total f (dues ++ looses)) = ends_then.0 f in
      omega (arith, k, total_append f dues looses, total_map (λ d. IsDue d) f left.due, total_map (λ i. Loose i) f rest_ids)

  -- a weight before and after
  pub moves : (f : Item → ℕ) → f (Brought (arrival_of w.job.action)) ≡ f (Untold (bare (target_of w.job.action)))
      → weigh f now + (f (Working w) + f (StandsHere x)) ≡ weigh f s + (f (StandsHere new) + (sum_by (λ d. f (IsDue d)) left.due + sum_by (λ i. f (Loose i)) (with_credit (rider_of w.job.action) ++ left.loose)))
  moves f same = omega (arith, moves_then f, even f same)

  -- one that sees none of these
  pub stays : (f : Item → ℕ) → f (Brought (arrival_of w.job.action)) ≡ f (Untold (bare (target_of w.job.action))) → f (Working w) ≡ 0 → f (StandsHere x) ≡ 0 → f (StandsHere new) ≡ 0
      → ((d : Due) → f (IsDue d) ≡ 0) → ((i : Id) → f (Loose i) ≡ 0) → weigh f now ≡ weigh f s
  stays f m a b c d e = omega (arith, moves f m, a, b, c, none_sum (λ y. f (IsDue y)) left.due d, none_sum (λ y. f (Loose y)) rest_ids e)

  -- an object came with a MOVE that is here, and not done
  arrived_now : (a : Arrival) → weigh (brought a) now ≤ weigh (moved_by a) now
  arrived_now a = each g.told (notes g.told)
    where
      zero_due : sum_by (λ d. 0) left.due ≡ 0
      zero_due = none_sum (λ d. 0) left.due (λ d. refl)

      zero_loose : sum_by (λ i. 0) rest_ids ≡ 0
      zero_loose = none_sum (λ i. 0) rest_ids (λ i. refl)

      brought_then : weigh (brought a) now ≡ weigh (brought a) noted
      brought_then = omega (arith, moves_then (brought a), zero_due, zero_loose)

      moved_then : weigh (moved_by a) now + move_of a w.job.action ≡ weigh (moved_by a) s
      moved_then = omega (arith, moves_then (moved_by a), zero_due, zero_loose, even (moved_by a) refl)

      brought_sum : weigh (brought a) s ≡ sum_by (λ b. one_if (same_arrival a b)) s.tables.came
      brought_sum = omega (
        arith,
        zeros s.came,
        zeros s.mailed,
        zeros s.tables.desk,
        zeros s.tables.outgoing,
        zeros s.tables.queued,
        zeros s.tables.leaving,
        zeros s.tables.stray,
        zeros s.tables.accepted,
        zeros s.tables.running,
        zeros s.tables.pending,
        zeros s.working,
        zeros s.tables.objects,
        zeros s.due,
        zeros s.loose,
        zeros s.untold,
      )

      each : (k : Told) → Changes (away k) (news k) s noted → weigh (brought a) now ≤ weigh (moved_by a) now
      each (inl k) c =
          let e : weigh (brought a) noted + (one_if (same_arrival a (arrival_of w.job.action)) + 0) ≡ weigh (brought a) s + 0 = c.0 (brought a) in
          omega (arith, e, brought_then, moved_then, h.arrived a, and_less (w.job.action.code == 1) (same_arrival a (arrival_of w.job.action)))
      each (inr k) c =
          let e : weigh (brought a) noted + 0 ≡ weigh (brought a) s + 0 = c.0 (brought a) in
          alone (w.job.action.code == 1) refl (same_arrival a (arrival_of w.job.action)) refl k e
        where
          alone : (b : Bool) → (w.job.action.code == 1) ≡ b → (t : Bool) → same_arrival a (arrival_of w.job.action) ≡ t → CameAlone s w.job.action moved
              → weigh (brought a) noted + 0 ≡ weigh (brought a) s + 0 → weigh (brought a) now ≤ weigh (moved_by a) now
          alone true is true at k e = omega (arith, e, brought_then, brought_sum, none_brought a (arrival_of w.job.action) at s.tables.came (k.none (eqb-true w.job.action.code 1 is)))
          alone true is false at k e = let m : move_of a w.job.action ≡ 0 = rw (is, at) refl in omega (arith, e, brought_then, moved_then, m, h.arrived a)
          alone false is t at k e = let m : move_of a w.job.action ≡ 0 = rw is refl in omega (arith, e, brought_then, moved_then, m, h.arrived a)

  pub its : IsCommit s.tables.here s.tables.localities w
  its = h.tidy (Working w) (rw g.works (inl refl))

  kept : TidyAt s (StandsHere x)
  kept = h.tidy (StandsHere x) (among_at s.tables.objects j x g.stands)

  pub tidy : IsTidy now
  tidy = holding (TidyAt now) (news g.told ++ StandsHere new ∷ (dues ++ looses)) s now change.1
      (λ y m. retidy s.tables.here s.tables.localities s.tables.profile.credit_log s.tables.births s.tables.births s.tables.objects (set s.tables.objects j new) (omega arith)
      (λ o. stand_set (is_standing o) s.tables.objects j x new g.stands refl) y (h.tidy y m))
      (all_append (TidyAt now) (news g.told) (StandsHere new ∷ (dues ++ looses)) (told_fit g.told) (
        (g.kept, kept.1),
        all_append (TidyAt now) dues looses (all_of (λ d. IsDue d) left.due g.fits) (all_of (λ i. Loose i) rest_ids (all_append HasRightCredit (with_credit (rider_of w.job.action)) left.loose
            (all_with (rider_of w.job.action) (rider_all HasRightCredit w.job.action its.job.action.sent.shape its.job.action.sent.credit)) g.given_up)),
      ))
    where
      told_fit : (k : Told) → AllByRecursion (TidyAt now) (news k)
      told_fit (inl k) = (tt, tt)
      told_fit (inr k) = tt

      all_of : {X : Type 0} (c : X → Item) (xs : List X) → AllByRecursion (λ y. TidyAt now (c y)) xs → AllByRecursion (TidyAt now) (map c xs)
      all_of c [] k = tt
      all_of c (y ∷ ys) k = (k.0, all_of c ys k.1)

  pub same : same_object (target_of w.job.action) x.object ≡ true
  same = find_passes (is_standing (target_of w.job.action)) s.tables.objects x g.found

  pub was : HasCommits s.tables.objects s.tables.running (w ∷ rest ++ s.tables.pending)
  was = subst (λ ws. HasCommits s.tables.objects s.tables.running (ws ++ s.tables.pending)) g.works h.commits

  -- its object stood as its job found it, without credits
  pub lends : x.state ≡ bare_state w.job.state
  lends = ap (λ (y : Standing). y.state) (some_same x was.each.0.standing (sym g.found ∙ was.each.0.found)) ∙ was.each.0.state

  pub commits_now : HasCommits (set s.tables.objects j new) s.tables.running (rest ++ s.tables.pending)
  commits_now = end_commits s.tables.objects s.tables.running w (rest ++ s.tables.pending) was h.places.single j x new g.stands same refl
      (λ k. ap (λ y. record { object = x.object; state = y }) (g.plain k)) g.credit lends

  pub places_now : HasPlaces s.tables.here s.tables.births (set s.tables.objects j new) s.tables.records s.tables.leaving
  places_now = grind (arith, stand_set, single_set)

  pub dealt : (f : Token → ℕ) → sum_by f (tokens s) ≡ sum_by f (tokens now)
  dealt f = omega (
    arith,
    view_worth f,
    moves (worth f) refl,
    ap (λ (y : State). sum_by f (tokens_of y.ids)) lends,
    no_tokens f w.job.state.ids,
    g.deals f,
    ids_each f rest_ids,
    ids_append f (with_credit (rider_of w.job.action)) left.loose,
    credit_tokens f (rider_of w.job.action),
    ids_flat f due_ids left.due,
  )

  abbrev pub front : List Act
  front = map bare_act s.tables.running

  abbrev pub back : List Act
  back = map bare_act (map action_of (rest ++ s.tables.pending))

  pub fires : (view s).fired ≡ front ++ bare_act w.job.action ∷ back
  fires = ap (λ ws. map bare_act (fired_of s.tables.running (ws ++ s.tables.pending))) g.works ∙ map-append bare_act s.tables.running (w.job.action ∷ map action_of (rest ++ s.tables.pending))

  pub fires_then : front ++ back ≡ (view now).fired
  fires_then = sym (map-append bare_act s.tables.running (map action_of (rest ++ s.tables.pending)))

  pub bare_x : bare_state x.state ≡ x.state
  bare_x = bare_lent x.state w.job.state lends

  pub found : find (is_standing (target_of (bare_act w.job.action))) (map bare_standing s.tables.objects) ≡ Some (bare_standing x)
  found = ap (λ o. find (is_standing o) (map bare_standing s.tables.objects)) (target-bare w.job.action) ∙ found-bare (target_of w.job.action) s.tables.objects x g.found

  -- nothing more is asked for
  pub none_left : filter is_asked (own_ids w) ≡ []
  none_left = none_of_these (length (ids_named w)) w.hand (λ p lt. unasked p lt)
    where
      unasked : (p : ℕ) → p < length (ids_named w) → is_asked (id_at w.hand p) ≡ false
      unasked p lt = each (is_asked (id_at w.hand p)) (sym (its.once p lt) ∙ ap (λ (xs : List AskedFor). count_by (λ (y : AskedFor). y.place == p) xs) g.lacks)
        where
          each : (b : Bool) → ◌≡◌ {A = ℕ} (cond b 1 0) 0 → b ≡ false
          each true e = absurd (omega (arith, e))
          each false e = refl

      none_of_these : (n : ℕ) (ids : List Id) → ((p : ℕ) → p < n → is_asked (id_at ids p) ≡ false) → filter is_asked (take n ids) ≡ []
      none_of_these zero ids k = refl
      none_of_these (suc n) [] k = refl
      none_of_these (suc n) (y ∷ ys) k = let first : is_asked y ≡ false = k 0 (omega arith) in rw first (none_of_these n ys (λ p lt. k (suc p) (omega (arith, lt))))

  pub asking_same : (o : Id) → count_by (same_object o) (view s).asking ≡ count_by (same_object o) (view now).asking
  asking_same o = omega (arith, view_asking o, stays (asking o) refl (ap (names_of o) none_left) refl refl (λ d. refl) (λ i. refl))

  abbrev pub refused : List Refusal
  refused = refusal_of w.job.action w.refused

  pub refusals_split : refusals_of (commits s) ≡ refused ++ refusals_of (rest ++ s.tables.pending)
  refusals_split = ap (λ ws. refusals_of (ws ++ s.tables.pending)) g.works

  pub refusals_less : (y : Refusal) → list_any (same_refusal y) (refusals_of (rest ++ s.tables.pending)) ≡ true → list_any (same_refusal y) (refusals_of (commits s)) ≡ true
  refusals_less y k = grind arith

  pub failing_less : length (refusals_of (commits s)) ≡ length refused + length (refusals_of (rest ++ s.tables.pending))
  failing_less = ap (λ (xs : List Refusal). length xs) refusals_split ∙ length-append refused (refusals_of (rest ++ s.tables.pending))

  -- so it is seen with an entry
  ends_seen : (v : View) (e : Event) → as_seen v (wrote e now) ≡ view (wrote e now)
      → v ≡ record v { waiting = (view s).waiting; fired = (view (wrote e now)).fired; objects = (view (wrote e now)).objects; travels = (view s).travels; tokens = tokens s; asking = (view s).asking; asks = (view s).asks; live = (view s).live; dead = (view s).dead; refusals = (view s).refusals }
      → length (refusals_of (rest ++ s.tables.pending)) ≤ v.failing → Sees v (wrote e now)
  ends_seen v e rest same failing = record {
    rest = rest;
    waiting = λ f. ap (λ (u : View). sum_by f u.waiting) same;
    fired = λ f. ap (λ (u : View). sum_by f u.fired) same;
    objects = λ f. ap (λ (u : View). sum_by f u.objects) same;
    travels = λ f. ap (λ (u : View). sum_by f u.travels) same;
    tokens = λ f fair. ap (λ (u : View). sum_by f u.tokens) same ∙ dealt f;
    asking = λ o. ap (λ (u : View). count_by (same_object o) u.asking) same ∙ asking_same o;
    asks = λ o. ap (λ (u : View). count_by (same_object o) u.asks) same;
    live = λ o home. ap (λ (u : View). count_in (find (is_recorded o) u.live)) same;
    dead = λ o. omega (arith, ap (λ (u : View). count_by (same_object o) u.dead) same);
    refusals = λ y k. ap (λ (u : View). list_any (same_refusal y) u.refusals) same ∙ refusals_less y k;
    failing = failing;
  }

  -- so it is with its Done
  pub done_keeps : (failed : Bool) → Leads r (view s) (Done (name_of w.job.action) failed ∷ []) (view (wrote (Done (name_of w.job.action) failed) now))
      → Keeps r s (wrote (Done (name_of w.job.action) failed) now) (Done (name_of w.job.action) failed)
  done_keeps failed leads = record {
    leads = leads;
    tidy = tidy;
    places = places_now;
    commits = commits_now;
    numbered = fewer s (wrote (Done (name_of w.job.action) failed) now) (omega arith) (λ n. omega (arith, stays (asks_under n) refl refl refl refl (λ d. refl) (λ i. refl)));
    pays = record {
      rows = λ row own. omega (arith, stays (unpaid row) (even_row row) refl refl refl (λ d. refl) (λ i. refl), costs row);
      once = omega (arith, stays hopping refl refl refl refl (λ d. refl) (λ i. refl));
      fired = omega (arith, stays joined refl refl refl refl (λ d. refl) (λ i. refl));
      frees = λ o. omega (arith, stays (freeing o) refl refl refl refl (λ d. refl) (λ i. refl));
    };
    orders = record { sent = tt; asked = grind arith; given = λ k d o n. omega (arith, stays (given_to k o n) refl refl refl refl (λ y. refl) (λ i. refl)) };
    says = same_says (λ q k. 0) (λ q. 0) s (wrote (Done (name_of w.job.action) failed) now) refl (λ q k. omega (arith, stays (tells_come q k) refl refl refl refl (λ d. refl) (λ i. refl))) (λ q. omega (arith, stays (tells_own q) refl refl refl refl (λ d. refl) (λ i. refl)));
    arrived = λ a. arrived_now a;
    flows = same_flows r (Some (Done (name_of w.job.action) failed)) s (wrote (Done (name_of w.job.action) failed) now) refl (λ o. refl) (λ f own. omega (arith, stays (flow s.tables.here f) refl refl refl refl (λ d. refl) (λ i. refl)));
    tracks = same_tracks (λ q. 0) (λ q. 0) s (wrote (Done (name_of w.job.action) failed) now) (λ q. refl) refl refl (λ q. omega (arith, stays (grants_here q) refl refl refl refl (λ d. refl) (λ i. refl)))
        (λ q. omega (arith, stays (leads_away s.tables.here q) refl refl refl refl (λ d. refl) (λ i. refl)));
    counts = record {
      here = refl;
      localities = refl;
      profile = refl;
      born = omega arith;
      few = omega arith;
      asked = omega arith;
      sent = omega arith;
      taken = omega arith;
      few_answers = omega (arith, one_at_most (is_answer w.job.action));
      answered = λ l shown.
          let k : find (is_act (name_of w.job.action)) l.fired ≡ Some (bare_act w.job.action) =
          Agree-found is_act name_of means own l.fired front back (bare_act w.job.action) (subst (Agree is_act l.fired) fires shown) in
          omega (arith, one_done (find (is_act (name_of w.job.action)) l.fired) l.done k, answer-bare w.job.action);
      moved = λ l shown.
          let k : find (is_act (name_of w.job.action)) l.fired ≡ Some (bare_act w.job.action) =
          Agree-found is_act name_of means own l.fired front back (bare_act w.job.action) (subst (Agree is_act l.fired) fires shown) in
          omega (arith, one_move (find (is_act (name_of w.job.action)) l.fired) l.done k, came_less g.told);
    };
  }
    where
      one_done : (o : Option Act) (done : List Act) → o ≡ Some (bare_act w.job.action)
          → count_by is_answer (option_to_list o ++ done) ≡ answered_by (Some (bare_act w.job.action)) + count_by is_answer done
      one_done o done e = ap (λ y. count_by is_answer (option_to_list y ++ done)) e ∙ sum_by-cons (counts_of is_answer) (bare_act w.job.action) done

      one_move : (o : Option Act) (done : List Act) → o ≡ Some (bare_act w.job.action)
          → count_by is_move (option_to_list o ++ done) ≡ one_if (w.job.action.code == 1) + count_by is_move done
      one_move o done e = ap (λ y. count_by is_move (option_to_list y ++ done)) e ∙ sum_by-cons (counts_of is_move) (bare_act w.job.action) done

      -- a MOVE with which its object came is done
      came_less : Told → length s.tables.came ≤ length moved.came + one_if (w.job.action.code == 1)
      came_less (inl k) = omega (
        arith,
        ap (λ (c : List Arrival). length c) k.came,
        length-remove s.tables.came k.i (slice_get_less s.tables.came k.i (arrival_of w.job.action) k.there),
        ap one_if (eq-eqb w.job.action.code 1 k.moves),
      )
      came_less (inr k) = omega (arith, ap (λ (c : List Arrival). length c) k.came)

      answer-bare : (a : Act) → answered_by (Some (bare_act a)) ≡ answered_by (Some a)
      answer-bare a = ap (λ o. cond ((a.code == 3) && same_object session o) 1 0) (target-bare a)

      one_at_most : (b : Bool) → cond b 1 0 ≤ 1
      one_at_most true = omega arith
      one_at_most false = omega arith

      even_row : (row : Row) → unpaid row (Brought (arrival_of w.job.action)) ≡ unpaid row (Untold (bare (target_of w.job.action)))
      even_row = by_rows (λ row. unpaid row (Brought (arrival_of w.job.action)) ≡ unpaid row (Untold (bare (target_of w.job.action)))) refl refl refl refl refl refl refl refl refl refl refl (λ o. refl) (λ o to. refl) (λ o to. refl) (λ o to. refl) (λ o. refl)

      costs : (row : Row) → goes r row (Done (name_of w.job.action) failed) ≡ causes r row (Done (name_of w.job.action) failed)
      costs = by_rows (λ row. goes r row (Done (name_of w.job.action) failed) ≡ causes r row (Done (name_of w.job.action) failed)) refl refl refl refl refl refl refl refl refl refl refl (λ o. refl) (λ o to. refl) (λ o to. refl) (λ o to. refl) (λ o. refl)

  -- ---- it is done

  module _ (right : w.outcome ≡ r.outcome_of x.object.kind s.tables.here x.state (plain (bare_act w.job.action))) (made : AreMade w.outcome.makes s.fresh (map bare_standing s.tables.objects))
      (says : bare_state left.state ≡ state_after x.state (plain (bare_act w.job.action)) s.fresh w.outcome)
      (leaves : map bare_due left.due ≡ due_with x.state (plain (bare_act w.job.action)) s.fresh w.outcome) where
    abbrev done : Turn
    done = wrote (Done (name_of w.job.action) false) (ends j w rest x left moved s)

    abbrev before : List Standing
    before = map bare_standing (take j s.tables.objects)

    abbrev behind : List Standing
    behind = map bare_standing (drop (suc j) s.tables.objects)

    objects_are : (view s).objects ≡ before ++ bare_standing x ∷ behind
    objects_are = ap (map bare_standing) (split_get s.tables.objects j x g.stands) ∙ simp map-append

    abbrev seen : View
    seen = record (view s) {
      fired = map bare_act s.tables.running ++ map bare_act (map action_of (rest ++ s.tables.pending));
      objects = before ++ record { object = bare x.object; state = state_after (bare_state x.state) (plain (bare_act act)) s.fresh w.outcome } ∷ behind;
      fresh = [];
      due = due_with (bare_state x.state) (plain (bare_act act)) s.fresh w.outcome;
      last = Some (Done (name_of w.job.action) false);
    }

    objects_then : before ++ record { object = bare x.object; state = state_after (bare_state x.state) (plain (bare_act act)) s.fresh w.outcome } ∷ behind ≡ (view done).objects
    objects_then =
        ap (λ y. before ++ record { object = bare x.object; state = y } ∷ behind) (ap (λ y. state_after y (plain (bare_act act)) s.fresh w.outcome) bare_x ∙ sym says)
        ∙ (sym (map-append bare_standing (take j s.tables.objects) (new ∷ drop (suc j) s.tables.objects)) ∙ ap (map bare_standing) (sym (split_set s.tables.objects j x new g.stands)))

    sees : Sees seen done
    sees = ends_seen seen (Done (name_of w.job.action) false) (ap (λ ds. record (view done) { due = ds }) (ap (λ y. due_with y (plain (bare_act act)) s.fresh w.outcome) bare_x ∙ sym leaves))
        (ap (λ fs. record seen { fired = fs }) fires_then ∙ ap (λ os. record seen { fired = (view done).fired; objects = os }) objects_then) (omega (arith, failing_less))

    pub committed_keeps : Keeps r s done (Done (name_of w.job.action) false)
    committed_keeps = done_keeps false (
      seen,
      follows_done r (view s) (map bare_act s.tables.running) (map bare_act (map action_of (rest ++ s.tables.pending))) before behind (bare_act act) (bare_standing x) w.outcome
          (ap (map bare_due) g.due) fires objects_are found (right ∙ ap (λ y. r.outcome_of x.object.kind s.tables.here y (plain (bare_act act))) (sym bare_x)) made
          (λ b. sees_covers r seen done sees (view_covered done tidy commits_now.lent)),
      sees_leads r seen done sees,
    )

  -- ---- it fails: it could get no credit

  module _ (fresh : s.fresh ≡ []) (o : Id) (was_refused : w.refused ≡ Some o) (says : bare_state left.state ≡ bare_state w.job.state)
      (leaves : map bare_due left.due ≡ failure (bare_act w.job.action)) where
    abbrev failed : Turn
    failed = wrote (Done (name_of w.job.action) true) (ends j w rest x left moved s)

    abbrev seen_failed : View
    seen_failed = record (view s) {
      fired = map bare_act s.tables.running ++ map bare_act (map action_of (rest ++ s.tables.pending));
      due = failure (bare_act act);
      failing = length (refusals_of (rest ++ s.tables.pending));
      last = Some (Done (name_of w.job.action) true);
    }

    objects_same : (view s).objects ≡ (view failed).objects
    objects_same = sym (same_map bare_standing s.tables.objects j x new g.stands (ap (λ y. record { object = bare x.object; state = y }) (says ∙ (sym lends ∙ sym bare_x))))

    sees_failed : Sees seen_failed failed
    sees_failed = ends_seen seen_failed (Done (name_of w.job.action) true)
        (ap (λ ds. record (view failed) { due = ds; fresh = s.fresh }) (sym leaves) ∙ ap (λ fs. record (view failed) { fresh = fs }) fresh)
        (ap (λ fs. record seen_failed { fired = fs }) fires_then ∙ ap (λ os. record seen_failed { fired = (view failed).fired; objects = os }) objects_same) (omega arith)

    -- an id of the action or of its object was refused
    named : list_any (same_object o) ((bare_act act).ids ++ (bare_standing x).state.ids) ≡ true
    named = subst (λ ids. list_any (same_object o) (map bare w.job.action.ids ++ ids) ≡ true) (sym (bare_all w.job.state.ids) ∙ ap (λ (y : State). map bare y.ids) (sym lends))
        (any_turned (same_object o) (map bare w.job.state.ids) (map bare w.job.action.ids)
        (ap (list_any (same_object o)) (sym (map-append bare w.job.state.ids w.job.action.ids)) ∙ (any_bare o (w.job.state.ids ++ w.job.action.ids) ∙ ridden_any (same_object o) w.job.state.ids w.job.action its.job.action.sent.shape (its.refused o was_refused))))

    pub failed_keeps : Keeps r s failed (Done (name_of w.job.action) true)
    failed_keeps = done_keeps true (
      seen_failed,
      follows_fail r (view s) (map bare_act s.tables.running) (map bare_act (map action_of (rest ++ s.tables.pending))) (bare_act act) (bare_standing x) (length (refusals_of (rest ++ s.tables.pending)))
          (ap (map bare_due) g.due) fresh fires found (grind (arith, refusals_split, same_name-refl, named)) (omega (arith, failing_less, ap (λ k. length (refusal_of w.job.action k)) was_refused))
          (λ b. sees_covers r seen_failed failed sees_failed (view_covered failed tidy commits_now.lent)),
      sees_leads r seen_failed failed sees_failed,
    )

-- under the name of its own action
own_ends : (s : Turn) (a : Name) (w : Waits) (rest : List Waits) (j : ℕ) (x : Standing) (left : Remains) (moved : Moved) → Ends s a w rest j x left moved → Ends s (name_of w.job.action) w rest j x left moved
own_ends s a w rest j x left moved g = subst (λ n. Ends s n w rest j x left moved) g.name g

pub done_step : (r : Rules) (s s' : Turn) (entries : List Entry) (a : Name) → IsSound r s entries → Commits r s a s' → Keeps r s s' (Done a false)
done_step r s s' entries a h g =
    told_as r s s' (λ n. Done n false) (λ n. ends g.j g.w g.rest g.x g.left g.moved s) a (name_of g.w.job.action) g.ending.name g.now
    (committed_keeps r s entries h g.w g.rest g.j g.x g.left g.moved (own_ends s a g.w g.rest g.j g.x g.left g.moved g.ending) g.right g.made g.says g.leaves)

pub failed_step : (r : Rules) (s s' : Turn) (entries : List Entry) (a : Name) → IsSound r s entries → Fails s a s' → Keeps r s s' (Done a true)
failed_step r s s' entries a h g =
    told_as r s s' (λ n. Done n true) (λ n. ends g.j g.w g.rest g.x g.left g.moved s) a (name_of g.w.job.action) g.ending.name g.now
    (failed_keeps r s entries h g.w g.rest g.j g.x g.left g.moved (own_ends s a g.w g.rest g.j g.x g.left g.moved g.ending) g.fresh g.refusal g.refused g.says g.leaves)
