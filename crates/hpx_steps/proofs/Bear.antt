-- A commit makes an object.
use Rattle.hpx_steps.proofs.Common.{Bears, Bool, Born, Entry, Event, HasPlaces, Id, IsBirth, IsCommit, IsSound, IsTidy, List, Make, None, Option, Record, Rules, Some, Standing, StandsHere, State, TidyAt, Token, Turn, View, Waits, Working, [], ap, append-nil, arith, asking, bare, bare_due, bare_id, bare_standing, birth_of, birth_state, cond, count_by, count_in, counted, false, false_from, find, find_record, follows_born, held_token, id_at, ids_named, inl, is_asked, is_asked_for, is_recorded, is_standing, length, map, map-append, refl, same_object, same_object-true, session, some_same, subst, sum_by, sum_by-cons, sym, take, tokens, tokens_of, true, view, works_on, worth, wrote, ℕ, ◌++◌, ◌+◌, ◌^◌, ◌∙◌, ◌∷◌, ◌≡◌, ◌≤◌, grants_here, is_away, away_here, leads_away, option_map_or, eq-eqb, not, ◌||◌, ◌==◌, tells_come, weigh, inr, ◌⊎◌, flow, flow_of, Flow, record_here, record_moves, record_rests, one_if, ◌<◌, tells_own, brought, moved_by, IsLive, pow_pos}
use Rattle.hpx_steps.proofs.Tools.{Changes, Keeps, all_among, by_rows, counts_near, first_turns, holding, if_so, more_come, more_commits, numbered_so, objects_change, orders_so, pays_so, recommit, retidy, sees_by, sees_leads, single_more, stand_more, take_place, then, view_asking, view_worth, work_commits, working_change, tracks_by, by_flows, eq_turned, all_flows}
use Rattle.hpx_steps.proofs.Records.{found_counted}

module _ (r : Rules) (s : Turn) (entries : List Entry) (h : IsSound r s entries) (w : Waits) (rest : List Waits) (make : Make) (hand : List Id) (due : s.due ≡ [])
    (works : s.working ≡ w ∷ rest) (fit : IsBirth (birth_of make)) (lacks : w.asked ≡ []) (own : take (length (ids_named w)) hand ≡ take (length (ids_named w)) w.hand)
    (more : (f : Token → ℕ) → sum_by f (tokens_of hand)
    ≡ sum_by f (tokens_of w.hand) + f (held_token (bare_id s.tables.here make.kind (s.tables.births + 1)) s.tables.profile.credit_log)) where
  abbrev o : Id
  o = bare_id s.tables.here make.kind (s.tables.births + 1)

  abbrev new : Standing
  new = record { object = bare_id s.tables.here make.kind (s.tables.births + 1); state = birth_state make }

  abbrev made : Record
  made = record { gid = bare_id s.tables.here make.kind (s.tables.births + 1); count = 2 ^ s.tables.profile.credit_log; place = s.tables.here; moving = None }

  abbrev bearer : Waits
  bearer = record w { hand = hand }

  abbrev e : Event
  e = Born (bare_id s.tables.here make.kind (s.tables.births + 1)) (birth_state make)

  abbrev now : Turn
  now = wrote (Born (bare_id s.tables.here make.kind (s.tables.births + 1)) (birth_state make)) (record s {
    fresh = s.fresh ++ bare_id s.tables.here make.kind (s.tables.births + 1) ∷ [];
    working = record w { hand = hand } ∷ rest;
    tables = record s.tables {
      births = s.tables.births + 1;
      records = s.tables.records ++ record { gid = bare_id s.tables.here make.kind (s.tables.births + 1); count = 2 ^ s.tables.profile.credit_log; place = s.tables.here; moving = None } ∷ [];
      objects = s.tables.objects ++ record { object = bare_id s.tables.here make.kind (s.tables.births + 1); state = birth_state make } ∷ [];
    };
  })

  pub change : Changes (Working w ∷ []) (Working bearer ∷ StandsHere new ∷ []) s now
  change = then (Working w ∷ []) (Working bearer ∷ []) [] (StandsHere new ∷ []) s (works_on bearer rest s) now
      (working_change (Working w ∷ []) (Working bearer ∷ []) s (bearer ∷ rest) (first_turns (λ x. Working x) s.working w bearer rest works))
      (objects_change [] (StandsHere new ∷ []) (works_on bearer rest s) (s.tables.objects ++ new ∷ []) (more_come (λ x. StandsHere x) s.tables.objects (new ∷ [])))

  its : IsCommit s.tables.here s.tables.localities w
  its = h.tidy (Working w) (rw works (inl refl))

  fit_commit : IsCommit s.tables.here s.tables.localities bearer
  fit_commit = recommit s.tables.here s.tables.localities w hand w.asked w.places w.refused its (ap (map bare) own ∙ its.hand) its.within its.refused
      (λ p lt. its.once p lt ∙ ap {B = ℕ} (λ (x : Id). cond (is_asked x) 1 0)
      (sym (take_place (length (ids_named w)) w.hand p lt) ∙ (ap (λ ids. id_at ids p) (sym own) ∙ take_place (length (ids_named w)) hand p lt)))

  -- none of its number stands here
  other : (x : Standing) → TidyAt s (StandsHere x) → same_object x.object o ≡ false
  other x k = grind arith

  tidy : IsTidy now
  tidy = holding (TidyAt now) (Working bearer ∷ StandsHere new ∷ []) s now change.1
      (λ y m. retidy s.tables.here s.tables.localities s.tables.profile.credit_log s.tables.births (s.tables.births + 1) s.tables.objects (s.tables.objects ++ new ∷ []) (omega arith)
      (λ q. stand_more (is_standing q) s.tables.objects (new ∷ [])) y (h.tidy y m))
      (fit_commit, ((record { kind = fit.most; state = fit.state; plain = λ k. let least : 16 ≤ make.kind = fit.least in absurd (omega (arith, least, k)) }, λ kind home. omega arith), tt))

  -- ---- records

  found_more : (x : Id) → find_record x (s.tables.records ++ made ∷ []) ≡ cond (same_object x o) (Some made) (find_record x s.tables.records)
  found_more x = if_so (same_object x o) (λ t. rw t (past s.tables.records t (ap (λ (y : Id). find_record y s.tables.records) (same_object-true x o t) ∙ h.places.unborn o (omega arith))))
      (λ f. rw f (before s.tables.records f))
    where
      past : (rs : List Record) → same_object x o ≡ true → find_record x rs ≡ None → find_record x (rs ++ made ∷ []) ≡ Some made
      past [] t none = rw t refl
      past (y ∷ ys) t none = if_so (same_object x y.gid) (λ a. absurd (let k : Some y ≡ None = rw a at none in cc)) (λ b. rw b (past ys t (rw b at none)))

      before : (rs : List Record) → same_object x o ≡ false → find_record x (rs ++ made ∷ []) ≡ find_record x rs
      before [] f = rw f refl
      before (y ∷ ys) f = ap (λ k. cond (same_object x y.gid) (Some y) k) (before ys f)

  counts_more : (x : Id) → x.home ≡ s.tables.here → count_in (find (is_recorded x) (map counted (s.tables.records ++ made ∷ [])))
      ≡ cond (same_object x o) (2 ^ r.credit_log) (count_in (find (is_recorded x) (map counted s.tables.records)))
  counts_more x at = grind (arith, found_counted, Option, found_more, Bool)

  places_now : HasPlaces s.tables.here (s.tables.births + 1) (s.tables.objects ++ new ∷ []) (s.tables.records ++ made ∷ []) s.tables.leaving
  places_now = record {
    serves = λ zero. stand_more (is_standing session) s.tables.objects (new ∷ []) (h.places.serves zero);
    unborn = λ x late.
        let off : same_object x o ≡ false = false_from (same_object x o) (λ t. let n : x.number ≡ s.tables.births + 1 = ap (λ (y : Id). y.number) (same_object-true x o t) in absurd (omega (arith, n, late))) in
        found_more x ∙ (ap (λ b. cond b (Some made) (find_record x s.tables.records)) off ∙ h.places.unborn x (omega (arith, late)));
    places = λ x y is. at x y (same_object x o) refl (sym (found_more x) ∙ is);
    single = single_more s.tables.objects new h.places.single (all_among (λ (x : Standing). same_object x.object o ≡ false) s.tables.objects (λ x m. other x (h.tidy (StandsHere x) m)));
    once = h.places.once;
  }
    where
      at : (x : Id) (y : Record) (b : Bool) → same_object x o ≡ b → cond (same_object x o) (Some made) (find_record x s.tables.records) ≡ Some y → IsLive y
      at x y true t is = let k : Some made ≡ Some y = rw t at is in subst IsLive (some_same made y k) (λ same. cc, pow_pos s.tables.profile.credit_log)
      at x y false f is = h.places.places x y (rw f at is)

  not_away : (x : Id) → away_here now.tables x ≡ true → away_here s.tables x ≡ true
  not_away x m = each (same_object x o) (subst (λ (y : Option Record). option_map_or (is_away s.tables.here) y false ≡ true) (found_more x) m)
    where
      each : (b : Bool) → option_map_or (is_away s.tables.here) (cond b (Some made) (find_record x s.tables.records)) false ≡ true → away_here s.tables x ≡ true
      each true k = absurd (let e : (false || not (s.tables.here == s.tables.here)) ≡ true = k in let f : false ≡ true = rw (eq-eqb s.tables.here s.tables.here refl) at e in cc)
      each false k = k

  placed_now : (x : Id) (y : Record) → find_record x now.tables.records ≡ Some y
      → (y.place ≡ s.tables.here) ⊎ (((z : Record) × (find_record x s.tables.records ≡ Some z) × (z.place ≡ y.place)) ⊎ (1 ≤ weigh (tells_come x y.place) s))
  placed_now x y is = each (same_object x o) (sym (found_more x) ∙ is)
    where
      each : (b : Bool) → cond b (Some made) (find_record x s.tables.records) ≡ Some y
          → (y.place ≡ s.tables.here) ⊎ (((z : Record) × (find_record x s.tables.records ≡ Some z) × (z.place ≡ y.place)) ⊎ (1 ≤ weigh (tells_come x y.place) s))
      each true k = inl (ap (λ (z : Record). z.place) (sym (some_same made y k)))
      each false k = inr (inl (y, k, refl))

  near_now : (x : Id) (y : Record) → find_record x now.tables.records ≡ Some y
      → ((z : Record) × (find_record x s.tables.records ≡ Some z) × (z.place ≡ y.place)) ⊎ ((y.place ≡ s.tables.here) ⊎ (y.place < s.tables.localities))
  near_now x y is = each (same_object x o) (sym (found_more x) ∙ is)
    where
      each : (b : Bool) → cond b (Some made) (find_record x s.tables.records) ≡ Some y
          → ((z : Record) × (find_record x s.tables.records ≡ Some z) × (z.place ≡ y.place)) ⊎ ((y.place ≡ s.tables.here) ⊎ (y.place < s.tables.localities))
      each true k = inr (inl (ap (λ (z : Record). z.place) (sym (some_same made y k))))
      each false k = inl (y, k, refl)

  flows_now : (f : Flow) → (flow_of f).home ≡ s.tables.here → (record_moves s.tables.here f (record_here now.tables (flow_of f)) + 0 + weigh (flow s.tables.here f) s + record_rests f (record_here s.tables (flow_of f))
      ≡ record_moves s.tables.here f (record_here s.tables (flow_of f)) + weigh (flow s.tables.here f) now + 0 + record_rests f (record_here now.tables (flow_of f)))
  flows_now f own =
      let is = found_more (flow_of f) in
      omega (arith, ap (record_moves s.tables.here f) is, ap (record_rests f) is, each (same_object (flow_of f) o) refl, change.0 (flow s.tables.here f))
    where
      new_one : (f : Flow) → record_moves s.tables.here f (Some made) + record_rests f None ≡ record_moves s.tables.here f None + record_rests f (Some made)
      new_one f = by_flows (λ f. record_moves s.tables.here f (Some made) + record_rests f None ≡ record_moves s.tables.here f None + record_rests f (Some made)) (λ x t. refl)
          (λ x j. let k : one_if (j == s.tables.here) ≡ one_if (s.tables.here == j) = ap one_if (eq_turned j s.tables.here) in omega (arith, k))
          (λ x j. let k : one_if (j == s.tables.here) ≡ one_if (s.tables.here == j) = ap one_if (eq_turned j s.tables.here) in omega (arith, k)) f

      each : (b : Bool) → same_object (flow_of f) o ≡ b
          → record_moves s.tables.here f (cond b (Some made) (find_record (flow_of f) s.tables.records)) + record_rests f (find_record (flow_of f) s.tables.records)
          ≡ record_moves s.tables.here f (find_record (flow_of f) s.tables.records) + record_rests f (cond b (Some made) (find_record (flow_of f) s.tables.records))
      each true t =
          let none : find_record (flow_of f) s.tables.records ≡ None = ap (λ (y : Id). find_record y s.tables.records) (same_object-true (flow_of f) o t) ∙ h.places.unborn o (omega arith) in
          omega (arith, ap (record_moves s.tables.here f) none, ap (record_rests f) none, new_one f)
      each false t = omega arith

  -- ---- what is seen

  abbrev seen : View
  seen = record (view s) {
    number = s.tables.births + 1;
    objects = map bare_standing s.tables.objects ++ new ∷ [];
    fresh = s.fresh ++ o ∷ [];
    tokens = tokens now;
    live = map counted (s.tables.records ++ made ∷ []);
    last = Some e;
  }

  pub bear_keeps : Keeps r s now e
  bear_keeps = record {
    leads = (
      seen,
      follows_born r (view s) o (birth_state make) (map bare_standing s.tables.objects) [] (tokens now) (map counted (s.tables.records ++ made ∷ [])) (ap (map bare_due) due)
          refl refl (fit.least, fit.most) refl refl refl refl fit.state (sym (append-nil (map bare_standing s.tables.objects)))
          (record { sums = λ f fair. omega (arith, view_worth f, change.0 (worth f), more f, ap (λ n. f (held_token o n)) h.rules.credit_log, sum_by-cons f (held_token o r.credit_log) []) })
          counts_more,
      sees_leads r seen now (grind (arith, sees_by, map-append, view_asking, asking)),
    );
    tidy = tidy;
    places = places_now;
    commits = more_commits s.tables.objects s.tables.running (bearer ∷ rest ++ s.tables.pending) new tt (work_commits s w bearer rest works refl h.commits);
    numbered = numbered_so r s now e (Working w ∷ []) (Working bearer ∷ StandsHere new ∷ []) change.0 (omega arith) (λ n. omega arith);
    pays = pays_so r s now e (Working w ∷ []) (Working bearer ∷ StandsHere new ∷ []) change.0 (by_rows _ (λ at. refl) (λ at. refl) (λ at. refl) (λ at. refl) (λ at. refl) (λ at. refl) (λ at. refl) (λ at. refl) (λ at. refl) (λ at. refl) (λ at. refl) (λ o at. refl) (λ o to at. refl) (λ o to at. refl) (λ o to at. refl) (λ o at. refl)) (omega arith) (omega arith) (λ o. omega arith);
    orders = orders_so r s now e (Working w ∷ []) (Working bearer ∷ StandsHere new ∷ []) change.0 tt (λ o n. omega (arith, ap (λ ys. count_by (is_asked_for w o n) ys) lacks, ap (λ ys. count_by (is_asked_for bearer o n) ys) lacks)) (λ j d o n. omega arith);
    says = record { placed = placed_now; told = λ x j. omega (arith, change.0 (tells_come x j)); own = λ q. omega (arith, change.0 (tells_own q)) };
    arrived = λ a. omega (arith, h.arrived a, change.0 (brought a), change.0 (moved_by a));
    flows = all_flows r (Some e) s now (λ o. refl) flows_now near_now;
    tracks = tracks_by (λ x. 0) (λ x. 0) s now not_away refl refl (λ x. omega (arith, change.0 (grants_here x))) (λ x. inl (omega (arith, change.0 (leads_away s.tables.here x))));
    counts = counts_near s now e refl (omega arith) (omega arith) (omega arith) (omega arith) (omega arith) (λ l. refl) (omega arith);
  }

pub bear_step : (r : Rules) (s s' : Turn) (entries : List Entry) (o : Id) (state : State) → IsSound r s entries → Bears s o state s' → Keeps r s s' (Born o state)
bear_step r s s' entries o state h g =
    subst (λ x. Keeps r s s' (Born x state)) (sym g.object) (subst (λ y. Keeps r s s' (Born born y)) (sym g.begins) (subst (λ t. Keeps r s t (Born born (birth_state g.make))) (sym again)
    (bear_keeps r s entries h g.w g.rest g.make g.hand g.due g.works g.fit g.lacks g.own
    (subst (λ x. (f : Token → ℕ) → sum_by f (tokens_of g.hand) ≡ sum_by f (tokens_of g.w.hand) + f (held_token x s.tables.profile.credit_log)) g.object g.more))))
  where
    born : Id
    born = bare_id s.tables.here g.make.kind (s.tables.births + 1)

    with_born : Id → State → Turn
    with_born x y = wrote (Born x y) (record s {
      fresh = s.fresh ++ x ∷ [];
      working = record g.w { hand = g.hand } ∷ g.rest;
      tables = record s.tables {
        births = s.tables.births + 1;
        records = s.tables.records ++ record { gid = x; count = 2 ^ s.tables.profile.credit_log; place = s.tables.here; moving = None } ∷ [];
        objects = s.tables.objects ++ record { object = x; state = y } ∷ [];
      };
    })

    again : s' ≡ with_born born (birth_state g.make)
    again = g.now ∙ (ap (λ x. with_born x state) g.object ∙ ap (with_born born) g.begins)
