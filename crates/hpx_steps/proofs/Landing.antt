-- An object lands.
use Rattle.hpx_steps.proofs.Common.{length-append, eq-eqb, Bool, Arrival, IsRowAt, is_to, moves_to, one_if, ◌&&◌, inl, inr, Parcel, parcel_tokens, HasInHand, Mailed, messages, false_from, Accepted, Act, AllByRecursion, Brought, Came, Entry, Event, Exchanges, Id, IfSome, IsManaged, IsParcel, IsSound, IsTidy, Item, Landed, Lands, List, None, Row, Rules, Shipped, Some, Standing, StandsHere, State, TidyAt, Travel, Turn, View, [], ap, arith, asked_by, asks_under, bare, bare_act, bare_due, bare_state, causes, commits, drops, false, find, flat_map, freeing, given_to, goes, hopping, is_some, is_standing, joined, map, move_to, name_of, owes, own_parcels, parcel_travels, refl, same_object, same_object-refl, same_object-sym, session, subst, sum_by, sum_by-cons, sym, target_of, true, unpaid, view, waits_for, weigh, worth, wrote, ℕ, ◌++◌, ◌+◌, ◌∙◌, ◌∷◌, ◌≡◌, ◌≤◌, grants_here, leads_away, tells_come, flow, tells_own, brought, moved_by, move_of, same_arrival, Option, place_in, is_movable, ◌==◌, cond}
use Rattle.hpx_journal.specs.Frames.{travel_of}
use Rattle.hpx_journal.specs.Local.{is_travel, stood}
use Rattle.hpx_part.proofs.MoveRows.{follows_landed}
use Rattle.hpx_part.specs.Loads.{standing_load, travel_load}
use Rattle.hpx_steps.proofs.Tools.{drop_change, hand_fit, hand_weighs, in_hand, is_frame, if_so, Changes, Keeps, Sees, accepted_change, acting, asks_of, brought_change, by_rows, counts_near, fewer, frees_of, holding, ids_append, more_come, more_commits, move_to-bare, objects_change, retidy, same_asks, same_dead, same_waits, seen_sum, sees_by, sees_leads, ships_of, single_more, stand_more, stands_of, target-bare, target_big, then, told_as, view_objects, view_worth, same_tracks, same_says, same_flows, flowless}

-- what is not found is none of them
none_same : (o : Id) (xs : List Standing) → find (is_standing o) xs ≡ None → AllByRecursion (λ (x : Standing). same_object x.object (bare o) ≡ false) xs
none_same o [] none = tt
none_same o (x ∷ xs) none = if_so (same_object o x.object) (λ t. absurd (let e : Some x ≡ None = rw t at none in cc))
    (λ f. (false_from (same_object x.object (bare o)) (λ t. let e : true ≡ false = sym (same_object-sym x.object (bare o) t) ∙ f in cc), none_same o xs (rw f at none)))

-- and the last that comes is found
found_last : (o : Id) (xs : List Standing) (y : Standing) → same_object o y.object ≡ true → is_some (find (is_standing o) (xs ++ y ∷ [])) ≡ true
found_last o [] y t = rw t refl
found_last o (x ∷ xs) y t = if_so (same_object o x.object) (λ u. rw u refl) (λ u. rw u (found_last o xs y t))

-- what moves is a MOVE
move_code : (act : Act) (to : ℕ) → move_to act ≡ Some to → (act.code == 1) ≡ true
move_code act to h = each (act.code == 1) (is_movable (target_of act).kind) (place_in act.args) h
  where
    each : (b c : Bool) (p : Option ℕ) → cond (b && c) p None ≡ Some to → b ≡ true
    each true c p e = refl
    each false c p e = cc

module _ (r : Rules) (s : Turn) (entries : List Entry) (h : IsSound r s entries) (act : Act) (state : State) (due : s.due ≡ []) (fresh : s.fresh ≡ [])
    (hand : HasInHand (Shipped act state) s) (goes_to : move_to act ≡ Some s.tables.here) (absent : find (is_standing (target_of act)) s.tables.objects ≡ None)
    (drawn : (target_of act).home ≡ s.tables.here → (target_of act).number ≤ s.tables.births) where
  abbrev e : Event
  e = Landed (bare (target_of act))

  abbrev new : Standing
  new = record { object = bare (target_of act); state = state }

  abbrev arrival : Arrival
  arrival = record { name = name_of act; object = bare (target_of act) }

  abbrev now : Turn
  now = wrote (Landed (bare (target_of act))) (record (drops s) {
    tables = record s.tables {
      objects = s.tables.objects ++ record { object = bare (target_of act); state = state } ∷ [];
      accepted = s.tables.accepted ++ act ∷ [];
      came = s.tables.came ++ arrival ∷ [];
    };
  })

  abbrev into : List Item
  into = StandsHere new ∷ Accepted act ∷ Brought arrival ∷ []

  abbrev was : Item
  was = in_hand (is_frame (Shipped act state) s hand) (Shipped act state)

  pub change : Changes (was ∷ []) into s now
  change =
      let a : Turn = drops s in
      let b : Turn = record a { tables = record s.tables { objects = s.tables.objects ++ new ∷ [] } } in
      let c : Turn = record b { tables = record b.tables { accepted = s.tables.accepted ++ act ∷ [] } } in
      then (was ∷ []) [] [] into s a now (drop_change (Shipped act state) s hand)
      (then [] (StandsHere new ∷ []) [] (Accepted act ∷ Brought arrival ∷ []) a b now
      (objects_change [] (StandsHere new ∷ []) a (s.tables.objects ++ new ∷ []) (more_come (λ x. StandsHere x) s.tables.objects (new ∷ [])))
      (then [] (Accepted act ∷ []) [] (Brought arrival ∷ []) b c now
      (accepted_change [] (Accepted act ∷ []) b (s.tables.accepted ++ act ∷ []) (more_come (λ x. Accepted x) s.tables.accepted (act ∷ [])))
      (brought_change [] (Brought arrival ∷ []) c (s.tables.came ++ arrival ∷ []) (more_come (λ x. Brought x) s.tables.came (arrival ∷ [])))))

  moves : (w : Item → ℕ) (n : ℕ) → w (Came (Shipped act state)) ≡ n → w (Mailed (Shipped act state)) ≡ n → weigh w now + n ≡ weigh w s + (w (StandsHere new) + w (Accepted act) + w (Brought arrival))
  moves w n a b =
      let k : weigh w now + (w was + 0) ≡ weigh w s + (w (StandsHere new) + (w (Accepted act) + (w (Brought arrival) + 0))) = change.0 w in
      omega (arith, k, hand_weighs (Shipped act state) s hand w n a b)

  its : IsParcel (Shipped act state)
  its = hand_fit (Shipped act state) s h.tidy hand

  big : (16 ≤ (target_of act).kind) × ((target_of act).kind ≤ 31)
  big = target_big act its.0

  tidy : IsTidy now
  tidy = holding (TidyAt now) into s now change.1
      (λ y m. retidy s.tables.here s.tables.localities s.tables.profile.credit_log s.tables.births s.tables.births s.tables.objects (s.tables.objects ++ new ∷ []) (omega arith)
      (λ o. stand_more (is_standing o) s.tables.objects (new ∷ [])) y (h.tidy y m)) (
        (record { kind = omega (arith, big.1); state = its.1.shape; plain = λ seven. absurd (omega (arith, seven, big.0)) }, λ least home. drawn home),
        (
          (
            record { sent = its.0.sent; moves = λ c. (its.0.target, its.0.args) },
            subst (λ m. IfSome m (λ k. k ≡ s.tables.here)) (sym (move_to-bare act ∙ goes_to)) refl,
            found_last (target_of act) s.tables.objects new (same_object-refl (target_of act)),
          ),
          (refl, tt),
        ),
      )

  -- ---- what is seen

  abbrev travel : Travel
  travel = record { object = bare (target_of act); state = bare_state state; to = s.tables.here }

  travels_are : parcel_travels (Shipped act state) ≡ record { object = bare (target_of act); state = bare_state state; to = s.tables.here } ∷ []
  travels_are = ap (travel_of (bare_act act) (bare_state state)) (move_to-bare act ∙ goes_to)
      ∙ ap (λ o. record { object = o; state = bare_state state; to = s.tables.here } ∷ []) (target-bare act)

  first_is : find (is_travel (bare (target_of act))) (view s).travels ≡ Some (record { object = bare (target_of act); state = bare_state state; to = s.tables.here })
  first_is = each hand
    where
      behind : (ps : List Parcel) → find (is_travel (bare (target_of act))) (flat_map parcel_travels (Shipped act state ∷ ps)) ≡ Some (record { object = bare (target_of act); state = bare_state state; to = s.tables.here })
      behind ps = ap (λ ts. find (is_travel (bare (target_of act))) (ts ++ flat_map parcel_travels ps)) travels_are ∙ rw (same_object-refl (bare (target_of act))) refl

      each : HasInHand (Shipped act state) s → find (is_travel (bare (target_of act))) (view s).travels ≡ Some (record { object = bare (target_of act); state = bare_state state; to = s.tables.here })
      each (inl k) = ap (λ ps. find (is_travel (bare (target_of act))) (flat_map parcel_travels (ps ++ own_parcels s))) k.0 ∙ behind (own_parcels s)
      each (inr k) = ap (λ ps. find (is_travel (bare (target_of act))) (flat_map parcel_travels (ps ++ own_parcels s))) k.0
          ∙ (ap (λ ps. find (is_travel (bare (target_of act))) (flat_map parcel_travels (ps ++ messages s.tables))) k.1 ∙ behind (messages s.tables))

  abbrev seen : View
  seen = record (view s) { objects = (view now).objects; travels = (view now).travels; last = Some (Landed (bare (target_of act))) }

  sees : Sees seen now
  sees = sees_by seen now refl
      (λ f. same_waits f s now (omega (arith, moves (acting f) (sum_by f (bare_act act ∷ [])) refl refl, sum_by-cons f (bare_act act) []))) (λ f. refl)
      (λ f fair. omega (arith, view_worth f s, view_worth f now, moves (worth f) (sum_by f (parcel_tokens (Shipped act state))) refl refl, ids_append f act.ids state.ids)) (λ q. refl)
      (λ q. same_asks q s now (omega (arith, moves (asks_of q) 0 refl refl))) (λ q. same_dead q s now (omega (arith, moves (frees_of q) 0 refl refl))) refl

  ships : (f : Travel → ℕ) → sum_by f (parcel_travels (Shipped act state)) ≡ f (record { object = bare (target_of act); state = bare_state state; to = s.tables.here })
  ships f = ap (sum_by f) travels_are ∙ omega (arith, sum_by-cons f travel [])

  loads : Exchanges (travel_load travel) (standing_load (stood travel)) (view s) seen
  loads = record {
    acts = λ f. omega arith;
    objects = λ f. omega (arith, view_objects f s, view_objects f now, moves (stands_of f) 0 refl refl, sum_by-cons f (stood travel) []);
    travels = λ f. omega (arith, seen_sum f parcel_travels s, seen_sum f parcel_travels now, moves (ships_of f) (f travel) (ships f) (ships f), sum_by-cons f travel []);
    tokens = λ f fair. omega arith;
    asks = λ q. omega arith;
  }

  managed : IsManaged (bare (target_of act))
  managed = (big.0, omega (arith, big.1))

  pub landed_keeps : Keeps r s now (Landed (bare (target_of act)))
  landed_keeps = record {
    leads = (
      seen,
      follows_landed r (view s) (bare (target_of act)) (ap (map bare_due) due) fresh managed refl (view now).objects (view now).travels travel first_is refl loads,
      sees_leads r seen now sees,
    );
    tidy = tidy;
    places = record {
      serves = λ zero. stand_more (is_standing session) s.tables.objects (new ∷ []) (h.places.serves zero);
      unborn = h.places.unborn;
      places = h.places.places;
      single = single_more s.tables.objects new h.places.single (none_same (target_of act) s.tables.objects absent);
      once = h.places.once;
    };
    commits = more_commits s.tables.objects s.tables.running (commits s) new its.1.credit h.commits;
    numbered = fewer s now (omega arith) (λ n. omega (arith, moves (asks_under n) 0 refl refl));
    pays = record {
      rows = λ row own. omega (arith, moves (unpaid row) (owes row (Shipped act state)) refl refl, costs row own);
      once = omega (arith, moves hopping 0 refl refl);
      fired = omega (arith, moves joined 0 refl refl);
      frees = λ q. omega (arith, moves (freeing q) 0 refl refl);
    };
    orders = record {
      sent = tt;
      asked = λ q n. omega (arith, moves (asked_by s.tables.here q n) 0 refl refl, moves (waits_for q n) 0 refl refl);
      given = λ k d q n. omega (arith, moves (given_to k q n) 0 refl refl);
    };
    says = same_says (λ q j. 0) (λ q. one_if (same_object q (bare (target_of act)))) s now refl (λ q j. omega (arith, moves (tells_come q j) 0 refl refl)) (λ q. omega (arith, moves (tells_own q) 0 refl refl));
    arrived = λ a. let c : move_of a act ≡ one_if (same_arrival a arrival) = ap (λ (b : Bool). one_if (b && same_arrival a arrival)) (move_code act s.tables.here goes_to) in
        omega (arith, h.arrived a, moves (brought a) 0 refl refl, moves (moved_by a) 0 refl refl, c);
    flows = same_flows r (Some e) s now refl (λ o. refl) (λ f own. let k = flowless s.tables.here f (Shipped act state) tt in omega (arith, moves (flow s.tables.here f) 0 k.0 k.0));
    tracks = same_tracks (λ q. 0) (λ q. 0) s now (λ q. refl) refl refl (λ q. omega (arith, moves (grants_here q) 0 refl refl)) (λ q. omega (arith, moves (leads_away s.tables.here q) 0 refl refl));
    counts = counts_near s now e refl (omega arith) (omega arith) (omega arith) (omega arith) (omega arith) (λ l. refl) (omega (arith, length-append s.tables.came (arrival ∷ [])));
  }
    where
      costs : (row : Row) → IsRowAt s.tables.localities s.tables.here row
          → goes r row (Landed (bare (target_of act))) + (unpaid row (Accepted act) + unpaid row (Brought arrival)) ≡ owes row (Shipped act state) + causes r row (Landed (bare (target_of act)))
      costs row own = by_rows (λ q. IsRowAt s.tables.localities s.tables.here q
          → goes r q (Landed (bare (target_of act))) + (unpaid q (Accepted act) + unpaid q (Brought arrival)) ≡ owes q (Shipped act state) + causes r q (Landed (bare (target_of act))))
          (λ at. refl) (λ at. refl) (λ at. refl) (λ at. refl) (λ at. refl) (λ at. refl) (λ at. refl) (λ at. refl) (λ at. refl) (λ at. refl) (λ at. refl) (λ q at. refl) (λ q to at. refl) (λ q to at. refl)
          (λ q to at. omega (arith, lands q to at.1)) (λ q at. omega arith) row own
        where
          lands : (q : Id) (to : ℕ) → to ≡ s.tables.here → one_if (same_object q (bare (target_of act))) ≡ moves_to q to act
          lands q to at = sym (ap (λ m. one_if (same_object q (target_of act) && is_to to m)) goes_to
              ∙ (ap (λ b. one_if (same_object q (target_of act) && b)) (eq-eqb s.tables.here to (sym at)) ∙ one (same_object q (target_of act))))
            where
              one : (b : Bool) → one_if (b && true) ≡ one_if b
              one true = refl
              one false = refl

pub landed_step : (r : Rules) (s s' : Turn) (entries : List Entry) (o : Id) → IsSound r s entries → Lands s o s' → Keeps r s s' (Landed o)
landed_step r s s' entries o h g =
    told_as r s s' (λ q. Landed q) (λ q. record (drops s) {
      tables = record s.tables {
        objects = s.tables.objects ++ record { object = bare (target_of g.act); state = g.state } ∷ [];
        accepted = s.tables.accepted ++ g.act ∷ [];
        came = s.tables.came ++ record { name = name_of g.act; object = bare (target_of g.act) } ∷ [];
      };
    }) o (bare (target_of g.act)) g.object g.now (landed_keeps r s entries h g.act g.state g.calm.due g.calm.fresh g.hand g.moves g.absent g.drawn)
