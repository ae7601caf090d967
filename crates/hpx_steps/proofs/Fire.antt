-- An accepted action runs.
use Rattle.hpx_steps.proofs.Common.{sum_by, Accepted, Act, Apart, Entry, Fire, Fires, IsSound, IsTidy, List, Name, Rules, Running, Some, Standing, TidyAt, Turn, View, [], action_of, ap, append_assoc, arith, bare_act, bare_due, bare_standing, commits, drop, false, find, fired_of, flat_map, follows_fire, is_busy, is_standing, map, map-append, name_of, parcel_acts, parcels, refl, remove, slice_get, split_get, subst, suc, sym, take, target_of, view, waiting, worth, wrote, ℕ, ◌++◌, ◌∙◌, ◌∷◌, ◌≡◌, brought, moved_by}
use Rattle.hpx_steps.proofs.Tools.{Changes, Keeps, Sees, accepted_change, among_at, apart_more, busy-bare, by_rows, counts_near, found-bare, holding, more_come, numbered_so, one_goes, orders_so, pays_so, running_change, sees_by, sees_leads, target-bare, then, told_as, view_worth, tracks_so, says_so, flows_so}

module _ (r : Rules) (s : Turn) (entries : List Entry) (h : IsSound r s entries) (i : ℕ) (act : Act) (x : Standing) (due : s.due ≡ []) (fresh : s.fresh ≡ [])
    (there : slice_get s.tables.accepted i ≡ Some act) (stands : find (is_standing (target_of act)) s.tables.objects ≡ Some x)
    (idle : is_busy (target_of act) (fired_of s.tables.running (commits s)) ≡ false) where
  abbrev now : Turn
  now = wrote (Fire (name_of act)) (record s { tables = record s.tables { accepted = remove s.tables.accepted i; running = s.tables.running ++ act ∷ [] } })

  pub change : Changes (Accepted act ∷ []) (Running act ∷ []) s now
  change =
      let less : Turn = record s { tables = record s.tables { accepted = remove s.tables.accepted i } } in
      then (Accepted act ∷ []) [] [] (Running act ∷ []) s less now
      (accepted_change (Accepted act ∷ []) [] s (remove s.tables.accepted i) (one_goes (λ x. Accepted x) s.tables.accepted i act there))
      (running_change [] (Running act ∷ []) less (s.tables.running ++ act ∷ []) (more_come (λ x. Running x) s.tables.running (act ∷ [])))

  its : TidyAt s (Accepted act)
  its = h.tidy (Accepted act) (among_at s.tables.accepted i act there)

  tidy : IsTidy now
  tidy = holding (TidyAt s) (Running act ∷ []) s now change.1 h.tidy (its.0, tt)

  abbrev front : List Act
  front = map bare_act (take i s.tables.accepted)

  abbrev back : List Act
  back = map bare_act (drop (suc i) s.tables.accepted) ++ flat_map parcel_acts (parcels s)

  waits : waiting s ≡ front ++ bare_act act ∷ back
  waits = ap (λ xs. map bare_act xs ++ flat_map parcel_acts (parcels s)) (split_get s.tables.accepted i act there) ∙ simp (map-append, append_assoc)

  abbrev running : List Act
  running = map bare_act s.tables.running ++ bare_act act ∷ map bare_act (map action_of (commits s))

  abbrev seen : View
  seen = record (view s) { waiting = front ++ back; fired = running; last = Some (Fire (name_of act)) }

  waits_then : front ++ back ≡ waiting now
  waits_then = simp (map-append, append_assoc)

  sees : Sees seen now
  sees = sees_by seen now refl (λ f. ap (sum_by f) waits_then) (λ f. refl)
      (λ f weight. omega (arith, view_worth f s, view_worth f now, change.0 (worth f))) (λ x. refl) (λ x. refl) (λ x. omega arith) (ap (λ fs. record seen { fired = fs }) (simp (map-append, append_assoc)))

  pub fire_keeps : Keeps r s now (Fire (name_of act))
  fire_keeps = record {
    leads = (
      seen,
      follows_fire r (view s) front back (map bare_act s.tables.running) (map bare_act (map action_of (commits s))) (bare_act act) (bare_standing x)
          (ap (map bare_due) due) fresh waits (map-append bare_act s.tables.running (map action_of (commits s)))
          (ap (λ o. find (is_standing o) (map bare_standing s.tables.objects)) (target-bare act) ∙ found-bare (target_of act) s.tables.objects x stands)
          (ap (λ o. is_busy o (map bare_act (fired_of s.tables.running (commits s)))) (target-bare act) ∙ (busy-bare (target_of act) (fired_of s.tables.running (commits s)) ∙ idle)) its.1,
      sees_leads r seen now sees,
    );
    tidy = tidy;
    places = h.places;
    commits = record {
      each = h.commits.each;
      apart = subst Apart (sym (append_assoc s.tables.running (act ∷ []) (map action_of (commits s)))) (apart_more s.tables.running act (map action_of (commits s)) h.commits.apart idle);
      whole = h.commits.whole;
      lent = h.commits.lent;
    };
    numbered = numbered_so r s now (Fire (name_of act)) (Accepted act ∷ []) (Running act ∷ []) change.0 (omega arith) (λ n. omega arith);
    pays = pays_so r s now (Fire (name_of act)) (Accepted act ∷ []) (Running act ∷ []) change.0 (by_rows _ (λ at. omega arith) (λ at. omega arith) (λ at. omega arith) (λ at. omega arith) (λ at. omega arith) (λ at. omega arith) (λ at. omega arith) (λ at. omega arith) (λ at. omega arith) (λ at. omega arith) (λ at. omega arith) (λ o at. omega arith) (λ o to at. omega arith) (λ o to at. omega arith) (λ o to at. omega arith) (λ o at. omega arith)) (omega arith) (omega arith) (λ o. omega arith);
    orders = orders_so r s now (Fire (name_of act)) (Accepted act ∷ []) (Running act ∷ []) change.0 tt (λ o n. omega arith) (λ j d o n. omega arith);
    says = says_so r s now (Fire (name_of act)) (Accepted act ∷ []) (Running act ∷ []) change.0 refl (λ o j. omega arith) (λ o. omega arith);
    arrived = λ a. omega (arith, h.arrived a, change.0 (brought a), change.0 (moved_by a));
    flows = flows_so r s now (Fire (name_of act)) (Accepted act ∷ []) (Running act ∷ []) change.0 refl (λ o. refl) (λ f. omega arith);
    tracks = tracks_so r s now (Fire (name_of act)) (Accepted act ∷ []) (Running act ∷ []) change.0 (λ o. refl) refl refl (λ o. omega arith) (λ o. omega arith);
    counts = counts_near s now (Fire (name_of act)) refl (omega arith) (omega arith) (omega arith) (omega arith) (omega arith) (λ l. refl) (omega arith);
  }

pub fire_step : (r : Rules) (s s' : Turn) (entries : List Entry) (a : Name) → IsSound r s entries → Fires s a s' → Keeps r s s' (Fire a)
fire_step r s s' entries a h g =
    told_as r s s' (λ n. Fire n) (λ n. record s { tables = record s.tables { accepted = remove s.tables.accepted g.i; running = s.tables.running ++ g.act ∷ [] } }) a (name_of g.act) g.name g.now
    (fire_keeps r s entries h g.i g.act g.x g.calm.due g.calm.fresh g.there g.stands g.idle)
