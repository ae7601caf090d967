-- A commit begins: its object and its action put their ids into its hand.
use Rattle.hpx_steps.proofs.Common.{Act, AllByRecursion, Entry, HasRightCredit, Id, IsCommit, IsFit, IsSound, IsState, IsTidy, Job, List, None, Outcome, Rules, Running, Some, Standing, StandsHere, State, Suspends, TidyAt, Turn, Waits, Working, [], action_of, all_append, ap, append_assoc, arith, asked_by, asking, asks_under, bare, bare_standing, bare_state, commits, cond, filter, find, find_passes, freeing, given_to, hand_ids, hopping, id_at, is_asked, is_standing, joined, length, length-map, map, names_of, own_ids, plain, plain_all, refl, remove, same_object, session, set, slice_get, subst, sum_by, sym, take, take_at, target_of, tokens_of, true, unpaid, view, waits_for, waits_with, worth, ℕ, ◌++◌, ◌<◌, ◌∙◌, ◌∷◌, ◌≡◌, ◌≤◌, grants_here, leads_away, tells_come, flow, tells_own, brought, moved_by}
use Rattle.hpx_steps.proofs.Tools.{Changes, Sees, Stills, all_none, among_at, bare_all, begin_commits, fewer, first_comes, front_place, holding, ids_append, no_tokens, none_tokens, not_asked, objects_change, one_goes, one_turns, plain_ids, retidy, ridden_tokens, running_change, runs_whole, same_map, sees_leads, single_set, stand_set, then, view_asking, view_worth, working_change, same_fires, acted, same_tracks, same_says, same_flows}

bare_fit : (s : State) → IsState s → IsState (bare_state s)
bare_fit s h = grind (arith, length-map)

module _ (r : Rules) (s : Turn) (entries : List Entry) (h : IsSound r s entries) (i j : ℕ) (job : Job) (outcome : Outcome) (x : Standing)
    (runs : slice_get s.tables.running i ≡ Some job.action) (stands : slice_get s.tables.objects j ≡ Some x)
    (found : find (is_standing (target_of job.action)) s.tables.objects ≡ Some x) (at : job.at ≡ s.tables.here) (kind : job.kind ≡ x.object.kind)
    (state : job.state ≡ x.state) (few : (s.tables.localities ≤ 64) × (job.at < s.tables.localities)) (later : List Id)
    (none : AllByRecursion (λ (id : Id). id.log ≡ None) later) (places : List ℕ) where
  abbrev w : Waits
  w = waits_with job outcome s.tables.localities [] (record { hand = hand_ids job.state (plain job.action) later; places = places })

  abbrev own : List Id
  own = job.state.ids ++ (plain job.action).ids

  abbrev new : Standing
  new = record { object = x.object; state = bare_state x.state }

  abbrev now : Turn
  now = record s {
    working = waits_with job outcome s.tables.localities [] (record { hand = hand_ids job.state (plain job.action) later; places = places }) ∷ s.working;
    tables = record s.tables { running = remove s.tables.running i; objects = set s.tables.objects j (record { object = x.object; state = bare_state x.state }) };
  }

  abbrev less : Turn
  less = record s { tables = record s.tables { running = remove s.tables.running i } }

  abbrev lent : Turn
  lent = record less { tables = record less.tables { objects = set s.tables.objects j new } }

  pub change : Changes (Running job.action ∷ StandsHere x ∷ []) (StandsHere new ∷ Working w ∷ []) s now
  change = then (Running job.action ∷ []) [] (StandsHere x ∷ []) (StandsHere new ∷ Working w ∷ []) s less now
      (running_change (Running job.action ∷ []) [] s (remove s.tables.running i) (one_goes (λ y. Running y) s.tables.running i job.action runs))
      (then (StandsHere x ∷ []) (StandsHere new ∷ []) [] (Working w ∷ []) less lent now
      (objects_change (StandsHere x ∷ []) (StandsHere new ∷ []) less (set s.tables.objects j new) (one_turns (λ y. StandsHere y) s.tables.objects j x new stands))
      (working_change [] (Working w ∷ []) lent (w ∷ s.working) (first_comes (λ y. Working y) s.working w)))

  its : IsFit job.action
  its = h.tidy (Running job.action) (among_at s.tables.running i job.action runs)

  kept : TidyAt s (StandsHere x)
  kept = h.tidy (StandsHere x) (among_at s.tables.objects j x stands)

  same : same_object (target_of job.action) x.object ≡ true
  same = find_passes (is_standing (target_of job.action)) s.tables.objects x found

  credit : AllByRecursion HasRightCredit x.state.ids
  credit = runs_whole s.tables.objects s.tables.running (commits s) h.commits i job.action runs j x stands same

  owned : AllByRecursion HasRightCredit own
  owned = all_append HasRightCredit job.state.ids (plain job.action).ids (subst (λ (y : State). AllByRecursion HasRightCredit y.ids) (sym state) credit) (plain_all HasRightCredit job.action its.sent.credit)

  hand_is : w.hand ≡ own ++ later
  hand_is = sym (append_assoc job.state.ids (plain job.action).ids later)

  whole : own_ids w ≡ own
  whole = ap (take (length own)) hand_is ∙ take_at own later (length own) refl

  fit_commit : IsCommit s.tables.here s.tables.localities w
  fit_commit = record {
    job = record { action = its; state = subst IsState (sym state) kept.0.state; credit = subst (λ (y : State). AllByRecursion HasRightCredit y.ids) (sym state) credit };
    here = at;
    localities = refl;
    few = few;
    hand = ap (map bare) whole;
    within = tt;
    refused = λ o e. cc;
    once = λ p lt. ap {B = ℕ} (λ b. cond b 1 0) (sym (not_asked (id_at w.hand p) (subst (λ ids. HasRightCredit (id_at ids p)) (sym hand_is) (front_place HasRightCredit own later p owned lt))));
  }

  tidy : IsTidy now
  tidy = holding (TidyAt now) (StandsHere new ∷ Working w ∷ []) s now change.1
      (λ y m. retidy s.tables.here s.tables.localities s.tables.profile.credit_log s.tables.births s.tables.births s.tables.objects (set s.tables.objects j new) (omega arith)
      (λ o. stand_set (is_standing o) s.tables.objects j x new stands refl) y (h.tidy y m))
      ((record { kind = kept.0.kind; state = bare_fit x.state kept.0.state; plain = kept.0.plain }, kept.1), (fit_commit, tt))

  abbrev acts : List Act
  acts = map action_of (commits s)

  objects_then : map bare_standing s.tables.objects ≡ (view now).objects
  objects_then = sym (same_map bare_standing s.tables.objects j x new stands (ap (λ ids. record { object = bare x.object; state = record x.state { ids = ids } }) (bare_all x.state.ids)))

  sees : Sees (view s) now
  sees = record {
    rest = refl;
    waiting = λ f. refl;
    fired = λ f. same_fires f s now (omega (arith, change.0 (acted f)));
    objects = λ f. ap (sum_by f) objects_then;
    travels = λ f. refl;
    tokens = λ f fair. omega (arith, view_worth f, change.0 (worth f), ridden_tokens f job.action its.sent.shape, ids_append f, ap (λ (y : State). sum_by f (tokens_of y.ids)) state, no_tokens f x.state.ids, none_tokens f later none);
    asking = λ o. omega (arith, view_asking o, change.0 (asking o), ap (λ ids. names_of o (filter is_asked ids)) whole, ap (names_of o) (all_none own owned));
    asks = λ o. refl;
    live = λ o home. refl;
    dead = λ o. omega arith;
    refusals = λ y k. k;
    failing = omega arith;
  }

  pub suspend_stills : Stills r s now
  suspend_stills = record {
    same = refl;
    leads = sees_leads r (view s) now sees;
    tidy = tidy;
    places = record {
      serves = λ zero. stand_set (is_standing session) s.tables.objects j x new stands refl (h.places.serves zero);
      unborn = h.places.unborn;
      places = h.places.places;
      single = single_set s.tables.objects j x new stands refl h.places.single;
      once = h.places.once;
    };
    commits = begin_commits s.tables.objects s.tables.running (commits s) h.commits i job.action runs h.places.single w refl j x stands same kind state (plain_ids x kept.0);
    numbered = fewer s now (omega arith) (λ n. omega (arith, change.0 (asks_under n)));
    rows = λ row own. omega (arith, change.0 (unpaid row));
    once = omega (arith, change.0 hopping);
    fired = omega (arith, change.0 joined);
    frees = λ o. omega (arith, change.0 (freeing o));
    says = same_says (λ q j. 0) (λ q. 0) s now refl (λ q k. omega (arith, change.0 (tells_come q k))) (λ q. omega (arith, change.0 (tells_own q)));
    came = omega arith;
    arrived = λ a. omega (arith, h.arrived a, change.0 (brought a), change.0 (moved_by a));
    flows = same_flows r None s now refl (λ o. refl) (λ f own. omega (arith, change.0 (flow s.tables.here f)));
    tracks = same_tracks (λ q. 0) (λ q. 0) s now (λ q. refl) refl refl (λ q. omega (arith, change.0 (grants_here q))) (λ q. omega (arith, change.0 (leads_away s.tables.here q)));
    asked = λ o n. omega (arith, change.0 (asked_by s.tables.here o n), change.0 (waits_for o n));
    given = λ k d o n. omega (arith, change.0 (given_to k o n));
  }

pub suspend_step : (r : Rules) (s s' : Turn) (entries : List Entry) → IsSound r s entries → Suspends s s' → Stills r s s'
suspend_step r s s' entries h g = subst (Stills r s) (sym g.now) (suspend_stills r s entries h g.i g.j g.job g.outcome g.x g.runs g.stands g.found g.here g.kind g.state g.few g.later g.none g.places)
