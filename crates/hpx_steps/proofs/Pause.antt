-- A commit begins to wait.
use Rattle.hpx_steps.proofs.Common.{Entry, HasCommits, HasSplit, IsCommit, IsSound, List, Pauses, Pending, Refusal, Rules, TidyAt, Turn, View, Waits, Working, [], action_of, any_counted, ap, append-nil, append_assoc, arith, asked_by, asking, asks_under, bare_act, commits, counted_any, counts_of, fired_of, freeing, given_to, hopping, inl, joined, map, refl, refusals_of, same_refusal, subst, sum_by, sym, unpaid, view, waits_for, worth, ℕ, ◌++◌, ◌∙◌, ◌∷◌, ◌≡◌, ◌≢◌, grants_here, leads_away, tells_come, flow, None, tells_own, brought, moved_by}
use Rattle.hpx_steps.proofs.Tools.{Changes, Sees, Stills, by_commit, fewer, first_goes, holding, long_sum, more_come, move_commits, pending_change, recommit, refuses, sees_leads, then, view_asking, view_refusals, view_worth, was_fired, working_change, same_fires, acted, same_tracks, same_says, same_flows}

module _ (r : Rules) (s : Turn) (entries : List Entry) (h : IsSound r s entries) (w : Waits) (rest : List Waits) (places : List ℕ) (works : s.working ≡ w ∷ rest)
    (lacks : w.asked ≢ []) (stays : w.job.action.code ≢ 1) (split : HasSplit s.tables.profile.credit_log (record w { places = places })) where
  abbrev waiter : Waits
  waiter = record w { places = places }

  abbrev now : Turn
  now = record s { working = rest; tables = record s.tables { pending = s.tables.pending ++ record w { places = places } ∷ [] } }

  pub change : Changes (Working w ∷ []) (Pending waiter ∷ []) s now
  change = then (Working w ∷ []) [] [] (Pending waiter ∷ []) s (record s { working = rest }) now (working_change (Working w ∷ []) [] s rest (first_goes (λ x. Working x) s.working w rest works))
      (pending_change [] (Pending waiter ∷ []) (record s { working = rest }) (s.tables.pending ++ waiter ∷ []) (more_come (λ x. Pending x) s.tables.pending (waiter ∷ [])))

  its : IsCommit s.tables.here s.tables.localities w
  its = h.tidy (Working w) (rw works (inl refl))

  fit_commit : IsCommit s.tables.here s.tables.localities waiter
  fit_commit = recommit s.tables.here s.tables.localities w w.hand w.asked places w.refused its its.hand its.within its.refused its.once

  abbrev others : List Waits
  others = rest ++ s.tables.pending

  same : [] ++ others ≡ others ++ []
  same = sym (append-nil others)

  behind : others ++ waiter ∷ [] ≡ commits now
  behind = append_assoc rest s.tables.pending (waiter ∷ [])

  was : HasCommits s.tables.objects s.tables.running (w ∷ rest ++ s.tables.pending)
  was = subst (λ ws. HasCommits s.tables.objects s.tables.running (ws ++ s.tables.pending)) works h.commits

  abbrev seen : View
  seen = record (view s) { fired = map bare_act ((s.tables.running ++ map action_of others) ++ w.job.action ∷ map action_of []) }

  fires : (view s).fired ≡ map bare_act ((s.tables.running ++ map action_of []) ++ w.job.action ∷ map action_of others)
  fires = ap (λ ws. map bare_act (fired_of s.tables.running (ws ++ s.tables.pending))) works ∙ ap (map bare_act) (was_fired s.tables.objects s.tables.running [] others others [] w waiter refl same)

  -- in another order
  refused : (f : Refusal → ℕ) → sum_by f (refusals_of (commits now)) ≡ sum_by f (refusals_of (commits s))
  refused f = omega (arith, view_refusals f s, view_refusals f now, change.0 (by_commit (refuses f)))

  sees : Sees (view s) now
  sees = record {
    rest = refl;
    waiting = λ f. refl;
    fired = λ f. same_fires f s now (omega (arith, change.0 (acted f)));
    objects = λ f. refl;
    travels = λ f. refl;
    tokens = λ f fair. omega (arith, view_worth f s, view_worth f now, change.0 (worth f));
    asking = λ o. omega (arith, view_asking o s, view_asking o now, change.0 (asking o));
    asks = λ o. refl;
    live = λ o home. refl;
    dead = λ o. omega arith;
    refusals = λ y k. any_counted (same_refusal y) (refusals_of (commits s)) (omega (arith, counted_any (same_refusal y) (refusals_of (commits now)) k, refused (counts_of (same_refusal y))));
    failing = omega (arith, long_sum (refusals_of (commits s)), long_sum (refusals_of (commits now)), refused (λ x. 1));
  }

  pub pause_stills : Stills r s now
  pause_stills = record {
    same = refl;
    leads = sees_leads r (view s) now sees;
    tidy = holding (TidyAt s) (Pending waiter ∷ []) s now change.1 h.tidy ((fit_commit, split, lacks, stays), tt);
    places = h.places;
    commits = subst (HasCommits s.tables.objects s.tables.running) behind (move_commits s.tables.objects s.tables.running [] others others [] w waiter refl same was);
    numbered = fewer s now (omega arith) (λ n. omega (arith, change.0 (asks_under n)));
    rows = λ row own. omega (arith, change.0 (unpaid row));
    once = omega (arith, change.0 hopping);
    fired = omega (arith, change.0 joined);
    frees = λ o. omega (arith, change.0 (freeing o));
    says = same_says (λ q j. 0) (λ q. 0) s now refl (λ q k. omega (arith, change.0 (tells_come q k))) (λ q. omega (arith, change.0 (tells_own q)));
    came = omega arith;
    arrived = λ a. omega (arith, h.arrived a, change.0 (brought a), change.0 (moved_by a));
    flows = same_flows r None s now refl (λ o. refl) (λ f own. omega (arith, change.0 (flow s.tables.here f)));
    tracks = same_tracks (λ q. 0) (λ q. 0) s now (λ q. refl) refl refl (λ q. omega (arith, change.0 (grants_here q))) (λ q. omega (arith, change.0 (leads_away s.tables.here q)));
    asked = λ o n. omega (arith, change.0 (asked_by s.tables.here o n), change.0 (waits_for o n));
    given = λ k d o n. omega (arith, change.0 (given_to k o n));
  }

pub pause_step : (r : Rules) (s s' : Turn) (entries : List Entry) → IsSound r s entries → Pauses s s' → Stills r s s'
pause_step r s s' entries h g = subst (Stills r s) (sym g.now) (pause_stills r s entries h g.w g.rest g.places g.works g.lacks g.stays g.split)
