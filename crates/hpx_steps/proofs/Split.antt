-- An id in the hand of a commit is halved.
use Rattle.hpx_steps.proofs.Common.{Entry, Id, IsCommit, IsSound, List, Rules, Some, Split, Splits, TidyAt, Token, Turn, View, Waits, Working, [], ap, arith, asking, bare, bare_act, bare_due, cond, count_by, false, fired_of, follows_split, half, held_token, ids_named, inl, is_asked, is_asked_for, length, map, names_of, option_map, refl, refusals_of, set, slice_get, sum_by, sum_by-cons, sym, tokens, tokens_of, view, works_on, worth, wrote, ℕ, ◌++◌, ◌+◌, ◌-◌, ◌∙◌, ◌∷◌, ◌≡◌, ◌≤◌, brought, moved_by}
use Rattle.hpx_steps.proofs.Tools.{Changes, Keeps, Sees, by_rows, counts_near, first_asked, first_at, first_map, first_turns, hand_long, has_not_asked, held_by, holding, ids_append, ids_each, numbered_so, orders_so, pays_so, recommit, sees_by, sees_leads, set_sum, token_held, told_as, view_asking, view_worth, work_commits, working_change, tracks_so, says_so, flows_so}

module _ (r : Rules) (s : Turn) (entries : List Entry) (h : IsSound r s entries) (w : Waits) (rest : List Waits) (p : ℕ) (id : Id) (log : ℕ) (due : s.due ≡ [])
    (works : s.working ≡ w ∷ rest) (at : slice_get w.hand p ≡ Some id) (has : id.log ≡ Some log) (enough : 1 ≤ log) (lacks : w.asked ≡ []) where
  abbrev split : Waits
  split = record w { hand = set w.hand p (half id) ++ half id ∷ [] }

  abbrev now : Turn
  now = wrote (Split (bare id) log) (works_on (record w { hand = set w.hand p (half id) ++ half id ∷ [] }) rest s)

  pub change : Changes (Working w ∷ []) (Working split ∷ []) s now
  change = working_change (Working w ∷ []) (Working split ∷ []) s (split ∷ rest) (first_turns (λ x. Working x) s.working w split rest works)

  its : IsCommit s.tables.here s.tables.localities w
  its = h.tidy (Working w) (rw works (inl refl))

  halved : (half id).log ≡ Some (log - 1)
  halved = ap (λ l. option_map (λ (n : ℕ). n - 1) l) has

  -- the id goes, and two halves come
  tokens_hand : (f : Token → ℕ) → sum_by f (tokens_of split.hand) + f (held_token (bare id) log) ≡ sum_by f (tokens_of w.hand) + (f (held_token (bare id) (log - 1)) + f (held_token (bare id) (log - 1)))
  tokens_hand f = grind (arith, ids_append, ids_each, set_sum, held_by, halved)

  abbrev many : ℕ
  many = length (ids_named w)

  long : length (ids_named w) ≤ length w.hand
  long = hand_long s.tables.here s.tables.localities w its

  unasked : (is_asked id ≡ false) × (is_asked (half id) ≡ false)
  unasked = (has_not_asked id log has, has_not_asked (half id) (log - 1) halved)

  fit_commit : IsCommit s.tables.here s.tables.localities split
  fit_commit = recommit s.tables.here s.tables.localities w (set w.hand p (half id) ++ half id ∷ []) w.asked w.places w.refused its
      (first_map bare many p w.hand (half id ∷ []) id (half id) at refl long ∙ its.hand) its.within its.refused
      (λ q lt. its.once q lt ∙ ap {B = ℕ} (λ b. cond b 1 0) (sym (first_at many p q w.hand (half id ∷ []) id (half id) at (unasked.1 ∙ sym unasked.0) lt long)))

  abbrev seen : View
  seen = record (view s) { tokens = tokens now; last = Some (Split (bare id) log) }

  sees : Sees seen now
  sees = sees_by seen now refl (λ f. refl) (λ f. refl) (λ f fair. refl)
      (λ o. omega (arith, view_asking o s, view_asking o now, change.0 (asking o), ap (names_of o) (first_asked many p w.hand (half id ∷ []) id (half id) at unasked.0 unasked.1 long)))
      (λ o. refl) (λ o. omega arith) (ap (λ ws. record seen {
        fired = map bare_act (fired_of s.tables.running (ws ++ s.tables.pending));
        refusals = refusals_of (ws ++ s.tables.pending);
        failing = length (refusals_of (ws ++ s.tables.pending));
      }) works)

  pub split_keeps : Keeps r s now (Split (bare id) log)
  split_keeps = record {
    leads = (
      seen,
      follows_split r (view s) (bare id) refl log (tokens now) (ap (map bare_due) due) enough (token_held s w rest p id log works at has)
          (record { sums = λ f fair. omega (arith, view_worth f, change.0 (worth f), tokens_hand f, sum_by-cons f) }),
      sees_leads r seen now sees,
    );
    tidy = holding (TidyAt s) (Working split ∷ []) s now change.1 h.tidy (fit_commit, tt);
    places = h.places;
    commits = work_commits s w split rest works refl h.commits;
    numbered = numbered_so r s now (Split (bare id) log) (Working w ∷ []) (Working split ∷ []) change.0 (omega arith) (λ n. omega arith);
    pays = pays_so r s now (Split (bare id) log) (Working w ∷ []) (Working split ∷ []) change.0 (by_rows _ (λ at. refl) (λ at. refl) (λ at. refl) (λ at. refl) (λ at. refl) (λ at. refl) (λ at. refl) (λ at. refl) (λ at. refl) (λ at. refl) (λ at. refl) (λ o at. refl) (λ o to at. refl) (λ o to at. refl) (λ o to at. refl) (λ o at. refl)) (omega arith) (omega arith) (λ o. omega arith);
    orders = orders_so r s now (Split (bare id) log) (Working w ∷ []) (Working split ∷ []) change.0 tt (λ o n. omega (arith, ap (λ ys. count_by (is_asked_for w o n) ys) lacks, ap (λ ys. count_by (is_asked_for split o n) ys) lacks)) (λ j d o n. omega arith);
    says = says_so r s now (Split (bare id) log) (Working w ∷ []) (Working split ∷ []) change.0 refl (λ o j. omega arith) (λ o. omega arith);
    arrived = λ a. omega (arith, h.arrived a, change.0 (brought a), change.0 (moved_by a));
    flows = flows_so r s now (Split (bare id) log) (Working w ∷ []) (Working split ∷ []) change.0 refl (λ o. refl) (λ f. omega arith);
    tracks = tracks_so r s now (Split (bare id) log) (Working w ∷ []) (Working split ∷ []) change.0 (λ o. refl) refl refl (λ o. omega arith) (λ o. omega arith);
    counts = counts_near s now (Split (bare id) log) refl (omega arith) (omega arith) (omega arith) (omega arith) (omega arith) (λ l. refl) (omega arith);
  }

pub split_step : (r : Rules) (s s' : Turn) (entries : List Entry) (o : Id) (log : ℕ) → IsSound r s entries → Splits s o log s' → Keeps r s s' (Split o log)
split_step r s s' entries o log h g =
    told_as r s s' (λ x. Split x log) (λ x. works_on (record g.w { hand = set g.w.hand g.p (half g.id) ++ half g.id ∷ [] }) g.rest s) o (bare g.id) g.object g.now
    (split_keeps r s entries h g.w g.rest g.p g.id log g.due g.works g.holds g.has g.enough g.lacks)
