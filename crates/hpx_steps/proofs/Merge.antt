-- A rider is merged into an id of a state.
use Rattle.hpx_steps.proofs.Common.{Act, AllByRecursion, Entry, Event, HasCommits, HasObject, HasRightCredit, Id, IsKept, IsSound, IsTidy, IsWhole, List, Loose, MatchOption, Merge, Merges, None, Option, Rules, Single, Some, Standing, StandsHere, State, TidyAt, Token, Turn, View, Waits, [], action_of, all_at, all_set, and_true, ap, arith, bare, bare_due, bare_names, bare_standing, bare_state, commits, cond, count_by, counts_of, counts_true, eqb-true, false, follows_merge, has_log, held_token, is_busy, is_like, is_some, is_standing, length, list_any, map, may_merge, merged, merged_in, named_act, nat_lt, nat_tests, not, refl, same_object, same_object-refl, same_object-sym, same_object-true, same_token, session, set, slice_get, some_same, subst, suc, sum_by, sum_by-cons, sym, target_of, token_own, tokens, tokens_of, true, view, worth, wrote, ℕ, ◌&&◌, ◌+◌, ◌<◌, ◌==◌, ◌∙◌, ◌∷◌, ◌≡◌, ◌≤◌, brought, moved_by}
use Rattle.hpx_steps.proofs.Tools.{Changes, Keeps, Sees, among_at, by_rows, counts_near, each_set, first_goes, held_by, holding, if_so, ids_append, less_sum, loose_change, never, none_busy, numbered_so, objects_change, one_turns, orders_so, pays_so, plain_ids, retidy, same_map, sees_by, sees_covers, sees_leads, set_sum, single_found, single_set, stand_set, then, told_as, view_covered, view_worth, tracks_so, says_so, flows_so}

-- ---- ids, of which one has the log above

module _ (id : Id) (log : ℕ) where
  above : Id → Id
  above x = record { home = x.home; kind = x.kind; number = x.number; log = Some (log + 1) }

  like_log : (x : Id) → is_like id log x ≡ true → x.log ≡ Some log
  like_log x t = each x.log (and_true (same_object id x) (has_log log x.log) t).1
    where
      each : (l : Option ℕ) → has_log log l ≡ true → l ≡ Some log
      each None e = cc
      each (Some n) e = ap (λ k. Some k) (eqb-true n log e)

  like_bare : (x : Id) → is_like id log x ≡ true → bare id ≡ bare x
  like_bare x t = same_object-true id x (and_true (same_object id x) (has_log log x.log) t).0

  merged_bare : (ids : List Id) → map bare (merged id log ids) ≡ map bare ids
  merged_bare [] = refl
  merged_bare (x ∷ xs) = if_so (is_like id log x) (λ t. rw t refl) (λ f. rw f (ap (λ ys. bare x ∷ ys) (merged_bare xs)))

  merged_long : (ids : List Id) → length (merged id log ids) ≡ length ids
  merged_long [] = refl
  merged_long (x ∷ xs) = if_so (is_like id log x) (λ t. rw t refl) (λ f. rw f (ap suc (merged_long xs)))

  merged_right : (ids : List Id) → AllByRecursion HasRightCredit ids → AllByRecursion HasRightCredit (merged id log ids)
  merged_right [] h = tt
  merged_right (x ∷ xs) h = if_so (is_like id log x) (λ t. rw t (subst (λ l. MatchOption l (x.kind < 16) (λ n. 16 ≤ x.kind)) (like_log x t) h.0, h.1)) (λ f. rw f (h.0, merged_right xs h.1))

  merged_names : (o : Id) (ids : List Id) → bare_names o (merged id log ids) ≡ bare_names o ids
  merged_names o [] = refl
  merged_names o (x ∷ xs) = if_so (is_like id log x)
      (λ t. rw t (omega (arith, sum_by-cons (λ (y : Id). cond (same_object o y && not (is_some y.log)) 1 0), ap {B = ℕ} (λ l. cond (same_object o x && not (is_some l)) 1 0) (like_log x t))))
      (λ f. rw f (omega (arith, sum_by-cons (λ (y : Id). cond (same_object o y && not (is_some y.log)) 1 0), merged_names o xs)))

  -- it has the token of the log above for its own
  merged_tokens : (f : Token → ℕ) (ids : List Id) → list_any (is_like id log) ids ≡ true
      → (sum_by f (tokens_of (merged id log ids)) + f (held_token (bare id) log) ≡ sum_by f (tokens_of ids) + f (held_token (bare id) (log + 1))) × (f (held_token (bare id) log) ≤ sum_by f (tokens_of ids))
  merged_tokens f [] any = cc
  merged_tokens f (x ∷ xs) any = if_so (is_like id log x)
      (λ t.
      let was : sum_by f (tokens_of (x ∷ [])) ≡ f (held_token (bare id) log) = held_by f x log (like_log x t) ∙ ap (λ o. f (held_token o log)) (sym (like_bare x t)) in
      let now : sum_by f (tokens_of (record x { log = Some (log + 1) } ∷ [])) ≡ f (held_token (bare id) (log + 1)) = held_by f (record x { log = Some (log + 1) }) (log + 1) refl ∙ ap (λ o. f (held_token o (log + 1))) (sym (like_bare x t)) in
      rw t (omega (arith, was, now, ids_append f (x ∷ []) xs, ids_append f (record x { log = Some (log + 1) } ∷ []) xs), omega (arith, was, ids_append f (x ∷ []) xs)))
      (λ g.
      let k = merged_tokens f xs (rw g at any) in
      rw g (omega (arith, k.0, ids_append f (x ∷ [])), omega (arith, k.1, ids_append f (x ∷ []) xs)))

  -- without credits there is none
  none_like : (ids : List Id) → list_any (is_like id log) (map bare ids) ≡ false
  none_like [] = refl
  none_like (x ∷ xs) = if_so (same_object id x) (λ t. rw t (none_like xs)) (λ f. rw f (none_like xs))

-- ---- commits stand beside it

module _ (objects : List Standing) (id : Id) (log j : ℕ) (x : Standing) (stands : slice_get objects j ≡ Some x) (any : list_any (is_like id log) x.state.ids ≡ true) where
  -- no commit lends its state
  not_lent : (ws : List Waits) → Single objects → AllByRecursion (HasObject objects) ws → is_busy x.object (map action_of ws) ≡ false
  not_lent [] single all = never (x.object.kind == 7)
  not_lent (w ∷ ws) single all = none_busy x.object w.job.action (map action_of ws)
      (if_so (same_object x.object (target_of w.job.action)) (λ t. absurd (lent (same_object-sym x.object (target_of w.job.action) t))) (λ f. ap (cond (x.object.kind == 7) false) f ∙ never (x.object.kind == 7)))
      (not_lent ws single all.1)
    where
      lent : same_object (target_of w.job.action) x.object ≡ true → ⊥
      lent t =
          let found = single_found objects j x (target_of w.job.action) single stands t in
          let state : x.state ≡ bare_state w.job.state = ap (λ (y : Standing). y.state) (some_same x all.0.standing (sym found ∙ all.0.found)) ∙ all.0.state in
          let none : list_any (is_like id log) x.state.ids ≡ false = ap (λ (y : State). list_any (is_like id log) y.ids) state ∙ none_like id log w.job.state.ids in
          let f : true ≡ false = sym any ∙ none in absurd (cc)

  abbrev new : Standing
  new = merged_in id log x

  abbrev on_it : Act
  on_it = named_act 0 0 (record { code = 0; args = []; cont = None; ids = x.object ∷ [] })

  merge_commits : (running : List Act) (cs : List Waits) → Single objects → IsKept x → HasCommits objects running cs → HasCommits (set objects j (merged_in id log x)) running cs
  merge_commits running cs single kept h =
      let free = not_lent cs single h.each in record {
        each = each_set objects j on_it x new stands (same_object-refl x.object) refl
            (λ k. ap (λ ids. record { object = x.object; state = record x.state { ids = ids } }) (ap (merged id log) (plain_ids x kept k) ∙ sym (plain_ids x kept k))) cs free h.each;
        apart = h.apart;
        whole = all_set (IsWhole cs) objects j new h.whole (λ b. merged_right id log x.state.ids (all_at (IsWhole cs) objects j x h.whole stands b));
        lent = λ o managed. omega (
          arith,
          h.lent o managed,
          set_sum (λ (y : Standing). bare_names o y.state.ids) objects j x new stands,
          merged_names id log o x.state.ids,
        );
      }

-- ---- it is merged

module _ (r : Rules) (s : Turn) (entries : List Entry) (h : IsSound r s entries) (log : ℕ) (id : Id) (rest : List Id) (due : s.due ≡ []) (fresh : s.fresh ≡ [])
    (first : s.loose ≡ id ∷ rest) (has : id.log ≡ Some log) (j : ℕ) (x : Standing) (stands : slice_get s.tables.objects j ≡ Some x)
    (may : may_merge s.tables.profile.credit_log id log x.state.ids ≡ true) where
  abbrev e : Event
  e = Merge (bare id) log

  abbrev raised : Standing
  raised = merged_in id log x

  abbrev now : Turn
  now = wrote (Merge (bare id) log) (record s { loose = rest; tables = record s.tables { objects = set s.tables.objects j (merged_in id log x) } })

  abbrev less : Turn
  less = record s { loose = rest }

  pub change : Changes (Loose id ∷ StandsHere x ∷ []) (StandsHere raised ∷ []) s now
  change = then (Loose id ∷ []) [] (StandsHere x ∷ []) (StandsHere raised ∷ []) s less now
      (loose_change (Loose id ∷ []) [] s rest (first_goes (λ y. Loose y) s.loose id rest first))
      (objects_change (StandsHere x ∷ []) (StandsHere raised ∷ []) less (set s.tables.objects j raised) (one_turns (λ y. StandsHere y) s.tables.objects j x raised stands))

  below : log < r.credit_log
  below = rw h.rules.credit_log (less_than log s.tables.profile.credit_log (and_true (nat_lt log s.tables.profile.credit_log) (list_any (is_like id log) x.state.ids) may).0)
    where
      less_than : (a b : ℕ) → nat_lt a b ≡ true → a < b
      less_than a b t = grind (arith, nat_tests)

  any : list_any (is_like id log) x.state.ids ≡ true
  any = (and_true (nat_lt log s.tables.profile.credit_log) (list_any (is_like id log) x.state.ids) may).1

  kept : TidyAt s (StandsHere x)
  kept = h.tidy (StandsHere x) (among_at s.tables.objects j x stands)

  kept_so : IsKept raised
  kept_so = record {
    kind = kept.0.kind;
    state = record {
      values = kept.0.state.values;
      refs = kept.0.state.refs;
      conts = kept.0.state.conts;
      ids = merged_long id log x.state.ids ∙ kept.0.state.ids;
      few = omega (arith, merged_long id log x.state.ids, kept.0.state.few);
      short = kept.0.state.short;
    };
    plain = kept.0.plain;
  }

  tidy : IsTidy now
  tidy = holding (TidyAt now) (StandsHere raised ∷ []) s now change.1
      (λ y m. retidy s.tables.here s.tables.localities s.tables.profile.credit_log s.tables.births s.tables.births s.tables.objects (set s.tables.objects j raised) (omega arith)
      (λ o. stand_set (is_standing o) s.tables.objects j x raised stands refl) y (h.tidy y m))
      ((kept_so, kept.1), tt)

  commits_now : HasCommits (set s.tables.objects j (merged_in id log x)) s.tables.running (commits s)
  commits_now = merge_commits s.tables.objects id log j x stands any s.tables.running (commits s) h.places.single kept.0 h.commits

  abbrev t : Token
  t = held_token (bare id) log

  two_held : 2 ≤ count_by (same_token (held_token (bare id) log)) (tokens s)
  two_held =
      let f : Token → ℕ = counts_of (same_token (held_token (bare id) log)) in
      omega (
        arith,
        view_worth f s,
        ap (sum_by (λ y. worth f (Loose y))) first,
        sum_by-cons (λ y. worth f (Loose y)) id rest,
        held_by f id log has,
        less_sum (λ (y : Standing). worth f (StandsHere y)) s.tables.objects j x stands,
        (merged_tokens id log f x.state.ids any).1,
        counts_true (same_token t) t (token_own t),
      )

  abbrev seen : View
  seen = record (view s) { tokens = tokens now; last = Some (Merge (bare id) log) }

  objects_same : map bare_standing s.tables.objects ≡ (view now).objects
  objects_same = sym (same_map bare_standing s.tables.objects j x raised stands (ap (λ ids. record { object = bare x.object; state = record x.state { ids = ids } }) (merged_bare id log x.state.ids)))

  sees : Sees seen now
  sees = sees_by seen now refl (λ f. refl) (λ f. refl) (λ f weight. refl) (λ y. refl) (λ y. refl) (λ y. omega arith) (ap (λ os. record seen { objects = os }) objects_same)

  pub merge_keeps : Keeps r s now (Merge (bare id) log)
  merge_keeps = record {
    leads = (
      seen,
      follows_merge r (view s) (bare id) refl log (tokens now) (ap (map bare_due) due) fresh below two_held
          (record { sums = λ f weight. omega (arith, view_worth f, change.0 (worth f), held_by f id log has, (merged_tokens id log f x.state.ids any).0, sum_by-cons f) })
          (λ before. sees_covers r seen now sees (view_covered now tidy commits_now.lent)),
      sees_leads r seen now sees,
    );
    tidy = tidy;
    places = record {
      serves = λ zero. stand_set (is_standing session) s.tables.objects j x raised stands refl (h.places.serves zero);
      unborn = h.places.unborn;
      places = h.places.places;
      single = single_set s.tables.objects j x raised stands refl h.places.single;
      once = h.places.once;
    };
    commits = commits_now;
    numbered = numbered_so r s now e (Loose id ∷ StandsHere x ∷ []) (StandsHere raised ∷ []) change.0 (omega arith) (λ n. omega arith);
    pays = pays_so r s now e (Loose id ∷ StandsHere x ∷ []) (StandsHere raised ∷ []) change.0 (by_rows _ (λ at. refl) (λ at. refl) (λ at. refl) (λ at. refl) (λ at. refl) (λ at. refl) (λ at. refl) (λ at. refl) (λ at. refl) (λ at. refl) (λ at. refl) (λ o at. refl) (λ o to at. refl) (λ o to at. refl) (λ o to at. refl) (λ o at. refl)) (omega arith) (omega arith) (λ o. omega arith);
    orders = orders_so r s now e (Loose id ∷ StandsHere x ∷ []) (StandsHere raised ∷ []) change.0 tt (λ o n. omega arith) (λ k d o n. omega arith);
    says = says_so r s now e (Loose id ∷ StandsHere x ∷ []) (StandsHere raised ∷ []) change.0 refl (λ o j. omega arith) (λ o. omega arith);
    arrived = λ a. omega (arith, h.arrived a, change.0 (brought a), change.0 (moved_by a));
    flows = flows_so r s now e (Loose id ∷ StandsHere x ∷ []) (StandsHere raised ∷ []) change.0 refl (λ o. refl) (λ f. omega arith);
    tracks = tracks_so r s now e (Loose id ∷ StandsHere x ∷ []) (StandsHere raised ∷ []) change.0 (λ o. refl) refl refl (λ o. omega arith) (λ o. omega arith);
    counts = counts_near s now e refl (omega arith) (omega arith) (omega arith) (omega arith) (omega arith) (λ l. refl) (omega arith);
  }

pub merge_step : (r : Rules) (s s' : Turn) (entries : List Entry) (o : Id) (log : ℕ) → IsSound r s entries → Merges s o log s' → Keeps r s s' (Merge o log)
merge_step r s s' entries o log h g =
    told_as r s s' (λ x. Merge x log) (λ x. record s { loose = g.rest; tables = record s.tables { objects = set s.tables.objects g.j (merged_in g.id log g.x) } }) o (bare g.id) g.object g.now
    (merge_keeps r s entries h log g.id g.rest g.calm.due g.calm.fresh g.first g.has g.j g.x g.stands g.may)
