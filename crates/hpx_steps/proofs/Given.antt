-- Credit that was asked for is given to a commit that waits for it.
use Rattle.hpx_steps.proofs.Common.{same_refusal, Act, AskedFor, Bool, Came, Entry, Give, Given, HasCommits, HasCredit, HasInHand, Id, IsCommit, IsGiven, IsSound, IsTidy, Item, List, Mailed, Pending, Refusal, Row, Rules, Some, TidyAt, Token, Turn, View, Waits, Working, [], and_true, any_counted, ap, append_assoc, arith, asked_by, asking, asks_under, bare, bare_act, bare_due, causes, commits, cond, count_by, counted_any, counts_false, counts_of, counts_true, drop, drops, eqb-true, false, follows_given, freeing, given_to, gives_for, goes, goes_on, held_token, hopping, id_at, ids_named, is_asked, is_asked_for, is_least, joined, length, log_of, map, name_of, one_if, owed_token, owes, parcel_asks, refilled, refl, refusal_of, refusals_of, remove, same_object, same_token, set, slice_get, split_get, split_set, subst, suc, sum_by, sum_by-append, sum_by-cons, sym, take, token_own, tokens, tokens_of, true, unpaid, view, waits_for, weigh, worth, wrote, ℕ, ◌&&◌, ◌++◌, ◌+◌, ◌==◌, ◌∙◌, ◌∷◌, ◌≡◌, ◌≤◌, ◌⊎◌, Travel, grants_here, leads_away, tells_come, flow, tells_own, brought, moved_by}
use Rattle.hpx_steps.proofs.Tools.{Changes, Keeps, among_at, asks_of, bare_tokens, by_bool, by_commit, by_rows, counts_near, drop_change, fewer, fired_sum, first_comes, hand_fit, hand_weighs, has_not_asked, held_by, holding, ids_each, in_hand, is_frame, less_sum, long_sum, map_sum, move_commits, one_goes, one_turns, owed_by, pending_change, put_asked, put_bare, put_for, refuses, same_dead, seen_sum, sees_leads, set_sum, then, view_asking, view_refusals, view_worth, working_change, same_travels, ships_of, same_waits, frees_of, acting, same_fires, acted, same_tracks, same_says, same_flows, flowless}
use Rattle.hpx_steps.proofs.Refilled.{asked_at_place, asked_low, asked_same, still_commit, still_split, was_asked}

-- a commit that waited stands elsewhere, or where it stood
pub record Goes (i : ℕ) (w w' : Waits) (working pending working' pending' : List Waits) : Type 0 where
  pub l : List Waits
  pub m : List Waits
  pub l' : List Waits
  pub m' : List Waits
  pub was : working ++ pending ≡ l ++ w ∷ m
  pub is : working' ++ pending' ≡ l' ++ w' ∷ m'
  pub same : l ++ m ≡ l' ++ m'

goes_so : (i : ℕ) (w w' : Waits) (working pending : List Waits) → slice_get pending i ≡ Some w → (b : Bool)
    → Goes i w w' working pending (cond b (w' ∷ working) working) (cond b (remove pending i) (set pending i w'))
goes_so i w w' working pending there b =
    let was : working ++ pending ≡ (working ++ take i pending) ++ w ∷ drop (suc i) pending =
    ap (λ xs. working ++ xs) (split_get pending i w there) ∙ sym (append_assoc working (take i pending) (w ∷ drop (suc i) pending)) in
    each b was
  where
    each : (b : Bool) → working ++ pending ≡ (working ++ take i pending) ++ w ∷ drop (suc i) pending
        → Goes i w w' working pending (cond b (w' ∷ working) working) (cond b (remove pending i) (set pending i w'))
    each true was = record { l = working ++ take i pending; m = drop (suc i) pending; l' = []; m' = working ++ remove pending i; was = was; is = refl; same = simp append_assoc }
    each false was = record {
      l = working ++ take i pending;
      m = drop (suc i) pending;
      l' = working ++ take i pending;
      m' = drop (suc i) pending;
      was = was;
      is = ap (λ xs. working ++ xs) (split_set pending i w w' there) ∙ simp append_assoc;
      same = refl;
    }

module _ (r : Rules) (s : Turn) (entries : List Entry) (h : IsSound r s entries) (id : Id) (entry log i n : ℕ) (w : Waits) (ask : AskedFor) (due : s.due ≡ []) (fresh : s.fresh ≡ [])
    (hand : HasInHand (Give id entry) s) (has : id.log ≡ Some log) (right : (log ≡ 0) ⊎ (log ≡ s.tables.profile.credit_log))
    (there : slice_get s.tables.pending i ≡ Some w) (asked : slice_get w.asked n ≡ Some ask) (for : is_asked_for w id entry ask ≡ true) where
  abbrev given : Waits
  given = refilled n ask.place id w

  abbrev now : Turn
  now = wrote (Given (bare id) log) (goes_on i (refilled n ask.place id w) (drops s))

  abbrev last : Bool
  last = length given.asked == 0

  -- the commit then
  abbrev item : Bool → Item
  item b = cond b (Working given) (Pending given)

  turned : (b : Bool) → Changes (Pending w ∷ []) (item b ∷ []) (drops s) (record (drops s) {
    working = cond b (given ∷ s.working) s.working;
    tables = record s.tables { pending = cond b (remove s.tables.pending i) (set s.tables.pending i given) };
  })
  turned true = then (Pending w ∷ []) [] [] (Working given ∷ []) (drops s) (record (drops s) { tables = record s.tables { pending = remove s.tables.pending i } })
      (record (drops s) { working = given ∷ s.working; tables = record s.tables { pending = remove s.tables.pending i } })
      (pending_change (Pending w ∷ []) [] (drops s) (remove s.tables.pending i) (one_goes (λ x. Pending x) s.tables.pending i w there))
      (working_change [] (Working given ∷ []) (record (drops s) { tables = record s.tables { pending = remove s.tables.pending i } }) (given ∷ s.working) (first_comes (λ x. Working x) s.working given))
  turned false = pending_change (Pending w ∷ []) (Pending given ∷ []) (drops s) (set s.tables.pending i given) (one_turns (λ x. Pending x) s.tables.pending i w given there)

  pub change : Changes (in_hand (is_frame (Give id entry) s hand) (Give id entry) ∷ Pending w ∷ [])
      (cond (length (refilled n ask.place id w).asked == 0) (Working (refilled n ask.place id w)) (Pending (refilled n ask.place id w)) ∷ []) s now
  change = then ((in_hand (is_frame (Give id entry) s hand) (Give id entry)) ∷ []) [] (Pending w ∷ []) (item last ∷ []) s (drops s) now (drop_change (Give id entry) s hand) (turned last)

  -- a weight before and after, that sees no difference between commits in work and those that wait
  moves : (f : Item → ℕ) (m : ℕ) → f (Came (Give id entry)) ≡ m → f (Mailed (Give id entry)) ≡ m → f (Working given) ≡ f (Pending given)
      → weigh f now + (m + f (Pending w)) ≡ weigh f s + f (Pending given)
  moves f m a b same =
      let k : weigh f now + (f (in_hand (is_frame (Give id entry) s hand) (Give id entry)) + (f (Pending w) + 0)) ≡ weigh f s + (f (item last) + 0) = change.0 f in
      omega (arith, k, hand_weighs (Give id entry) s hand f m a b, by_bool (λ c. f (item c) ≡ f (Pending given)) same refl last)

  its : TidyAt s (Pending w)
  its = h.tidy (Pending w) (among_at s.tables.pending i w there)

  credit : HasCredit id
  credit = hand_fit (Give id entry) s h.tidy hand

  log_is : log_of id.log ≡ log
  log_is = ap log_of has

  brings : (log_of id.log ≡ 0) ⊎ (log_of id.log ≡ s.tables.profile.credit_log)
  brings = subst (λ k. (k ≡ 0) ⊎ (k ≡ s.tables.profile.credit_log)) (sym log_is) right

  fit_commit : IsCommit s.tables.here s.tables.localities given
  fit_commit = still_commit s.tables.here s.tables.localities s.tables.profile.credit_log w n ask id entry its.0 its.1 asked for credit brings

  tidy : IsTidy now
  tidy = holding (TidyAt s) (item last ∷ []) s now change.1 h.tidy (each last refl, tt)
    where
      each : (b : Bool) → last ≡ b → TidyAt s (item b)
      each true e = fit_commit
      each false e = (
        fit_commit,
        still_split s.tables.here s.tables.localities s.tables.profile.credit_log w n ask id entry its.0 its.1 asked for credit brings,
        λ none. absurd (let t : true ≡ false = sym (ap (λ (xs : List AskedFor). length xs == 0) none) ∙ e in cc),
        its.3,
      )

  old : Id
  old = id_at w.hand ask.place

  at : slice_get w.hand ask.place ≡ Some (id_at w.hand ask.place)
  at = asked_at_place s.tables.here s.tables.localities s.tables.profile.credit_log w n ask id entry its.0 its.1 asked for credit brings

  same_id : bare id ≡ bare (id_at w.hand ask.place)
  same_id = asked_same s.tables.here s.tables.localities s.tables.profile.credit_log w n ask id entry its.0 its.1 asked for credit brings

  gave : is_asked (id_at w.hand ask.place) ≡ true
  gave = was_asked s.tables.here s.tables.localities s.tables.profile.credit_log w n ask id entry its.0 its.1 asked for credit brings

  -- the credit comes into the hand
  tokens_hand : (f : Token → ℕ) → sum_by f (tokens_of given.hand) ≡ sum_by f (tokens_of w.hand) + f (held_token (bare id) log)
  tokens_hand f = omega (
    arith,
    ids_each f,
    set_sum (λ y. sum_by f (tokens_of (y ∷ []))) w.hand ask.place (id_at w.hand ask.place) id at,
    held_by f id log has,
    bare_tokens f (id_at w.hand ask.place) gave,
  )

  traded : (f : Token → ℕ) → sum_by f (tokens now) + f (owed_token (bare id) log) ≡ sum_by f (tokens s) + f (held_token (bare id) log)
  traded f = omega (arith, view_worth f, tokens_hand f, moves (worth f) (f (owed_token (bare id) log)) (owed_by f id log has) (owed_by f id log has) refl)

  asking_less : (o : Id) → count_by (same_object o) (view s).asking ≡ count_by (same_object o) (view now).asking + count_by (same_object o) (bare id ∷ [])
  asking_less o = omega (
    arith,
    view_asking o,
    moves (asking o) 0 refl refl refl,
    put_asked o (length (ids_named w)) w.hand ask.place (id_at w.hand ask.place) id (asked_low s.tables.here s.tables.localities s.tables.profile.credit_log w n ask id entry its.0 its.1 asked for credit brings) at,
    ap {B = ℕ} (λ b. cond b (cond (same_object o (id_at w.hand ask.place)) 1 0) 0) gave,
    ap {B = ℕ} (λ b. cond b (cond (same_object o id) 1 0) 0) (has_not_asked id log has),
    ap {B = ℕ} (λ (x : Id). cond (same_object o x) 1 0) same_id,
    sum_by-cons (λ x. cond (same_object o x) 1 0) (bare id) [],
  )

  asks_less : (o : Id) → count_by (same_object o) (view s).asks ≡ count_by (same_object o) (view now).asks + count_by (same_object o) (bare id ∷ [])
  asks_less o = omega (arith, seen_sum (counts_of (same_object o)) parcel_asks, moves (asks_of o) (count_by (same_object o) (bare id ∷ [])) refl refl refl)

  ships : (f : Travel → ℕ) → sum_by f (view s).travels ≡ sum_by f (view now).travels
  ships f = same_travels f s now (omega (arith, moves (ships_of f) 0 refl refl refl))

  -- ---- refusals

  abbrev k : Goes i w given s.working s.tables.pending now.working now.tables.pending
  k = goes_so i w given s.working s.tables.pending there last

  turned_refusals : (f : Refusal → ℕ) → sum_by f (refusals_of (commits now)) + sum_by f (refusal_of w.job.action w.refused)
      ≡ sum_by f (refusals_of (commits s)) + sum_by f (refusal_of w.job.action given.refused)
  turned_refusals f = omega (arith, view_refusals f s, view_refusals f now, moves (by_commit (refuses f)) 0 refl refl refl)

  -- a refusal of each fired action
  abbrev refusing : Act → Refusal
  refusing act = record { action = name_of act; object = bare id }

  among_fired : (f : Refusal → ℕ) → f (refusing (bare_act w.job.action)) ≤ sum_by f (map refusing (view s).fired)
  among_fired f = grind (arith, map_sum, commits, fired_sum, less_sum, i, there)

  refused_more : (f : Refusal → ℕ) → sum_by f (refusals_of (commits now)) ≤ sum_by f (cond (log == 0) (map refusing (view s).fired) [] ++ refusals_of (commits s))
  refused_more f = omega (
    arith,
    turned_refusals f,
    among_fired f,
    each (log == 0) (ap (λ l. cond (l == 0) (Some (bare id)) w.refused) log_is),
    sum_by-append f (cond (log == 0) (map refusing (view s).fired) []) (refusals_of (commits s)),
  )
    where
      each : (b : Bool) → given.refused ≡ cond b (Some (bare id)) w.refused → sum_by f (refusal_of w.job.action given.refused)
          ≤ sum_by f (refusal_of w.job.action w.refused) + sum_by f (cond b (map refusing (view s).fired) [])
      each true e = omega (arith, ap (λ o. sum_by f (refusal_of w.job.action o)) e, among_fired f, sum_by-cons f (refusing w.job.action) [])
      each false e = omega (arith, ap (λ o. sum_by f (refusal_of w.job.action o)) e)

  failing_more : length (refusals_of (commits now)) ≤ cond (log == 0) (length (refusals_of (commits s)) + 1) (length (refusals_of (commits s)))
  failing_more = each (log == 0) (ap (λ l. cond (l == 0) (Some (bare id)) w.refused) log_is)
    where
      long : length (refusals_of (commits now)) + sum_by (λ x. 1) (refusal_of w.job.action w.refused) ≡ length (refusals_of (commits s)) + sum_by (λ x. 1) (refusal_of w.job.action given.refused)
      long = omega (arith, turned_refusals (λ x. 1), long_sum (refusals_of (commits now)), long_sum (refusals_of (commits s)))

      each : (b : Bool) → given.refused ≡ cond b (Some (bare id)) w.refused → length (refusals_of (commits now)) ≤ cond b (length (refusals_of (commits s)) + 1) (length (refusals_of (commits s)))
      each true e = omega (arith, long, ap (λ o. sum_by (λ x. 1) (refusal_of w.job.action o)) e, sum_by-cons (λ x. 1) (refusing w.job.action) [])
      each false e = omega (arith, long, ap (λ o. sum_by (λ x. 1) (refusal_of w.job.action o)) e)

  -- ---- what is seen

  abbrev told : View
  told = record (view s) {
    tokens = tokens now;
    asking = (view now).asking;
    asks = (view now).asks;
    refusals = cond (log == 0) (map (λ (act : Act). record { action = name_of act; object = bare id }) (view s).fired) [] ++ (view s).refusals;
    failing = cond (log == 0) ((view s).failing + 1) (view s).failing;
    last = Some (Given (bare id) log);
  }

  one_owed : 1 ≤ count_by (same_token (owed_token (bare id) log)) (tokens s)
  one_owed = omega (
    arith,
    traded (counts_of (same_token (owed_token (bare id) log))),
    counts_true (same_token (owed_token (bare id) log)) (owed_token (bare id) log) (token_own (owed_token (bare id) log)),
    counts_false (same_token (owed_token (bare id) log)) (held_token (bare id) log) (apart (same_object id id) (log == log)),
  )
    where
      apart : (a b : Bool) → (a && (b && false)) ≡ false
      apart true true = refl
      apart true false = refl
      apart false b = refl

  pub given_keeps : Keeps r s now (Given (bare id) log)
  given_keeps = record {
    leads = (
      told,
      follows_given r (view s) (bare id) refl log (tokens now) (view now).asking (view now).asks (ap (map bare_due) due) fresh
          (subst (λ c. (log ≡ 0) ⊎ (log ≡ c)) (sym h.rules.credit_log) right) one_owed
          (record { sums = λ f fair. omega (arith, traded f, sum_by-cons f (owed_token (bare id) log) [], sum_by-cons f (held_token (bare id) log) []) }) asking_less asks_less,
      sees_leads r told now (record {
        rest = refl;
        waiting = λ f. same_waits f s now (omega (arith, moves (acting f) 0 refl refl refl));
        fired = λ f. same_fires f s now (omega (arith, moves (acted f) 0 refl refl refl));
        objects = λ f. refl;
        travels = ships;
        tokens = λ f fair. refl;
        asking = λ o. refl;
        asks = λ o. refl;
        live = λ o home. refl;
        dead = λ o. same_dead o s now (omega (arith, moves (frees_of o) 0 refl refl refl));
        refusals = λ y x. any_counted (same_refusal y) told.refusals (omega (arith, counted_any (same_refusal y) (refusals_of (commits now)) x, refused_more (counts_of (same_refusal y))));
        failing = failing_more;
      }),
    );
    tidy = tidy;
    places = h.places;
    commits = subst (HasCommits s.tables.objects s.tables.running) (sym k.is) (move_commits s.tables.objects s.tables.running k.l k.m k.l' k.m' w given refl k.same
        (subst (HasCommits s.tables.objects s.tables.running) k.was h.commits));
    numbered = fewer s now (omega arith) (λ n. omega (arith, moves (asks_under n) 0 refl refl refl));
    pays = record {
      rows = λ row own. omega (arith, moves (unpaid row) (owes row (Give id entry)) refl refl refl, costs row);
      once = omega (arith, moves hopping 0 refl refl refl);
      fired = omega (arith, moves joined 0 refl refl refl);
      frees = λ o. omega (arith, moves (freeing o) 0 refl refl refl);
    };
    orders = record {
      sent = tt;
      asked = λ o m. omega (arith, moves (asked_by s.tables.here o m) (0 + gives_for o m (Give id entry)) refl refl refl, moves (waits_for o m) 0 refl refl refl, less_asked o m);
      given = λ j d o m. omega (arith, moves (given_to j o m) 0 refl refl refl);
    };
    says = same_says (λ q j. 0) (λ q. 0) s now refl (λ q j. omega (arith, moves (tells_come q j) 0 refl refl refl)) (λ q. omega (arith, moves (tells_own q) 0 refl refl refl));
    arrived = λ a. omega (arith, h.arrived a, moves (brought a) 0 refl refl refl, moves (moved_by a) 0 refl refl refl);
    flows = same_flows r (Some (Given (bare id) log)) s now refl (λ o. refl) (λ f own. let k = flowless s.tables.here f (Give id entry) tt in omega (arith, moves (flow s.tables.here f) 0 k.0 k.0 refl));
    tracks = same_tracks (λ q. 0) (λ q. 0) s now (λ q. refl) refl refl (λ q. omega (arith, moves (grants_here q) 0 refl refl refl)) (λ q. omega (arith, moves (leads_away s.tables.here q) 0 refl refl refl));
    counts = counts_near s now (Given (bare id) log) refl (omega arith) (omega arith) (omega arith) (omega arith) (omega arith) (λ l. refl) (omega arith);
  }
    where
      costs : (row : Row) → goes r row (Given (bare id) log) ≡ owes row (Give id entry) + causes r row (Given (bare id) log)
      costs = by_rows (λ row. goes r row (Given (bare id) log) ≡ owes row (Give id entry) + causes r row (Given (bare id) log))
          refl refl refl refl refl (sym (omega (arith, ap (λ o. one_if (is_least o)) has))) refl refl refl refl refl (λ o. refl) (λ o to. refl) (λ o to. refl) (λ o to. refl) (λ o. refl)

      -- one less is waited for
      less_asked : (o : Id) (m : ℕ) → count_by (is_asked_for w o m) w.asked ≡ count_by (is_asked_for given o m) given.asked + gives_for o m (Give id entry)
      less_asked o m =
          let parts = and_true (ask.entry == entry) (same_object id (id_at w.hand ask.place)) for in
          omega (
            arith,
            less_sum (λ (x : AskedFor). cond (is_asked_for w o m x) 1 0) w.asked n ask asked,
            put_for w given o m (put_bare w.hand ask.place (id_at w.hand ask.place) id at same_id) (remove w.asked n),
            ap {B = ℕ} (λ e. cond ((e == m) && same_object o (id_at w.hand ask.place)) 1 0) (eqb-true ask.entry entry parts.0),
            ap {B = ℕ} (λ (x : Id). cond ((entry == m) && same_object o x) 1 0) same_id,
          )

pub given_step : (r : Rules) (s s' : Turn) (entries : List Entry) (o : Id) (log : ℕ) → IsSound r s entries → IsGiven s o log s' → Keeps r s s' (Given o log)
given_step r s s' entries o log h g = subst (λ x. Keeps r s s' (Given x log)) (sym g.object) (subst (λ x. Keeps r s x (Given (bare g.id) log)) (sym again)
    (given_keeps r s entries h g.id g.entry log g.i g.refills.k g.before g.refills.ask g.calm.due g.calm.fresh g.hand g.has g.right g.there g.refills.there g.refills.for))
  where
    again : s' ≡ wrote (Given (bare g.id) log) (goes_on g.i (refilled g.refills.k g.refills.ask.place g.id g.before) (drops s))
    again = g.now ∙ (ap (λ x. wrote (Given x log) (goes_on g.i g.after (drops s))) g.object ∙ ap (λ v. wrote (Given (bare g.id) log) (goes_on g.i v (drops s))) g.refills.now)
