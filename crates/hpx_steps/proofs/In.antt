-- A frame comes in.
use Rattle.hpx_steps.proofs.Common.{weighed, brings, Came, ComesIn, Entry, Exchanges, In, IsParcel, IsSound, IsTidy, List, Parcel, Rules, Some, TidyAt, Turn, [], ap, arith, asks_for, bare_act, bare_due, counts_of, follows_in, gives_for, load_of, map, nothing, owes, parcel_acts, parcel_asks, parcel_travels, refl, same_object, subst, sum_by, sum_by-append, sym, tokens, view, waiting, worth, wrote, ℕ, ◌+◌, ◌∷◌, ◌≡◌, tells_at, flow_in, brought, moved_by}
use Rattle.hpx_steps.proofs.Tools.{Changes, Keeps, asks_of, by_parcel, came_change, counts_near, holding, numbered_so, one_comes, orders_so, pays_so, seen_sum, ships_of, view_worth, tracks_so, says_so, flows_so}

module _ (r : Rules) (s : Turn) (entries : List Entry) (h : IsSound r s entries) (p : Parcel) (bytes : List ℕ) (due : s.due ≡ []) (fresh : s.fresh ≡ [])
    (empty : s.came ≡ []) (spelled : r.parcel_of bytes ≡ Some p) (fit : IsParcel p) where
  abbrev now : Turn
  now = wrote (In bytes) (record s { came = p ∷ []; tables = record s.tables { taken = s.tables.taken + 1 } })

  pub change : Changes [] (Came p ∷ []) s now
  change = came_change [] (Came p ∷ []) s (p ∷ []) (one_comes (λ x. Came x) s.came p empty)

  tidy : IsTidy now
  tidy = holding (TidyAt s) (Came p ∷ []) s now change.1 h.tidy (fit, tt)

  -- what its bytes spell
  told : (w : Parcel → ℕ) → weighed w (r.parcel_of bytes) ≡ w p
  told w = ap (weighed w) spelled

  loads : Exchanges nothing (load_of p) (view s) (view now)
  loads = record {
    acts = λ f. omega (arith, sum_by-append f (map bare_act s.tables.accepted), seen_sum f parcel_acts, change.0 (by_parcel (λ q. sum_by f (parcel_acts q))));
    objects = λ f. omega arith;
    travels = λ f. omega (arith, seen_sum f parcel_travels, change.0 (ships_of f));
    tokens = λ f weight. omega (arith, view_worth f s, view_worth f now, change.0 (worth f));
    asks = λ x. omega (arith, seen_sum (counts_of (same_object x)) parcel_asks, change.0 (asks_of x));
  }

  pub in_keeps : Keeps r s now (In bytes)
  in_keeps = record {
    leads = (
      view now,
      follows_in r (view s) p bytes (waiting now) (view now).travels (tokens now) (view now).asks (ap (map bare_due) due) fresh spelled fit loads,
      (refl, λ c. c, λ l shown. shown),
    );
    tidy = tidy;
    places = h.places;
    commits = h.commits;
    numbered = numbered_so r s now (In bytes) [] (Came p ∷ []) change.0 (omega arith) (λ n. omega arith);
    pays = pays_so r s now (In bytes) [] (Came p ∷ []) change.0 (λ row own. omega (arith, told (owes row))) (omega (arith, told brings)) (omega arith) (λ o. rw spelled (omega arith));
    orders = orders_so r s now (In bytes) [] (Came p ∷ []) change.0 tt
        (λ o n. omega (arith, told (gives_for o n), told (asks_for s.tables.here o n))) (λ j d o n. omega (arith, told (asks_for j o n)));
    says = says_so r s now (In bytes) [] (Came p ∷ []) change.0 refl (λ o j. omega (arith, told (tells_at o j))) (λ o. omega arith);
    arrived = λ a. omega (arith, h.arrived a, change.0 (brought a), change.0 (moved_by a));
    flows = flows_so r s now (In bytes) [] (Came p ∷ []) change.0 refl (λ o. refl) (λ f. omega (arith, told (flow_in s.tables.here f)));
    tracks = tracks_so r s now (In bytes) [] (Came p ∷ []) change.0 (λ o. refl) refl refl (λ o. omega arith) (λ o. omega arith);
    counts = counts_near s now (In bytes) refl (omega arith) (omega arith) (omega arith) (omega arith) refl (λ l. refl) (omega arith);
  }

pub in_step : (r : Rules) (s s' : Turn) (entries : List Entry) (bytes : List ℕ) → IsSound r s entries → ComesIn r s bytes s' → Keeps r s s' (In bytes)
in_step r s s' entries bytes h g = subst (λ x. Keeps r s x (In bytes)) (sym g.now) (in_keeps r s entries h g.parcel bytes g.calm.due g.calm.fresh g.free.came g.spelled g.fit)
