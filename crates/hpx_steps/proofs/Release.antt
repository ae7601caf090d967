-- The first action that waits for an object goes its way.
use Rattle.hpx_steps.proofs.Common.{Accepted, Act, Apply, Entry, Going, IsApplied, IsFit, IsMove, IsParcel, IsSound, Item, List, Move, OnDesk, Parcel, Queued, Releases, Rules, Some, TidyAt, Turn, Waiting, [], ap, arith, asked_by, asks_as, asks_for, asks_under, bare_act, brings, count_by, count_in, find, freeing, given_to, gives_for, going, hopping, inl, inr, is_for, is_recorded, joined, of_act, parcel_acts, parcel_asks, parcel_frees, parcel_tokens, parcel_travels, posts, refl, same_object, subst, sum_by, sum_by-cons, sym, tokens_of, unpaid, view, waits, waits_for, way, weigh, weight, without_first, worth, ℕ, ◌+◌, ◌==◌, ◌∷◌, ◌≡◌, ◌⊎◌, grants_here, leads_away, tells_come, flow, flow_in, None, tells_own, tell_of, brought, moved_by}
use Rattle.hpx_steps.proofs.Tools.{found_among, Carries, Changes, Sees, Stills, acting, asks_of, begins_counted, begins_places, both, bound_none, brings_few, carried, fewer, first_leaves, follows_few, frees_of, holding, post_change, put_as, put_less, put_sum, put_tidy, queued_change, same_asks, same_dead, same_travels, same_waits, sees_leads, ships_of, then, view_worth, weighs_act, posted_tracks, posted_says, posted_flows, flowless}

module _ (r : Rules) (s : Turn) (entries : List Entry) (h : IsSound r s entries) (n : ℕ) (first : Waiting Parcel) (act : Act) (there : find (is_for n) s.tables.queued ≡ Some first)
    (brings_it : (first.item ≡ Apply act) ⊎ (first.item ≡ Move act)) where
  abbrev less : Turn
  less = record s { tables = record s.tables { queued = without_first n s.tables.queued } }

  abbrev now : Turn
  now = posts act (record s { tables = record s.tables { queued = without_first n s.tables.queued } })

  abbrev item : Item
  item = put_as less.tables (way less.tables act) act

  pub change : Changes (Queued first ∷ []) (item ∷ []) s now
  change = then (Queued first ∷ []) [] [] (item ∷ []) s less now
      (queued_change (Queued first ∷ []) [] s (without_first n s.tables.queued) (first_leaves n first s.tables.queued there)) (post_change act less)

  turns : (w : Item → ℕ) → weigh w now + w (Queued first) ≡ weigh w s + w item
  turns w = let k : weigh w now + (w (Queued first) + 0) ≡ weigh w s + (w item + 0) = change.0 w in omega (arith, k)

  -- a weight that sees an action wherever it is
  moves : (w : Item → ℕ) (m : ℕ) → w (Queued first) ≡ m → w (Accepted act) ≡ m
      → ((q : Parcel) → Carries act q → (w (OnDesk q) ≡ m) × ((to : ℕ) → w (Going (going to q)) ≡ m) × ((j : ℕ) → w (Queued (waits j q)) ≡ m)) → weigh w now ≡ weigh w s
  moves w m a c d = omega (arith, turns w, a, put_sum w less.tables (way less.tables act) act m c d)

  -- what holds of both holds of it
  of_both : (P : Parcel → Type 0) → P (Apply act) → P (Move act) → P first.item
  of_both P a b = elim brings_it [
    | inl e ↦ subst P (sym e) a
    | inr e ↦ subst P (sym e) b
  ]

  its : TidyAt s (Queued first)
  its = h.tidy (Queued first) (found_among (is_for n) s.tables.queued first there)

  fit : IsFit act
  fit = elim brings_it [
    | inl e ↦ let k : IsApplied act = subst IsParcel e its.0 in record { sent = k.sent; moves = λ c. absurd (k.code c) }
    | inr e ↦ let k : IsMove act = subst IsParcel e its.0 in record { sent = k.sent; moves = λ c. (k.target, k.args) }
  ]

  none : (f : Parcel → ℕ) → f (Apply act) ≡ 0 → f (Move act) ≡ 0 → f first.item ≡ 0
  none f a b = of_both (λ q. f q ≡ 0) a b

  sees : Sees (view s) now
  sees = record {
    rest = refl;
    waiting = λ f.
        let g : Parcel → ℕ = λ q. sum_by f (parcel_acts q) in
        let one : sum_by f (bare_act act ∷ []) ≡ f (bare_act act) = omega (arith, sum_by-cons f (bare_act act) []) in
        same_waits f s now (moves (acting f) (f (bare_act act)) (of_both (λ q. sum_by f (parcel_acts q) ≡ f (bare_act act)) one one) refl (both act g (f (bare_act act)) one one one));
    fired = λ f. refl;
    objects = λ f. refl;
    travels = λ f.
        let g : Parcel → ℕ = λ q. sum_by f (parcel_travels q) in
        same_travels f s now (moves (ships_of f) 0 (none g refl refl) refl (both act g 0 refl refl refl));
    tokens = λ f fair. omega (
      arith,
      view_worth f,
      moves (worth f) (sum_by f (tokens_of act.ids)) (of_both (λ q. sum_by f (parcel_tokens q) ≡ sum_by f (tokens_of act.ids)) refl refl) refl (both act (λ q. sum_by f (parcel_tokens q)) (sum_by f (tokens_of act.ids)) refl refl refl),
    );
    asking = λ x. refl;
    asks = λ x.
        let f : Parcel → ℕ = λ q. count_by (same_object x) (parcel_asks q) in
        same_asks x s now (moves (asks_of x) 0 (none f refl refl) refl (both act f 0 refl refl refl));
    live = λ x home. ap (λ l. count_in (find (is_recorded x) l)) (sym (begins_counted (way less.tables act) act s.tables.records));
    dead = λ x.
        let f : Parcel → ℕ = λ q. count_by (same_object x) (parcel_frees q) in
        same_dead x s now (omega (arith, moves (frees_of x) 0 (none f refl refl) refl (both act f 0 refl refl refl)));
    refusals = λ x k. k;
    failing = omega arith;
  }

  pub release_stills : Stills r s (posts act (record s { tables = record s.tables { queued = without_first n s.tables.queued } }))
  release_stills = record {
    same = refl;
    leads = sees_leads r (view s) now sees;
    tidy = holding (TidyAt s) (item ∷ []) s now change.1 h.tidy (put_tidy less.tables act fit h.flowing.near, tt);
    places = begins_places less.tables act h.places;
    commits = h.commits;
    numbered = fewer s now (omega arith) (λ m. omega (arith, moves (asks_under m) 0 refl refl (λ q e. let k = carried act (asks_as m) 0 refl refl refl q e in (k, λ to. k, λ j. refl))));
    rows = λ row own. moves (unpaid row) (of_act row) (of_both (λ q. weight row q ≡ of_act row) (weighs_act act row (Apply act) (inl refl)).0 (weighs_act act row (Move act) (inr (inl refl))).0) refl (weighs_act act row);
    once = omega (arith, turns hopping, put_less hopping less.tables (way less.tables act) act 1 (omega arith) (λ q. (follows_few q, λ to. follows_few q, λ j. brings_few q)), of_both (λ q. brings q ≡ 1) refl refl);
    fired = omega (arith, turns joined);
    frees = λ o. omega (arith, moves (freeing o) 0 refl refl (both act (λ q. 0) 0 refl refl refl));
    says = posted_says (λ q j. 0) (λ q. 0) s now less.tables act refl refl (λ q j. omega (arith, turns (tells_come q j), put_sum (tells_come q j) less.tables (way less.tables act) act 0 refl (λ c e. (refl, λ to. refl, λ i. refl))))
        (λ q. omega (arith, turns (tells_own q), put_sum (tells_own q) less.tables (way less.tables act) act 0 refl (λ c e. (carried act (tell_of q) 0 refl refl refl c e, λ to. refl, λ i. refl))));
    came = omega arith;
    arrived = λ a. omega (arith, h.arrived a, turns (brought a), turns (moved_by a), put_sum (brought a) less.tables (way less.tables act) act 0 refl (λ c e. (refl, λ to. refl, λ i. refl)));
    flows = posted_flows r None s now less.tables act refl refl refl refl (λ o. refl) (λ f. refl) (λ f. refl) (λ f. let k = of_both (λ q. flow_in s.tables.here f q ≡ 0) (flowless s.tables.here f (Apply act) tt).0 (flowless s.tables.here f (Move act) tt).0 in omega (arith, turns (flow s.tables.here f), k)) h.flowing.near;
    tracks = posted_tracks (λ q. 0) (λ q. 0) s now less.tables act refl refl refl refl refl
        (λ w m. elim ((first_leaves n first s.tables.queued there).there w m) [
          | inl k ↦ k
          | inr k ↦ absurd k
        ]) refl (λ q. omega (arith, turns (grants_here q))) (λ q. omega (arith, turns (grants_here q)))
        (λ q. omega (arith, turns (leads_away s.tables.here q)));
    asked = λ o m.
        let f : Parcel → ℕ = λ q. asks_for s.tables.here o m q + gives_for o m q in
        omega (
          arith,
          moves (asked_by s.tables.here o m) 0 refl refl (λ q e. (carried act f 0 refl refl refl q e, λ to. carried act (asks_for s.tables.here o m) 0 refl refl refl q e, λ j. refl)),
          moves (waits_for o m) 0 refl refl (both act (λ q. 0) 0 refl refl refl),
        );
    given = λ j d o m. omega (
      arith,
      moves (given_to j o m) 0 refl refl (λ q e. (refl, λ to. bound_none (to == j) (gives_for o m q) (carried act (gives_for o m) 0 refl refl refl q e), λ i. refl)),
    );
  }

pub release_step : (r : Rules) (s s' : Turn) (entries : List Entry) → IsSound r s entries → Releases s s' → Stills r s s'
release_step r s s' entries h g = subst (Stills r s) (sym g.now) (release_stills r s entries h g.number g.first g.act g.there g.brings)
