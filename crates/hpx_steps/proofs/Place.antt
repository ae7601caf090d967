-- An action that is in hand waits here, or goes on.
use Rattle.hpx_steps.proofs.Common.{sym, ap, Accept, Queued, count_in, find, is_recorded, waits, way, sum_by-cons, Accepted, Act, Apply, Came, Entry, Going, HasInHand, IsApplied, IsFit, IsMove, IsParcel, IsSound, Item, List, Mailed, Move, OnDesk, Parcel, Places, Row, Rules, TidyAt, Turn, [], arith, asked_by, asks_as, asks_for, asks_under, bare_act, brings, count_by, drops, freeing, frees_one, given_to, gives_for, going, hopping, inl, inr, joined, of_act, owes, parcel_acts, parcel_asks, parcel_frees, parcel_tokens, posts, refl, same_object, subst, sum_by, tokens_of, unpaid, view, waits_for, weigh, worth, ℕ, ◌+◌, ◌==◌, ◌∙◌, ◌∷◌, ◌≡◌, ◌≢◌, ◌≤◌, ◌⊎◌, parcel_travels, grants_here, grants_of, leads_away, tells_come, tells_at, flow, flow_in, Flow, None, tells_own, tell_of, brought, moved_by}
use Rattle.hpx_steps.proofs.Tools.{follows_few, Carries, begins_counted, begins_places, Changes, Sees, Stills, both, bound_none, brings_few, by_own, by_parcel, carried, drop_change, fewer, hand_fit, hand_weighs, holding, in_hand, is_frame, post_change, put_as, put_less, put_sum, put_tidy, same_asks, same_dead, sees_leads, then, view_worth, weighs_act, same_travels, ships_of, same_waits, acting, posted_tracks, posted_says, posted_flows, flowless}

module _ (r : Rules) (s : Turn) (entries : List Entry) (h : IsSound r s entries) (act : Act) (p : Parcel) (carries : (p ≡ Apply act) ⊎ (p ≡ Move act))
    (hand : HasInHand p s) (stays : s.mailed ≢ [] → way s.tables act ≡ Accept) where
  -- what holds of both holds of it
  of_both : (P : Parcel → Type 0) → P (Apply act) → P (Move act) → P p
  of_both P a b = grind arith

  abbrev now : Turn
  now = posts act (drops s)

  abbrev was : Item
  was = in_hand (is_frame p s hand) p

  abbrev item : Item
  item = put_as s.tables (way s.tables act) act

  pub change : Changes (was ∷ []) (item ∷ []) s now
  change = then (was ∷ []) [] [] (item ∷ []) s (drops s) now (drop_change p s hand) (post_change act (drops s))

  turns : (w : Item → ℕ) → weigh w now + w was ≡ weigh w s + w item
  turns w = let k : weigh w now + (w was + 0) ≡ weigh w s + (w item + 0) = change.0 w in omega (arith, k)

  -- a weight that sees an action wherever it is
  moves : (w : Item → ℕ) (n : ℕ) → w (Came p) ≡ n → w (Mailed p) ≡ n → w (Accepted act) ≡ n
      → ((q : Parcel) → Carries act q → (w (OnDesk q) ≡ n) × ((to : ℕ) → w (Going (going to q)) ≡ n) × ((j : ℕ) → w (Queued (waits j q)) ≡ n)) → weigh w now ≡ weigh w s
  moves w n a b c d = omega (arith, turns w, hand_weighs p s hand w n a b, put_sum w s.tables (way s.tables act) act n c d)

  fit : IsFit act
  fit = elim carries [
    | inl e ↦ let k : IsApplied act = subst IsParcel e (hand_fit p s h.tidy hand) in record { sent = k.sent; moves = λ c. absurd (k.code c) }
    | inr e ↦ let k : IsMove act = subst IsParcel e (hand_fit p s h.tidy hand) in record { sent = k.sent; moves = λ c. (k.target, k.args) }
  ]

  none : (f : Parcel → ℕ) → f (Apply act) ≡ 0 → f (Move act) ≡ 0 → f p ≡ 0
  none f a b = of_both (λ q. f q ≡ 0) a b

  none_flow : (f : Flow) → flow_in s.tables.here f p ≡ 0
  none_flow f = of_both (λ q. flow_in s.tables.here f q ≡ 0) (flowless s.tables.here f (Apply act) tt).0 (flowless s.tables.here f (Move act) tt).0

  sees : Sees (view s) now
  sees = record {
    rest = refl;
    waiting = λ f.
        let g : Parcel → ℕ = λ q. sum_by f (parcel_acts q) in
        let one : sum_by f (bare_act act ∷ []) ≡ f (bare_act act) = omega (arith, sum_by-cons f (bare_act act) []) in
        let is : sum_by f (parcel_acts p) ≡ f (bare_act act) = of_both (λ q. sum_by f (parcel_acts q) ≡ f (bare_act act)) one one in
        same_waits f s now (omega (arith, moves (acting f) (f (bare_act act)) is is refl (both act g (f (bare_act act)) one one one)));
    fired = λ f. refl;
    objects = λ f. refl;
    travels = λ f.
        let g : Parcel → ℕ = λ q. sum_by f (parcel_travels q) in
        same_travels f s now (omega (arith, moves (ships_of f) 0 (none g refl refl) (none g refl refl) refl (both act g 0 refl refl refl)));
    tokens = λ f weight. omega (
      arith,
      view_worth f,
      moves (worth f) (sum_by f (tokens_of act.ids)) (of_both (λ q. sum_by f (parcel_tokens q) ≡ sum_by f (tokens_of act.ids)) refl refl) (of_both (λ q. sum_by f (parcel_tokens q) ≡ sum_by f (tokens_of act.ids)) refl refl) refl (both act (λ q. sum_by f (parcel_tokens q)) (sum_by f (tokens_of act.ids)) refl refl refl),
    );
    asking = λ x. refl;
    asks = λ x.
        let f : Parcel → ℕ = λ q. count_by (same_object x) (parcel_asks q) in
        same_asks x s now (omega (arith, moves (by_parcel f) 0 (none f refl refl) (none f refl refl) refl (both act f 0 refl refl refl)));
    live = λ x home. ap (λ l. count_in (find (is_recorded x) l)) (sym (begins_counted (way s.tables act) act s.tables.records));
    dead = λ x.
        let f : Parcel → ℕ = λ q. count_by (same_object x) (parcel_frees q) in
        same_dead x s now (omega (arith, moves (by_own f) 0 refl (none f refl refl) refl (both act f 0 refl refl refl)));
    refusals = λ x k. k;
    failing = omega arith;
  }

  owes_one : (row : Row) → owes row p ≡ of_act row
  owes_one row = grind arith

  one : brings p ≡ 1
  one = of_both (λ q. brings q ≡ 1) refl refl

  -- from a frame it may go on, from the desk it is accepted
  from_where : (hopping item ≤ hopping was) × (joined was ≤ joined item)
  from_where = elim hand as (λ k. (hopping item ≤ hopping (in_hand (is_frame p s k) p)) × (joined (in_hand (is_frame p s k) p) ≤ joined item)) [
    | inl k ↦ (omega (arith, put_less hopping s.tables (way s.tables act) act 1 (omega arith) (λ q. (follows_few q, λ to. follows_few q, λ j. brings_few q)), one), omega arith)
    | inr k ↦
        let stay : way s.tables act ≡ Accept = stays (λ e. absurd (let z : p ∷ [] ≡ [] = sym k.1 ∙ e in cc)) in (
          subst (λ v. hopping (put_as s.tables v act) ≤ 0) (sym stay) (omega arith),
          subst (λ v. brings p ≤ joined (put_as s.tables v act)) (sym stay) (omega (arith, one)),
        )
  ]

  pub place_stills : Stills r s now
  place_stills = record {
    same = refl;
    leads = sees_leads r (view s) now sees;
    tidy = holding (TidyAt s) (item ∷ []) s now change.1 h.tidy (put_tidy s.tables act fit h.flowing.near, tt);
    places = begins_places s.tables act h.places;
    commits = h.commits;
    numbered = fewer s now (omega arith) (λ n. omega (arith, moves (asks_under n) 0 refl (none (asks_as n) refl refl) refl (λ q e. let k = carried act (asks_as n) 0 refl refl refl q e in (k, λ to. k, λ j. refl))));
    rows = λ row own. moves (unpaid row) (of_act row) (owes_one row) (owes_one row) refl (weighs_act act row);
    once = omega (arith, turns hopping, from_where.0);
    fired = omega (arith, turns joined, from_where.1);
    frees = λ o. omega (arith, moves (freeing o) 0 (none (frees_one o) refl refl) refl refl (both act (λ q. 0) 0 refl refl refl));
    says = posted_says (λ q j. 0) (λ q. 0) s now s.tables act refl refl (λ q j. let k = none (tells_at q j) refl refl in omega (arith, turns (tells_come q j), hand_weighs p s hand (tells_come q j) 0 k refl, put_sum (tells_come q j) s.tables (way s.tables act) act 0 refl (λ c e. (refl, λ to. refl, λ i. refl))))
        (λ q. let k = none (tell_of q) refl refl in omega (arith, turns (tells_own q), hand_weighs p s hand (tells_own q) 0 refl k, put_sum (tells_own q) s.tables (way s.tables act) act 0 refl (λ c e. (carried act (tell_of q) 0 refl refl refl c e, λ to. refl, λ i. refl))));
    came = omega arith;
    arrived = λ a. omega (arith, h.arrived a, turns (brought a), turns (moved_by a), put_sum (brought a) s.tables (way s.tables act) act 0 refl (λ c e. (refl, λ to. refl, λ i. refl)), hand_weighs p s hand (moved_by a) 0 refl refl);
    flows = posted_flows r None s now s.tables act refl refl refl refl (λ o. refl) (λ f. refl) (λ f. refl) (λ f. let k = none_flow f in omega (arith, turns (flow s.tables.here f), hand_weighs p s hand (flow s.tables.here f) 0 k k)) h.flowing.near;
    tracks = posted_tracks (λ q. 0) (λ q. 0) s now s.tables act refl refl refl refl refl (λ w m. m) refl
        (λ q. let k = none (grants_of q) refl refl in omega (arith, turns (grants_here q), hand_weighs p s hand (grants_here q) 0 k k))
        (λ q. let k = none (grants_of q) refl refl in omega (arith, turns (grants_here q), hand_weighs p s hand (grants_here q) 0 k k))
        (λ q. omega (arith, turns (leads_away s.tables.here q), hand_weighs p s hand (leads_away s.tables.here q) 0 refl refl));
    asked = λ o n.
        let f : Parcel → ℕ = λ q. asks_for s.tables.here o n q + gives_for o n q in
        omega (
          arith,
          moves (asked_by s.tables.here o n) 0 (none f refl refl) (none f refl refl) refl (λ q e. (carried act f 0 refl refl refl q e, λ to. carried act (asks_for s.tables.here o n) 0 refl refl refl q e, λ j. refl)),
          moves (waits_for o n) 0 refl refl refl (both act (λ q. 0) 0 refl refl refl),
        );
    given = λ j d o n. omega (
      arith,
      moves (given_to j o n) 0 (none (asks_for j o n) refl refl) (none (asks_for j o n) refl refl) refl
          (λ q e. (refl, λ to. bound_none (to == j) (gives_for o n q) (carried act (gives_for o n) 0 refl refl refl q e), λ i. refl)),
    );
  }

pub place_step : (r : Rules) (s s' : Turn) (entries : List Entry) → IsSound r s entries → Places s s' → Stills r s s'
place_step r s s' entries h g = subst (Stills r s) (sym g.now) (place_stills r s entries h g.act g.parcel g.brings g.hand g.stays)
