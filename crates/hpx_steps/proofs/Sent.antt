-- The first of what is due is sent.
use Rattle.hpx_steps.proofs.Common.{sym, ap, Queued, waits, way, Accepted, Act, Due, Entry, Going, IsDue, IsFit, IsSound, IsTidy, Item, List, Message, MessageDue, Name, OnDesk, Parcel, Row, Rules, Sends, Sent, Some, TidyAt, Turn, View, [], arith, asked_by, asks_as, asks_for, asks_under, bare_due, bare_message, causes, count_by, draws, follows_sent, freeing, given_to, gives_for, goes, going, hopping, inl, joined, map, named_act, of_act, parcel_asks, parcel_frees, parcel_tokens, posts, refl, same_object, sum_by, tokens_of, unpaid, view, waiting, waits_for, weigh, worth, wrote, ℕ, ◌+◌, ◌==◌, ◌∷◌, ◌≡◌, parcel_travels, sum_by-cons, parcel_acts, bare_act, grants_here, leads_away, tells_come, flow, tells_own, tell_of, brought, moved_by}
use Rattle.hpx_steps.proofs.Tools.{follows_few, Carries, begins_counted, begins_places, Changes, Keeps, Sees, asks_of, both, bound_none, brings_few, by_rows, carried, counts_near, due_change, fewer, first_goes, frees_of, holding, post_change, put_as, put_less, put_sum, put_tidy, same_asks, same_dead, sees_by, sees_leads, then, told_as, view_worth, weighs_act, same_travels, ships_of, acting, wait_sum, posted_tracks, posted_says, posted_flows}

module _ (r : Rules) (s : Turn) (entries : List Entry) (h : IsSound r s entries) (m : Message) (rest : List Due) (fresh : s.fresh ≡ []) (due : s.due ≡ MessageDue m ∷ rest) where
  abbrev name : Name
  name = record { origin = s.tables.here; serial = s.tables.serial + 1 }

  abbrev act : Act
  act = named_act s.tables.here (s.tables.serial + 1) m

  abbrev before : Turn
  before = draws (record s { due = rest })

  abbrev now : Turn
  now = wrote (Sent (record { origin = s.tables.here; serial = s.tables.serial + 1 })) (posts (named_act s.tables.here (s.tables.serial + 1) m) (draws (record s { due = rest })))

  abbrev item : Item
  item = put_as before.tables (way before.tables act) act

  pub change : Changes (IsDue (MessageDue m) ∷ []) (item ∷ []) s now
  change = then (IsDue (MessageDue m) ∷ []) [] [] (item ∷ []) s before now
      (due_change (IsDue (MessageDue m) ∷ []) [] s rest (first_goes (λ x. IsDue x) s.due (MessageDue m) rest due)) (post_change act before)

  turned : (w : Item → ℕ) → weigh w now + w (IsDue (MessageDue m)) ≡ weigh w s + w item
  turned w = let k : weigh w now + (w (IsDue (MessageDue m)) + 0) ≡ weigh w s + (w item + 0) = change.0 w in omega (arith, k)

  -- a weight before and after, where an action weighs the same wherever it waits
  moves : (w : Item → ℕ) (n : ℕ) → w (Accepted act) ≡ n → ((p : Parcel) → Carries act p → (w (OnDesk p) ≡ n) × ((to : ℕ) → w (Going (going to p)) ≡ n) × ((j : ℕ) → w (Queued (waits j p)) ≡ n))
      → weigh w now + w (IsDue (MessageDue m)) ≡ weigh w s + n
  moves w n a b = omega (arith, turned w, put_sum w before.tables (way before.tables act) act n a b)

  fit : IsFit act
  fit = let d = h.tidy (IsDue (MessageDue m)) (rw due (inl refl)) in record { sent = record { shape = d.sent.shape; credit = d.sent.credit }; moves = d.moves }

  tidy : IsTidy now
  tidy = holding (TidyAt s) (item ∷ []) s now change.1 h.tidy (put_tidy before.tables act fit h.flowing.near, tt)

  abbrev seen : View
  seen = record (view s) {
    serial = s.tables.serial + 1;
    waiting = named_act s.tables.here (s.tables.serial + 1) (bare_message m) ∷ waiting s;
    due = map bare_due rest;
    last = Some (Sent (record { origin = s.tables.here; serial = s.tables.serial + 1 }));
  }

  sees : Sees seen now
  sees = sees_by seen now refl waits
      (λ f. same_travels f s now (omega (arith, moves (ships_of f) 0 refl (both act (λ p. sum_by f (parcel_travels p)) 0 refl refl refl))))
      (λ f weight. omega (arith, view_worth f s, view_worth f now, moves (worth f) (sum_by f (tokens_of m.ids)) refl (both act (λ p. sum_by f (parcel_tokens p)) (sum_by f (tokens_of m.ids)) refl refl refl))) (λ x. refl)
      (λ x. same_asks x s now (omega (arith, moves (asks_of x) 0 refl (both act (λ p. count_by (same_object x) (parcel_asks p)) 0 refl refl refl))))
      (λ x. same_dead x s now (omega (arith, moves (frees_of x) 0 refl (both act (λ p. count_by (same_object x) (parcel_frees p)) 0 refl refl refl))))
      (ap (λ l. record seen { live = l }) (sym (begins_counted (way before.tables act) act s.tables.records)))
    where
      waits : (f : Act → ℕ) → sum_by f (bare_act act ∷ waiting s) ≡ sum_by f (waiting now)
      waits f =
          let one : sum_by f (bare_act act ∷ []) ≡ f (bare_act act) = omega (arith, sum_by-cons f (bare_act act) []) in
          omega (arith, sum_by-cons f (bare_act act) (waiting s), wait_sum f s, wait_sum f now, moves (acting f) (f (bare_act act)) refl (both act (λ p. sum_by f (parcel_acts p)) (f (bare_act act)) one one one))

  pub sent_keeps : Keeps r s now (Sent name)
  sent_keeps = record {
    leads = (seen, follows_sent r (view s) (bare_message m) (map bare_due rest) [] (waiting s) fresh (ap (map bare_due) due) refl, sees_leads r seen now sees);
    tidy = tidy;
    places = begins_places before.tables act h.places;
    commits = h.commits;
    numbered = fewer s now (omega arith) (λ n. omega (arith, moves (asks_under n) 0 refl (λ q e. let k = carried act (asks_as n) 0 refl refl refl q e in (k, λ to. k, λ j. refl))));
    pays = record {
      rows = λ row own. omega (arith, moves (unpaid row) (of_act row) refl (weighs_act act row), costs row);
      once = omega (arith, turned hopping, put_less hopping before.tables (way before.tables act) act 1 (omega arith) (λ p. (follows_few p, λ to. follows_few p, λ j. brings_few p)));
      fired = omega (arith, turned joined);
      frees = λ o. omega (arith, moves (freeing o) 0 refl (both act (λ p. 0) 0 refl refl refl));
    };
    orders = record {
      sent = tt;
      asked = λ o n. omega (
        arith,
        moves (asked_by s.tables.here o n) 0 refl (λ p e. (carried act (λ q. asks_for s.tables.here o n q + gives_for o n q) 0 refl refl refl p e, λ to. carried act (asks_for s.tables.here o n) 0 refl refl refl p e, λ j. refl)),
        moves (waits_for o n) 0 refl (both act (λ p. 0) 0 refl refl refl),
      );
      given = λ j d o n. omega (arith, moves (given_to j o n) 0 refl (λ p e. (refl, λ to. bound_none (to == j) (gives_for o n p) (carried act (gives_for o n) 0 refl refl refl p e), λ i. refl)));
    };
    says = posted_says (λ q j. 0) (λ q. 0) s now before.tables act refl refl (λ q j. omega (arith, turned (tells_come q j), put_sum (tells_come q j) before.tables (way before.tables act) act 0 refl (λ c e. (refl, λ to. refl, λ i. refl))))
        (λ q. omega (arith, turned (tells_own q), put_sum (tells_own q) before.tables (way before.tables act) act 0 refl (λ c e. (carried act (tell_of q) 0 refl refl refl c e, λ to. refl, λ i. refl))));
    arrived = λ a. omega (arith, h.arrived a, turned (brought a), turned (moved_by a), put_sum (brought a) before.tables (way before.tables act) act 0 refl (λ c e. (refl, λ to. refl, λ i. refl)));
    flows = posted_flows r (Some (Sent name)) s now before.tables act refl refl refl refl (λ o. refl) (λ f. refl) (λ f. refl) (λ f. omega (arith, turned (flow s.tables.here f))) h.flowing.near;
    tracks = posted_tracks (λ q. 0) (λ q. 0) s now before.tables act refl refl refl refl refl (λ w m. m) refl (λ q. omega (arith, turned (grants_here q))) (λ q. omega (arith, turned (grants_here q)))
        (λ q. omega (arith, turned (leads_away s.tables.here q)));
    counts = counts_near s now (Sent name) refl (omega arith) (omega arith) (omega arith) (omega arith) (omega arith) (λ l. refl) (omega arith);
  }
    where
      costs : (row : Row) → goes r row (Sent name) + of_act row ≡ causes r row (Sent name)
      costs = by_rows (λ row. goes r row (Sent name) + of_act row ≡ causes r row (Sent name)) refl refl refl refl refl refl refl refl refl refl refl (λ o. refl) (λ o to. refl) (λ o to. refl) (λ o to. refl) (λ o. refl)

pub sent_step : (r : Rules) (s s' : Turn) (entries : List Entry) (a : Name) → IsSound r s entries → Sends s a s' → Keeps r s s' (Sent a)
sent_step r s s' entries a h g =
    told_as r s s' (λ n. Sent n) (λ n. posts (named_act s.tables.here (s.tables.serial + 1) g.message) (draws (record s { due = g.rest }))) a (record { origin = s.tables.here; serial = s.tables.serial + 1 }) g.name g.now
    (sent_keeps r s entries h g.message g.rest g.fresh g.due)
