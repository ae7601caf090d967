-- A line is fed.
use Rattle.hpx_steps.proofs.Common.{sym, ap, Accept, session, way, Accepted, Act, Entry, Feeds, IsFit, IsSound, Line, List, Name, Rules, Some, TidyAt, Turn, View, [], arith, bare_due, draws, follows_line, length, line_act, map, posts, refl, subst, view, waiting, worth, wrote, ℕ, ◌+◌, ◌∷◌, ◌≡◌, ◌≤◌, sum_by-cons, grants_here, weigh, leads_away, tells_come, flow, tells_own, brought, moved_by}
use Rattle.hpx_steps.proofs.Tools.{begins_counted, begins_places, root_stays, Changes, Keeps, Sees, asks_of, by_rows, counts_near, frees_of, holding, numbered_so, orders_so, pays_so, post_change, put_as, same_asks, same_dead, sees_by, sees_leads, told_as, view_worth, same_travels, ships_of, acting, wait_sum, posted_tracks, posted_says, posted_flows}

-- a line is well formed
line_fit : (a : Name) (bytes : List ℕ) → length bytes ≤ 1025 → IsFit (line_act a bytes)
line_fit a bytes short = grind arith

module _ (r : Rules) (s : Turn) (entries : List Entry) (h : IsSound r s entries) (bytes : List ℕ) (due : s.due ≡ []) (fresh : s.fresh ≡ []) (first : s.tables.here ≡ 0)
    (short : length bytes ≤ 1025) where
  abbrev name : Name
  name = record { origin = s.tables.here; serial = s.tables.serial + 1 }

  abbrev act : Act
  act = line_act name bytes

  abbrev now : Turn
  now = wrote (Line (record { origin = s.tables.here; serial = s.tables.serial + 1 }) bytes) (posts (line_act (record { origin = s.tables.here; serial = s.tables.serial + 1 }) bytes) (draws s))

  -- the session stands here and does not move, so the line is accepted
  accepts_it : way s.tables act ≡ Accept
  accepts_it = rw (h.places.serves first, root_stays s h.tidy session (omega arith)) refl

  pub change : Changes [] (Accepted (line_act (record { origin = s.tables.here; serial = s.tables.serial + 1 }) bytes) ∷ []) s now
  change = subst (λ v. Changes [] (put_as s.tables v act ∷ []) s now) accepts_it (post_change act (draws s))

  abbrev seen : View
  seen = record (view s) { serial = s.tables.serial + 1; waiting = act ∷ waiting s; last = Some (Line name bytes) }

  sees : Sees seen now
  sees = sees_by seen now refl (λ f. omega (arith, sum_by-cons f act (waiting s), wait_sum f s, wait_sum f now, change.0 (acting f))) (λ f. same_travels f s now (omega (arith, change.0 (ships_of f))))
      (λ f weight. omega (arith, view_worth f s, view_worth f now, change.0 (worth f))) (λ x. refl)
      (λ x. same_asks x s now (omega (arith, change.0 (asks_of x)))) (λ x. same_dead x s now (omega (arith, change.0 (frees_of x))))
      (ap (λ l. record seen { live = l }) (sym (begins_counted (way s.tables act) act s.tables.records)))

  pub line_keeps : Keeps r s now (Line name bytes)
  line_keeps = record {
    leads = (seen, follows_line r (view s) [] (waiting s) bytes (ap (map bare_due) due) fresh first short refl, sees_leads r seen now sees);
    tidy = holding (TidyAt s) (Accepted act ∷ []) s now change.1 h.tidy ((line_fit name bytes short, tt, h.places.serves first), tt);
    places = begins_places (draws s).tables act h.places;
    commits = h.commits;
    numbered = numbered_so r s now (Line name bytes) [] (Accepted act ∷ []) change.0 (omega arith) (λ n. omega arith);
    pays = pays_so r s now (Line name bytes) [] (Accepted act ∷ []) change.0 (by_rows _ (λ at. omega arith) (λ at. omega arith) (λ at. omega arith) (λ at. omega arith) (λ at. omega arith) (λ at. omega arith) (λ at. omega arith) (λ at. omega arith) (λ at. omega arith) (λ at. omega arith) (λ at. omega arith) (λ o at. omega arith) (λ o to at. omega arith) (λ o to at. omega arith) (λ o to at. omega arith) (λ o at. omega arith)) (omega arith) (omega arith) (λ o. omega arith);
    orders = orders_so r s now (Line name bytes) [] (Accepted act ∷ []) change.0 tt (λ o n. omega arith) (λ j d o n. omega arith);
    says = posted_says (λ q j. 0) (λ q. 0) s now (draws s).tables act refl refl (λ q j. omega (arith, change.0 (tells_come q j)))
        (λ q. omega (arith, change.0 (tells_own q)));
    arrived = λ a. omega (arith, h.arrived a, change.0 (brought a), change.0 (moved_by a));
    flows = posted_flows r (Some (Line name bytes)) s now (draws s).tables act refl refl refl refl (λ o. refl) (λ f. refl) (λ f. refl) (λ f. subst (λ v. weigh (flow s.tables.here f) now ≡ weigh (flow s.tables.here f) s + flow s.tables.here f (put_as s.tables v act)) (sym accepts_it) (omega (arith, change.0 (flow s.tables.here f)))) h.flowing.near;
    tracks = posted_tracks (λ q. 0) (λ q. 0) s now (draws s).tables act refl refl refl refl refl (λ w m. m) refl (λ q. omega (arith, change.0 (grants_here q)))
        (λ q. subst (λ v. grants_here q (put_as s.tables v act) ≤ weigh (grants_here q) now) (sym accepts_it) (omega arith)) (λ q. omega (arith, change.0 (leads_away s.tables.here q)));
    counts = counts_near s now (Line name bytes) refl (omega arith) (omega arith) (omega arith) (omega arith) (omega arith) (λ l. refl) (omega arith);
  }

pub line_step : (r : Rules) (s s' : Turn) (entries : List Entry) (a : Name) (bytes : List ℕ) → IsSound r s entries → Feeds s a bytes s' → Keeps r s s' (Line a bytes)
line_step r s s' entries a bytes h g = grind (arith, told_as, line_keeps)
