-- A dead object goes.
use Rattle.hpx_steps.proofs.Common.{Untold, Among, Apply, Arrived, Ask, Brought, Cached, Give, Go, IsGranted, Leaving, Move, Parcel, Queued, Return, Shipped, Stray, messages, Accepted, Act, AllByRecursion, Came, Entry, Follows, Free, Freed, Going, Has, HasInHand, HasRightCredit, Id, IsDue, IsForHere, IsManaged, IsSound, IsTidy, IsTold, Item, List, Loose, Mailed, None, OnDesk, Pending, Row, Rules, Running, Some, Standing, StandsHere, TidyAt, Token, Turn, View, Waits, Working, [], acts_on, any_counted, ap, arith, asked_by, asks_under, bare_act, bare_due, bare_standing, causes, commits, cond, count_by, credit_list, drop, drops, false, false_from, find, find_passes, flat_map, follows_freed_mailed, follows_freed_taken, freeing, given_to, goes, held, held_here, hopping, inl, inr, is_some, is_standing, joined, list_any, map, map-append, owes, parcel_frees, refl, remove, same_object, same_object-from, same_object-refl, same_object-sym, same_object-true, session, slice_get, split_get, subst, suc, sum_by, sum_by-cons, sym, take, target_of, true, unpaid, view, waits_for, waits_here, weigh, with_credit, worth, wrote, ℕ, ◌++◌, ◌+◌, ◌∙◌, ◌∷◌, ◌≡◌, ◌≤◌, grants_here, leads_away, tells_come, flow, tells_own, Flow, flow_in, flow_freed, brought, moved_by}
use Rattle.hpx_steps.proofs.Tools.{Changes, Keeps, Sees, all_with, among_all, among_at, asks_of, by_bool, by_rows, acting, counts_near, credit_tokens, drop_change, fewer, freed_whole, frees_now, frees_of, hand_fit, hand_weighs, holding, ids_each, in_hand, is_frame, less_commits, loose_change, more_come, none_of, none_sum, objects_change, one_goes, same_asks, same_dead, sees_by, sees_leads, single_less, stand_less, target-bare, then, total, total_map, view_worth, zeros, same_travels, same_waits, ships_of, same_tracks, same_says, same_flows, by_flows}
use Rattle.hpx_steps.specs.Steps.{Frees}
use Rattle.hpx_steps.proofs.Unheld.{none_accepted, none_fired, none_leaves, none_waits}

module _ (r : Rules) (s : Turn) (entries : List Entry) (h : IsSound r s entries) (o : Id) (i : ℕ) (x : Standing) (due : s.due ≡ []) (fresh : s.fresh ≡ []) (alone : s.working ≡ [])
    (told : IsTold r (Free o) s) (there : slice_get s.tables.objects i ≡ Some x) (found : find (is_standing o) s.tables.objects ≡ Some x)
    (idle : waits_here s.tables o ≡ false) (unheld : held_here s.tables o ≡ 0) where
  pub hand : HasInHand (Free o) s
  hand = grind arith

  abbrev now : Turn
  now = wrote (Freed o) (record (drops s) { loose = s.loose ++ with_credit x.state.ids; tables = record s.tables { objects = remove s.tables.objects i } })

  abbrev was : Item
  was = in_hand (is_frame (Free o) s hand) (Free o)

  abbrev looses : List Item
  looses = map (λ id. Loose id) (with_credit x.state.ids)

  abbrev less : Turn
  less = record (drops s) { tables = record s.tables { objects = remove s.tables.objects i } }

  pub change : Changes (in_hand (is_frame (Free o) s hand) (Free o) ∷ StandsHere x ∷ []) (map (λ id. Loose id) (with_credit x.state.ids)) s now
  change = then (was ∷ []) [] (StandsHere x ∷ []) looses s (drops s) now (drop_change (Free o) s hand) (then (StandsHere x ∷ []) [] [] looses (drops s) less now
      (objects_change (StandsHere x ∷ []) [] (drops s) (remove s.tables.objects i) (one_goes (λ y. StandsHere y) s.tables.objects i x there))
      (loose_change [] looses less (s.loose ++ with_credit x.state.ids) (more_come (λ y. Loose y) s.loose (with_credit x.state.ids))))

  moves : (f : Item → ℕ) → weigh f now + (f was + f (StandsHere x)) ≡ weigh f s + sum_by (λ id. f (Loose id)) (with_credit x.state.ids)
  moves f =
      let k : weigh f now + (f was + (f (StandsHere x) + 0)) ≡ weigh f s + total f looses = change.0 f in
      omega (arith, k, total_map (λ id. Loose id) f (with_credit x.state.ids))

  -- one that sees neither the Free nor the object
  stays : (f : Item → ℕ) → f (Came (Free o)) ≡ 0 → f (Mailed (Free o)) ≡ 0 → f (StandsHere x) ≡ 0 → ((id : Id) → f (Loose id) ≡ 0) → weigh f now ≡ weigh f s
  stays f a b c d = omega (arith, moves f, hand_weighs (Free o) s hand f 0 a b, c, none_sum (λ id. f (Loose id)) (with_credit x.state.ids) d)

  bare_o : (o.log ≡ None) × (16 ≤ o.kind)
  bare_o = hand_fit (Free o) s h.tidy hand

  same : same_object o x.object ≡ true
  same = find_passes (is_standing o) s.tables.objects x found

  kept : TidyAt s (StandsHere x)
  kept = h.tidy (StandsHere x) (among_at s.tables.objects i x there)

  managed : IsManaged o
  managed = let kind : o.kind ≡ x.object.kind = ap (λ (y : Id). y.kind) (same_object-true o x.object same) in
      let most : x.object.kind ≤ 63 = kept.0.kind in (bare_o.1, omega (arith, kind, most))

  all_idle : list_any (λ (w : Waits). acts_on o w.job.action) (commits s) ≡ false
  all_idle = ap (λ ws. list_any (λ (w : Waits). acts_on o w.job.action) (ws ++ s.tables.pending)) alone ∙ idle

  credit : AllByRecursion HasRightCredit x.state.ids
  credit = freed_whole s.tables.objects s.tables.running (commits s) i x there o same all_idle h.commits

  -- another object that stands here still does
  other : (q : Id) → same_object q x.object ≡ false → is_some (find (is_standing q) s.tables.objects) ≡ true → is_some (find (is_standing q) (remove s.tables.objects i)) ≡ true
  other q off = stand_less (is_standing q) s.tables.objects i x there off

  accepted_off : (xs : List Act) → list_any (acts_on o) (map bare_act xs) ≡ false → AllByRecursion (λ (a : Act). same_object (target_of a) x.object ≡ false) xs
  accepted_off [] none = tt
  accepted_off (a ∷ rest) none =
      let parts = none_of (acts_on o (bare_act a)) (list_any (acts_on o) (map bare_act rest)) none in (
        false_from (same_object (target_of a) x.object) (λ t.
            let e : true ≡ false = sym (same_object-from o x.object (target_of a) same ∙ same_object-sym (target_of a) x.object t)
            ∙ (sym (ap (same_object o) (target-bare a)) ∙ parts.0) in cc),
        accepted_off rest parts.1,
      )

  -- so does one that is to leave
  leaves : (p : Parcel) → Among p s.tables.leaving → IsGranted s.tables.here s.tables.objects p → IsGranted s.tables.here (remove s.tables.objects i) p
  leaves (Go a) m k = (k.0, other (target_of a) ((accepted_off (a ∷ []) (none_leaves o s h.tidy bare_o.1 unheld a m)).0) k.1)
  leaves (Apply act) m k = absurd k
  leaves (Move act) m k = absurd k
  leaves (Shipped act state) m k = absurd k
  leaves (Return id) m k = absurd k
  leaves (Ask id asker entry) m k = absurd k
  leaves (Give id entry) m k = absurd k
  leaves (Cached id place) m k = absurd k
  leaves (Arrived id place) m k = absurd k
  leaves (Free id) m k = absurd k

  retidied : (y : Item) → Has s y → TidyAt now y
  retidied (Accepted a) m =
      let k = h.tidy (Accepted a) m in (
        k.0,
        k.1,
        other (target_of a) (among_all (λ (b : Act). same_object (target_of b) x.object ≡ false) a s.tables.accepted m (accepted_off s.tables.accepted (none_accepted o s h.tidy bare_o.1 unheld))) k.2,
      )
  retidied (Came p) m = h.tidy (Came p) m
  retidied (Mailed p) m = h.tidy (Mailed p) m
  retidied (OnDesk p) m = h.tidy (OnDesk p) m
  retidied (Going p) m = h.tidy (Going p) m
  retidied (Queued p) m = h.tidy (Queued p) m
  retidied (Leaving p) m = let k = h.tidy (Leaving p) m in (k.0, leaves p m k.1)
  retidied (Stray p) m = h.tidy (Stray p) m
  retidied (Brought p) m = h.tidy (Brought p) m
  retidied (Untold p) m = tt
  retidied (Running p) m = h.tidy (Running p) m
  retidied (Pending p) m = h.tidy (Pending p) m
  retidied (Working p) m = h.tidy (Working p) m
  retidied (StandsHere p) m = h.tidy (StandsHere p) m
  retidied (IsDue p) m = h.tidy (IsDue p) m
  retidied (Loose p) m = h.tidy (Loose p) m

  tidy : IsTidy now
  tidy = holding (TidyAt now) looses s now change.1 retidied (all_of (with_credit x.state.ids) (all_with x.state.ids credit))
    where
      all_of : (ids : List Id) → AllByRecursion HasRightCredit ids → AllByRecursion (TidyAt now) (map (λ id. Loose id) ids)
      all_of [] k = tt
      all_of (id ∷ ids) k = (k.0, all_of ids k.1)

  abbrev l : List Standing
  l = map bare_standing (take i s.tables.objects)

  abbrev m : List Standing
  m = map bare_standing (drop (suc i) s.tables.objects)

  objects_are : map bare_standing s.tables.objects ≡ l ++ bare_standing x ∷ m
  objects_are = ap (map bare_standing) (split_get s.tables.objects i x there) ∙ map-append bare_standing (take i s.tables.objects) (x ∷ drop (suc i) s.tables.objects)

  abbrev seen : View
  seen = record (view s) { objects = l ++ m; last = Some (Freed o) }

  sees : Sees seen now
  sees = sees_by seen now refl
      (λ f. same_waits f s now (omega (arith, stays (acting f) refl refl refl (λ id. refl))))
      (λ f. same_travels f s now (omega (arith, stays (ships_of f) refl refl refl (λ id. refl))))
      (λ f fair. omega (arith, view_worth f s, view_worth f now, moves (worth f), freed_tokens f, ids_each f (with_credit x.state.ids), credit_tokens f x.state.ids)) (λ q. refl)
      (λ q. same_asks q s now (omega (arith, stays (asks_of q) refl refl refl (λ id. refl)))) (λ q. same_dead q s now (omega (arith, moves (frees_of q), zeros (with_credit x.state.ids))))
      (ap (λ os. record seen { objects = os }) (sym (map-append bare_standing (take i s.tables.objects) (drop (suc i) s.tables.objects))))
    where
      -- a Free has no credit
      freed_tokens : (f : Token → ℕ) → worth f was ≡ 0
      freed_tokens f = let none : sum_by f (map held (credit_list o o.log ++ [])) ≡ 0 = ap (λ lg. sum_by f (map held (credit_list o lg ++ []))) bare_o.0 in hand_weighs (Free o) s hand (worth f) 0 none none

  follows : Follows r (view s) (Freed o) (record (view s) { objects = l ++ m; last = Some (Freed o) })
  follows = elim told [
    | inl k ↦ follows_freed_mailed r (view s) o (bare_standing x) l m (ap (map bare_due) due) fresh managed bare_o.0 objects_are same
        (none_waits o s h.tidy bare_o.1 unheld (Free o) hand refl) (none_fired o s h.tidy bare_o.1 unheld idle alone) k.2
        (let home : IsForHere s.tables.localities s.tables.here (Free o) = (h.tidy (Mailed (Free o)) (rw k.1 (inl refl))).1 in sym home.may)
        (any_counted (same_object o) (view s).dead (dead_one k.1))
    | inr k ↦ follows_freed_taken r (view s) o (bare_standing x) l m (ap (map bare_due) due) fresh managed bare_o.0 objects_are same
        (none_waits o s h.tidy bare_o.1 unheld (Free o) hand refl) (none_fired o s h.tidy bare_o.1 unheld idle alone) k.2.0 k.2.1 k.2.2
  ]
    where
      dead_one : s.mailed ≡ Free o ∷ [] → 1 ≤ count_by (same_object o) (view s).dead
      dead_one is = subst (λ ps. 1 ≤ count_by (same_object o) (flat_map parcel_frees (ps ++ messages s.tables))) (sym is) (omega (
        arith,
        sum_by-cons (λ q. cond (same_object o q) 1 0) o (flat_map parcel_frees (messages s.tables)),
        ap {B = ℕ} (λ b. cond b 1 0) (same_object-refl o),
      ))

  pub freed_keeps : Keeps r s now (Freed o)
  freed_keeps = record {
    leads = (seen, follows, sees_leads r seen now sees);
    tidy = tidy;
    places = record {
      serves = λ zero. other session (false_from (same_object session x.object) (λ t.
          let kind : 1 ≡ x.object.kind = ap (λ (y : Id). y.kind) (same_object-true session x.object t) in
          let kind_o : o.kind ≡ x.object.kind = ap (λ (y : Id). y.kind) (same_object-true o x.object same) in
          let least : 16 ≤ o.kind = bare_o.1 in absurd (omega (arith, kind, kind_o, least)))) (h.places.serves zero);
      unborn = h.places.unborn;
      places = h.places.places;
      single = single_less s.tables.objects i h.places.single;
      once = h.places.once;
    };
    commits = less_commits s.tables.objects s.tables.running (commits s) i x there o same all_idle h.commits;
    numbered = fewer s now (omega arith) (λ n. omega (arith, stays (asks_under n) refl refl refl (λ id. refl)));
    pays = record {
      rows = λ row own. omega (arith, moves (unpaid row), zeros (with_credit x.state.ids), hand_weighs (Free o) s hand (unpaid row) (owes row (Free o)) refl refl, costs row);
      once = omega (arith, stays hopping refl refl refl (λ id. refl));
      fired = omega (arith, stays joined refl refl refl (λ id. refl));
      frees = λ q. omega (arith, moves (freeing q), zeros (with_credit x.state.ids), by_bool (λ b. freeing q (in_hand b (Free o)) ≤ frees_now q (Freed o)) (omega arith) (omega arith) (is_frame (Free o) s hand));
    };
    orders = record {
      sent = tt;
      asked = λ q n. omega (arith, stays (asked_by s.tables.here q n) refl refl refl (λ id. refl), stays (waits_for q n) refl refl refl (λ id. refl));
      given = λ k d q n. omega (arith, stays (given_to k q n) refl refl refl (λ id. refl));
    };
    says = same_says (λ q j. 0) (λ q. 0) s now refl (λ q j. omega (arith, stays (tells_come q j) refl refl refl (λ id. refl))) (λ q. omega (arith, stays (tells_own q) refl refl refl (λ id. refl)));
    arrived = λ a. omega (arith, h.arrived a, stays (brought a) refl refl refl (λ id. refl), stays (moved_by a) refl refl refl (λ id. refl));
    flows = same_flows r (Some (Freed o)) s now refl (λ o. refl) (λ f own. omega (arith, moves (flow s.tables.here f), zeros (with_credit x.state.ids), hand_weighs (Free o) s hand (flow s.tables.here f) (flow_in s.tables.here f (Free o)) refl refl, freed_flow f));
    tracks = same_tracks (λ q. 0) (λ q. 0) s now (λ q. refl) refl refl (λ q. omega (arith, stays (grants_here q) refl refl refl (λ id. refl))) (λ q. omega (arith, stays (leads_away s.tables.here q) refl refl refl (λ id. refl)));
    counts = counts_near s now (Freed o) refl (omega arith) (omega arith) (omega arith) (omega arith) (omega arith) (λ lc. refl) (omega arith);
  }
    where
      freed_flow : (f : Flow) → flow_in s.tables.here f (Free o) ≡ flow_freed s.tables.here f o
      freed_flow = by_flows (λ f. flow_in s.tables.here f (Free o) ≡ flow_freed s.tables.here f o) (λ q t. refl) (λ q j. refl) (λ q j. omega arith)

      costs : (row : Row) → goes r row (Freed o) ≡ owes row (Free o) + causes r row (Freed o)
      costs = by_rows (λ row. goes r row (Freed o) ≡ owes row (Free o) + causes r row (Freed o)) (omega arith) (omega arith) (omega arith) (omega arith) (omega arith) (omega arith) (omega arith) (omega arith) (omega arith) (omega arith) (omega arith) (λ q. omega arith) (λ q to. omega arith) (λ q to. omega arith) (λ q to. omega arith) (λ q. omega arith)

pub freed_step : (r : Rules) (s s' : Turn) (entries : List Entry) (o : Id) → IsSound r s entries → Frees r s o s' → Keeps r s s' (Freed o)
freed_step r s s' entries o h g = subst (λ x. Keeps r s x (Freed o)) (sym g.now) (freed_keeps r s entries h o g.i g.x g.calm.due g.calm.fresh g.alone g.told g.there g.found g.idle g.unheld)
