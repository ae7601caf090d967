-- A message in hand is put aside, without an entry: what grants a move, or what stays for good.
use Rattle.hpx_steps.proofs.Common.{Bool, Id, cond, grants, list_any, same_object-true, sum_by-append, sum_by-cons, bare_act, eq-eqb, Act, Apply, Arrived, Ask, Cached, Came, Entry, Free, Give, Go, HasInHand, IfSome, IsSound, IsStray, Item, Leaving, List, Mailed, Marks, Move, None, Option, Parcel, Parks, Return, Rules, Shipped, Some, Stray, TidyAt, Turn, [], and_true, ap, arith, asked_by, asks_as, asks_for, asks_under, count_by, drops, false, freeing, frees_one, given_to, gives_for, hopping, inl, inr, is_to, joined, leaves_here, move_to, not, owes, parcel_acts, parcel_asks, parcel_frees, parcel_tokens, parcel_travels, refl, same_object, stands_here, subst, sum_by, sym, target_of, true, unpaid, view, waits_for, weigh, worth, ℕ, ◌++◌, ◌+◌, ◌∙◌, ◌∷◌, ◌≡◌, ◌≢◌, ◌≤◌, ◌⊎◌, grants_here, grants_of, Among, away_here, leads_away, tells_come, tells_at, flow, flow_in, flow_go, Flow, tells_own, tell_of, brought, moved_by}
use Rattle.hpx_steps.proofs.Tools.{if_so, none_of, Changes, Sees, Stills, acting, asks_of, drop_change, fewer, frees_of, hand_fit, hand_weighs, holding, in_hand, is_frame, leaving_change, more_come, move_to-bare, same_asks, same_dead, same_travels, same_waits, sees_leads, ships_of, stray_change, then, view_worth, same_says, same_flows, by_flows}
use Rattle.hpx_steps.proofs.Common.{State, Local, Shows, Travel, bare_state, flat_map, messages, IsParcel, same_object-refl, ◌<◌}
use Rattle.hpx_journal.specs.Local.{is_travel}
use Rattle.hpx_parcel.specs.Parcels.{IsMovable}
use Rattle.hpx_steps.proofs.Puts.{target-bare}
use Rattle.hpx_steps.proofs.Then.{AreDrawn}
use Rattle.hpx_steps.proofs.Changes.{among_either}

-- a message with an action
abbrev HasAct : Parcel → Type 0
HasAct (Apply act) = Unit {0}
HasAct (Move act) = Unit {0}
HasAct (Go act) = Unit {0}
HasAct (Shipped act state) = Unit {0}
HasAct _ = ⊥

count_none : (p : Parcel → Bool) (xs : List Parcel) → list_any p xs ≡ false → count_by p xs ≡ 0
count_none p [] h = refl
count_none p (x ∷ xs) h = let k = none_of (p x) (list_any p xs) h in omega (arith, sum_by-cons (λ q. cond (p q) 1 0) x xs, ap {B = ℕ} (λ b. cond b 1 0) k.0, count_none p xs k.1)

not_true : (b : Bool) → not b ≡ true → b ≡ false
not_true true h = cc
not_true false h = refl

one_at_most : (b : Bool) → cond b 1 0 ≤ 1
one_at_most true = omega arith
one_at_most false = omega arith

-- what counts none of these counts nothing
none_of_acts : (f : Parcel → ℕ) → ((act : Act) → f (Apply act) ≡ 0) → ((act : Act) → f (Move act) ≡ 0) → ((act : Act) → f (Go act) ≡ 0)
    → ((act : Act) (state : _) → f (Shipped act state) ≡ 0) → (p : Parcel) → HasAct p → f p ≡ 0
none_of_acts f a b c d (Apply act) h = a act
none_of_acts f a b c d (Move act) h = b act
none_of_acts f a b c d (Go act) h = c act
none_of_acts f a b c d (Shipped act state) h = d act state
none_of_acts f a b c d (Return id) h = absurd h
none_of_acts f a b c d (Ask id asker entry) h = absurd h
none_of_acts f a b c d (Give id entry) h = absurd h
none_of_acts f a b c d (Cached id place) h = absurd h
none_of_acts f a b c d (Arrived id place) h = absurd h
none_of_acts f a b c d (Free id) h = absurd h

module _ (r : Rules) (s : Turn) (entries : List Entry) (h : IsSound r s entries) (p : Parcel) (hand : HasInHand p s) (has : HasAct p) (ls xs : List Parcel) (item : Item)
    (sort : (item ≡ Leaving p) ⊎ (item ≡ Stray p)) (more : Changes [] (item ∷ []) (drops s) (record (drops s) { tables = record s.tables { leaving = ls; stray = xs } }))
    (fit : TidyAt s item) (joins : joined (Mailed p) ≤ joined item) (once : (o : Id) → count_by (grants o) ls ≤ 1)
    (stays : (act : Act) → Among (Apply act) xs → Among (Apply act) s.tables.stray ⊎ (away_here s.tables (target_of act) ≡ true))
    (lands : (act : Act) (state : State) → Among (Shipped act state) xs → Among (Shipped act state) s.tables.stray
    ⊎ ((is_to s.tables.here (move_to act) ≡ false) ⊎ ((l : Local) → Shows (view s) l → AreDrawn s.tables.here l → ⊥))) where
  abbrev now : Turn
  now = record (drops s) { tables = record s.tables { leaving = ls; stray = xs } }

  abbrev was : Item
  was = in_hand (is_frame p s hand) p

  pub change : Changes (was ∷ []) (item ∷ []) s now
  change = then (was ∷ []) [] [] (item ∷ []) s (drops s) now (drop_change p s hand) more

  turns : (w : Item → ℕ) → weigh w now + w was ≡ weigh w s + w item
  turns w = let k : weigh w now + (w was + 0) ≡ weigh w s + (w item + 0) = change.0 w in omega (arith, k)

  -- a weight that sees the same wherever it is
  moves : (w : Item → ℕ) (n : ℕ) → w (Came p) ≡ n → w (Mailed p) ≡ n → w (Leaving p) ≡ n → w (Stray p) ≡ n → weigh w now ≡ weigh w s
  moves w n a b c d = omega (arith, turns w, hand_weighs p s hand w n a b, either sort)
    where
      either : (item ≡ Leaving p) ⊎ (item ≡ Stray p) → w item ≡ n
      either (inl e) = ap w e ∙ c
      either (inr e) = ap w e ∙ d

  none : (f : Parcel → ℕ) → ((act : Act) → f (Apply act) ≡ 0) → ((act : Act) → f (Move act) ≡ 0) → ((act : Act) → f (Go act) ≡ 0) → ((act : Act) (state : _) → f (Shipped act state) ≡ 0) → f p ≡ 0
  none f a b c d = none_of_acts f a b c d p has

  no_told : (f : Flow) → flow_in s.tables.here f p ≡ flow_go s.tables.here f p
  no_told = by_flows (λ f. flow_in s.tables.here f p ≡ flow_go s.tables.here f p)
      (λ o t. let k = none (tells_at o t) (λ a. refl) (λ a. refl) (λ a. refl) (λ a b. refl) in omega (arith, k))
      (λ o j. let k = none (tells_at o j) (λ a. refl) (λ a. refl) (λ a. refl) (λ a b. refl) in omega (arith, k))
      (λ o j. let k = none (tells_at o j) (λ a. refl) (λ a. refl) (λ a. refl) (λ a b. refl) in omega (arith, k))

  sees : Sees (view s) now
  sees = record {
    rest = refl;
    waiting = λ f. same_waits f s now (moves (acting f) (sum_by f (parcel_acts p)) refl refl refl refl);
    fired = λ f. refl;
    objects = λ f. refl;
    travels = λ f. same_travels f s now (moves (ships_of f) (sum_by f (parcel_travels p)) refl refl refl refl);
    tokens = λ f weight. omega (arith, view_worth f s, view_worth f now, moves (worth f) (sum_by f (parcel_tokens p)) refl refl refl refl);
    asking = λ x. refl;
    asks = λ x. same_asks x s now (moves (asks_of x) (count_by (same_object x) (parcel_asks p)) refl refl refl refl);
    live = λ x home. refl;
    dead = λ x.
        let k : count_by (same_object x) (parcel_frees p) ≡ 0 = none (λ q. count_by (same_object x) (parcel_frees q)) (λ a. refl) (λ a. refl) (λ a. refl) (λ a b. refl) in
        same_dead x s now (omega (arith, moves (frees_of x) 0 refl k k k));
    refusals = λ x k. k;
    failing = omega arith;
  }

  from_where : (hopping item ≤ hopping was) × (joined was ≤ joined item)
  from_where = (
    omega (arith, either sort),
    elim hand as (λ k. joined (in_hand (is_frame p s k) p) ≤ joined item) [
      | inl k ↦ omega arith
      | inr k ↦ joins
    ],
  )
    where
      either : (item ≡ Leaving p) ⊎ (item ≡ Stray p) → hopping item ≡ 0
      either (inl e) = ap hopping e
      either (inr e) = ap hopping e

  pub aside_stills : Stills r s (record (drops s) { tables = record s.tables { leaving = ls; stray = xs } })
  aside_stills = record {
    same = refl;
    leads = sees_leads r (view s) now sees;
    tidy = holding (TidyAt s) (item ∷ []) s now change.1 h.tidy (fit, tt);
    places = record { serves = h.places.serves; unborn = h.places.unborn; places = h.places.places; single = h.places.single; once = once };
    commits = h.commits;
    numbered = fewer s now (omega arith) (λ n.
        let k : asks_as n p ≡ 0 = none (asks_as n) (λ a. refl) (λ a. refl) (λ a. refl) (λ a b. refl) in
        omega (arith, moves (asks_under n) 0 refl k refl refl));
    rows = λ row own. moves (unpaid row) (owes row p) refl refl refl refl;
    once = omega (arith, turns hopping, from_where.0);
    fired = omega (arith, turns joined, from_where.1);
    frees = λ o.
        let k : frees_one o p ≡ 0 = none (frees_one o) (λ a. refl) (λ a. refl) (λ a. refl) (λ a b. refl) in
        omega (arith, moves (freeing o) 0 k refl refl refl);
    says = same_says (λ q j. 0) (λ q. 0) s now refl (λ q j. let k = none (tells_at q j) (λ a. refl) (λ a. refl) (λ a. refl) (λ a b. refl) in omega (arith, moves (tells_come q j) 0 k refl refl refl)) (λ q. let k = none (tell_of q) (λ a. refl) (λ a. refl) (λ a. refl) (λ a b. refl) in omega (arith, moves (tells_own q) 0 refl k refl refl));
    came = omega arith;
    arrived = λ a. omega (arith, h.arrived a, moves (brought a) 0 refl refl refl refl, moves (moved_by a) 0 refl refl refl refl);
    flows = same_flows r None s now refl (λ o. refl) (λ f own. omega (arith, moves (flow s.tables.here f) (flow_go s.tables.here f p) (no_told f) (no_told f) refl refl));
    tracks = record {
      kept = λ q. omega (arith, moves (grants_here q) (grants_of q p) refl refl refl refl);
      away = λ q m. inl m;
      waits = λ w m. inl m;
      stays = stays;
      lands = lands;
      onward = λ q. inl (omega (arith, moves (leads_away s.tables.here q) 0 refl refl refl refl));
    };
    asked = λ o n.
        let k : asks_for s.tables.here o n p + gives_for o n p ≡ 0 = none (λ q. asks_for s.tables.here o n q + gives_for o n q) (λ a. refl) (λ a. refl) (λ a. refl) (λ a b. refl) in
        omega (arith, moves (asked_by s.tables.here o n) 0 k k refl refl, moves (waits_for o n) 0 refl refl refl refl);
    given = λ j d o n.
        let k : asks_for j o n p ≡ 0 = none (asks_for j o n) (λ a. refl) (λ a. refl) (λ a. refl) (λ a b. refl) in
        omega (arith, moves (given_to j o n) 0 k k refl refl);
  }

-- a move that was granted
pub mark_step : (r : Rules) (s s' : Turn) (entries : List Entry) → IsSound r s entries → Marks s s' → Stills r s s'
mark_step r s s' entries h g = subst (Stills r s) (sym g.now) (aside_stills r s entries h (Go g.act) g.hand tt (s.tables.leaving ++ Go g.act ∷ []) s.tables.stray (Leaving (Go g.act)) (inl refl)
    (leaving_change [] (Leaving (Go g.act) ∷ []) (drops s) (s.tables.leaving ++ Go g.act ∷ []) (more_come Leaving s.tables.leaving (Go g.act ∷ [])))
    (hand_fit (Go g.act) s h.tidy g.hand, (goes_away (move_to g.act) (move_to-bare g.act) g.away, (and_true (stands_here s.tables (target_of g.act)) (not (leaves_here s.tables (target_of g.act))) g.stays).0)) (omega arith) once_more (λ act m. inl m) (λ act state m. inl m))
  where
    goes_away : (to : Option ℕ) → move_to (bare_act g.act) ≡ to → is_to s.tables.here to ≡ false → IfSome (move_to (bare_act g.act)) (λ k. k ≢ s.tables.here)
    goes_away None e f = subst (λ m. IfSome m (λ k. k ≢ s.tables.here)) (sym e) tt
    goes_away (Some k) e f = subst (λ m. IfSome m (λ j. j ≢ s.tables.here)) (sym e) (λ same. let t : true ≡ false = sym (eq-eqb k s.tables.here same) ∙ f in cc)

    none_yet : (o : Id) → same_object o (target_of g.act) ≡ true → count_by (grants o) s.tables.leaving ≡ 0
    none_yet o t = count_none (grants o) s.tables.leaving (ap (λ (k : Id). list_any (grants k) s.tables.leaving) (same_object-true o (target_of g.act) t)
        ∙ not_true (leaves_here s.tables (target_of g.act)) (and_true (stands_here s.tables (target_of g.act)) (not (leaves_here s.tables (target_of g.act))) g.stays).1)

    once_more : (o : Id) → count_by (grants o) (s.tables.leaving ++ Go g.act ∷ []) ≤ 1
    once_more o = if_so (same_object o (target_of g.act))
        (λ t. omega (arith, sum_by-append (λ q. cond (grants o q) 1 0) s.tables.leaving (Go g.act ∷ []), sum_by-cons (λ q. cond (grants o q) 1 0) (Go g.act) [], none_yet o t, one_at_most (grants o (Go g.act))))
        (λ f. omega (arith, sum_by-append (λ q. cond (grants o q) 1 0) s.tables.leaving (Go g.act ∷ []), sum_by-cons (λ q. cond (grants o q) 1 0) (Go g.act) [], h.places.once o, ap {B = ℕ} (λ b. cond b 1 0) f))

-- what travels with a message in hand is seen
hand_travels : (f : Travel → ℕ) (p : Parcel) (s : Turn) → HasInHand p s → sum_by f (parcel_travels p) ≤ sum_by f (view s).travels
hand_travels f p s (inl h) = rw (h.0, h.1) (omega (arith, sum_by-append f (parcel_travels p) (flat_map parcel_travels (messages s.tables))))
hand_travels f p s (inr h) = rw (h.0, h.1) (omega (arith, sum_by-append f (parcel_travels p) (flat_map parcel_travels (messages s.tables))))

-- an object in hand has a number of here that was drawn, or none of here
undrawn : (s : Turn) (act : Act) (state : State) → HasInHand (Shipped act state) s → IsParcel (Shipped act state) → (to : ℕ) → move_to act ≡ Some to
    → (target_of act).home ≡ s.tables.here → s.tables.births < (target_of act).number → (l : Local) → Shows (view s) l → AreDrawn s.tables.here l → ⊥
undrawn s act state hand fit to moves home late l shows drawn =
    let o = target_of act in
    let travel : Travel = record { object = target_of (bare_act act); state = bare_state state; to = to } in
    let is : parcel_travels (Shipped act state) ≡ travel ∷ [] = rw (move_to-bare act ∙ moves) refl in
    let own : is_travel o travel ≡ true = rw (target-bare act) (same_object-refl o) in
    let none = drawn o (managed act.ids refl fit.0.target) home (inr (omega (arith, late, shows.objects.number))) in
    omega (
      arith,
      none,
      shows.objects.travels.counts o,
      hand_travels (λ x. cond (is_travel o x) 1 0) (Shipped act state) s hand,
      ap (sum_by (λ x. cond (is_travel o x) 1 0)) is,
      sum_by-cons (λ x. cond (is_travel o x) 1 0) travel [],
      ap {B = ℕ} (λ b. cond b 1 0) own,
    )
  where
    managed : (ids : List Id) → act.ids ≡ ids → IsMovable ids → 16 ≤ (target_of act).kind
    managed [] e k = absurd k
    managed (id ∷ ids) e k = rw e k.0

-- a message that stays for good
pub park_step : (r : Rules) (s s' : Turn) (entries : List Entry) → IsSound r s entries → Parks s s' → Stills r s s'
park_step r s s' entries h g = subst (Stills r s) (sym g.now) (aside_stills r s entries h g.parcel g.hand (acts g.parcel g.sort) s.tables.leaving (s.tables.stray ++ g.parcel ∷ []) (Stray g.parcel) (inr refl)
    (stray_change [] (Stray g.parcel ∷ []) (drops s) (s.tables.stray ++ g.parcel ∷ []) (more_come Stray s.tables.stray (g.parcel ∷ [])))
    (hand_fit g.parcel s h.tidy g.hand, g.sort) (omega arith) h.places.once stays lands)
  where
    stays : (act : Act) → Among (Apply act) (s.tables.stray ++ g.parcel ∷ []) → Among (Apply act) s.tables.stray ⊎ (away_here s.tables (target_of act) ≡ true)
    stays act m = elim (among_either (Apply act) s.tables.stray (g.parcel ∷ []) m) [
      | inl k ↦ inl k
      | inr k ↦ elim k [
        | inl e ↦ inr (g.away act e)
        | inr n ↦ absurd n
      ]
    ]

    lands : (act : Act) (state : State) → Among (Shipped act state) (s.tables.stray ++ g.parcel ∷ []) → Among (Shipped act state) s.tables.stray
        ⊎ ((is_to s.tables.here (move_to act) ≡ false) ⊎ ((l : Local) → Shows (view s) l → AreDrawn s.tables.here l → ⊥))
    lands act state m = elim (among_either (Shipped act state) s.tables.stray (g.parcel ∷ []) m) [
      | inl k ↦ inl k
      | inr k ↦ elim k [
        | inl e ↦ inr (strange act state e (move_to act) refl (g.strange act state e))
        | inr n ↦ absurd n
      ]
    ]
      where
        strange : (act : Act) (state : State) → g.parcel ≡ Shipped act state → (to : Option ℕ) → move_to act ≡ to
            → (is_to s.tables.here (move_to act) ≡ false) ⊎ (((target_of act).home ≡ s.tables.here) × (s.tables.births < (target_of act).number))
            → (is_to s.tables.here (move_to act) ≡ false) ⊎ ((l : Local) → Shows (view s) l → AreDrawn s.tables.here l → ⊥)
        strange act state e to moves (inl away) = inl away
        strange act state e None moves (inr late) = inl (rw moves refl)
        strange act state e (Some to) moves (inr late) = inr (λ l shows drawn.
            undrawn s act state (subst (λ p. HasInHand p s) e g.hand) (subst IsParcel e (hand_fit g.parcel s h.tidy g.hand)) to moves late.0 late.1 l shows drawn)

    acts : (p : Parcel) → IsStray p → HasAct p
    acts (Apply act) k = tt
    acts (Move act) k = tt
    acts (Shipped act state) k = tt
    acts (Go act) k = absurd k
    acts (Return id) k = absurd k
    acts (Ask id asker entry) k = absurd k
    acts (Give id entry) k = absurd k
    acts (Cached id place) k = absurd k
    acts (Arrived id place) k = absurd k
    acts (Free id) k = absurd k
