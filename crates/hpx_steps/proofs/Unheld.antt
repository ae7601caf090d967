-- Where no credit of an object is held, no action here is on it.
use Rattle.hpx_steps.proofs.Common.{Among, inl, inr, own_parcels, parcels, Accepted, Act, AllByRecursion, Apply, Arrived, Ask, Bool, Cached, Credit, Free, Give, Go, HasInHand, Id, IsFit, IsParcel, IsTidy, List, Move, None, Option, Parcel, Return, Running, Shipped, Some, Token, Turn, Waits, [], act_names, action_of, acts_on, all_named, and_false, ap, arith, bare_act, cond, credit, credit_in, credit_list, credits_of, false, fired_of, flat_map, held, held_here, ids_held, is_held, list_any, map, messages, owing, parcel_acts, parcel_tokens, pow_pos, refl, same_object, sum_by, sum_by-append, sum_by-cons, true, view, waiting, waits_here, ℕ, ◌++◌, ◌+◌, ◌∙◌, ◌∷◌, ◌≡◌, ◌≤◌}
use Rattle.hpx_steps.proofs.Tools.{all_among, flat_sum, held_acts, messages_sum, tidy_messages, ids_append, ids_flat, if_so, none_of, or_false, target-bare, weighs}

module _ (o : Id) where
  abbrev holds : Token → ℕ
  holds t = cond (is_held o t) 1 0

  one_worth : (id : Id) (log : Option ℕ) → id.log ≡ log → (b : Bool) → same_object o id ≡ b → sum_by holds (map held (credit_list id log ++ [])) ≤ cond b (credit id) 0
  one_worth id None e b same = omega arith
  one_worth id (Some log) e true same = rw (same, e) (omega (arith, pow_pos log))
  one_worth id (Some log) e false same = rw same (omega arith)

  ids_worth : (ids : List Id) → weighs holds ids ≤ credit_in o ids
  ids_worth [] = omega arith
  ids_worth (id ∷ ids) = omega (
    arith,
    ids_append holds (id ∷ []) ids,
    one_worth id id.log refl (same_object o id) refl,
    ids_worth ids,
    sum_by-cons (λ (x : Id). cond (same_object o x) (credit x) 0) id ids,
  )

  owing_holds : (cs : List Credit) → sum_by holds (map owing cs) ≡ 0
  owing_holds [] = refl
  owing_holds (c ∷ cs) = omega (arith, sum_by-cons holds (owing c) (map owing cs), owing_holds cs, ap {B = ℕ} (λ b. cond b 1 0) (and_false (same_object o c.object)))

  bare_holds : (id : Id) → id.log ≡ None → sum_by holds (map held (credit_list id id.log ++ [])) ≡ 0
  bare_holds id none = ap (λ l. sum_by holds (map held (credit_list id l ++ []))) none

  parcel_worth : (p : Parcel) → IsParcel p → sum_by holds (parcel_tokens p) ≤ credit_in o (ids_held p)
  parcel_worth (Apply act) h = ids_worth act.ids
  parcel_worth (Move act) h = ids_worth act.ids
  parcel_worth (Go act) h = ids_worth act.ids
  parcel_worth (Shipped act state) h = ids_worth (act.ids ++ state.ids)
  parcel_worth (Return id) h = omega (arith, owing_holds (credits_of (id ∷ [])))
  parcel_worth (Ask id asker entry) h = omega (arith, owing_holds (credits_of (id ∷ [])))
  parcel_worth (Give id entry) h = omega (arith, owing_holds (credits_of (id ∷ [])))
  parcel_worth (Arrived id place) h = omega (arith, owing_holds (credits_of (id ∷ [])))
  parcel_worth (Cached id place) h = omega (arith, bare_holds id h.0)
  parcel_worth (Free id) h = omega (arith, bare_holds id h.0)

  one_name : 16 ≤ o.kind → (act : Act) (ids : List Id) → act.ids ≡ ids → acts_on o act ≡ true → 1 ≤ act_names o act
  one_name managed act [] e h = grind arith
  one_name managed act (id ∷ ids) e h =
      let k : same_object o id ≡ true = rw e at h in
      rw e (omega (arith, sum_by-cons (λ x. cond (same_object o x) 1 0) id ids, ap {B = ℕ} (λ b. cond b 1 0) k))

  no_acts : 16 ≤ o.kind → (xs : List Act) → sum_by (act_names o) xs ≡ 0 → list_any (acts_on o) xs ≡ false
  no_acts managed [] h = refl
  no_acts managed (x ∷ xs) h = if_so (acts_on o x) (λ t. absurd (omega (arith, h, sum_by-cons (act_names o) x xs, one_name managed x x.ids refl t)))
      (λ t. rw t (no_acts managed xs (omega (arith, h, sum_by-cons (act_names o) x xs))))

  acts_worth : 16 ≤ o.kind → (xs : List Act) → AllByRecursion IsFit xs → sum_by (act_names o) (map bare_act xs) ≤ sum_by (λ (a : Act). credit_in o a.ids) xs
  acts_worth managed xs fit = omega (arith, held_acts o managed xs fit, ids_flat holds (λ (a : Act). a.ids) xs, each xs)
    where
      each : (ys : List Act) → sum_by (λ (a : Act). weighs holds a.ids) ys ≤ sum_by (λ (a : Act). credit_in o a.ids) ys
      each [] = omega arith
      each (y ∷ ys) = omega (arith, ids_worth y.ids, each ys, sum_by-cons (λ (a : Act). weighs holds a.ids) y ys, sum_by-cons (λ (a : Act). credit_in o a.ids) y ys)

  parcels_worth : 16 ≤ o.kind → (ps : List Parcel) → AllByRecursion IsParcel ps → sum_by (act_names o) (flat_map parcel_acts ps) ≤ sum_by (λ p. credit_in o (ids_held p)) ps
  parcels_worth managed [] h = omega arith
  parcels_worth managed (p ∷ ps) h = omega (
    arith,
    sum_by-append (act_names o) (parcel_acts p) (flat_map parcel_acts ps),
    all_named o managed p h.0,
    parcel_worth p h.0,
    parcels_worth managed ps h.1,
    sum_by-cons (λ q. credit_in o (ids_held q)) p ps,
  )

  fired_none : (running : List Act) (ws : List Waits) → list_any (acts_on o) (map bare_act running) ≡ false
      → list_any (λ (w : Waits). acts_on o w.job.action) ws ≡ false → list_any (acts_on o) (map bare_act (fired_of running ws)) ≡ false
  fired_none [] [] h i = refl
  fired_none [] (w ∷ ws) h i =
      let parts = none_of (acts_on o w.job.action) (list_any (λ (y : Waits). acts_on o y.job.action) ws) i in
      or_false (acts_on o (bare_act w.job.action)) (list_any (acts_on o) (map bare_act (map action_of ws)))
      (ap (same_object o) (target-bare w.job.action) ∙ parts.0) (fired_none [] ws refl parts.1)
  fired_none (a ∷ running) ws h i =
      let parts = none_of (acts_on o (bare_act a)) (list_any (acts_on o) (map bare_act running)) h in
      or_false (acts_on o (bare_act a)) (list_any (acts_on o) (map bare_act (fired_of running ws))) parts.0 (fired_none running ws parts.1 i)

  -- an object with no credit here has no actions here
  module _ (s : Turn) (h : IsTidy s) (managed : 16 ≤ o.kind) (unheld : held_here s.tables o ≡ 0) where
    names_none : sum_by (act_names o) (map bare_act s.tables.accepted) + sum_by (act_names o) (map bare_act s.tables.running)
        + sum_by (act_names o) (flat_map parcel_acts (messages s.tables)) ≡ 0
    names_none = omega (
      arith,
      unheld,
      acts_worth managed s.tables.accepted (all_among IsFit s.tables.accepted (λ a m. (h (Accepted a) m).0)),
      acts_worth managed s.tables.running (all_among IsFit s.tables.running (λ a m. h (Running a) m)),
      parcels_worth managed (messages s.tables) (tidy_messages s h),
    )

    pub none_accepted : list_any (acts_on o) (map bare_act s.tables.accepted) ≡ false
    none_accepted = no_acts managed (map bare_act s.tables.accepted) (omega (arith, names_none))

    -- the names in the actions of a message
    abbrev names : Parcel → ℕ
    names p = sum_by (act_names o) (parcel_acts p)

    pub none_waits : (p : Parcel) → HasInHand p s → parcel_acts p ≡ [] → list_any (acts_on o) (waiting s) ≡ false
    none_waits p hand empty = no_acts managed (waiting s) (omega (
      arith,
      names_none,
      sum_by-append (act_names o) (map bare_act s.tables.accepted) (flat_map parcel_acts (parcels s)),
      flat_sum (act_names o) parcel_acts (parcels s),
      flat_sum (act_names o) parcel_acts (messages s.tables),
      sum_by-append names s.came (own_parcels s),
      sum_by-append names s.mailed (messages s.tables),
      in_hand hand,
    ))
      where
        in_hand : HasInHand p s → sum_by names s.came + sum_by names s.mailed ≡ 0
        in_hand (inl k) = omega (arith, ap (sum_by names) k.0, ap (sum_by names) k.1, sum_by-cons names p [], ap (sum_by (act_names o)) empty)
        in_hand (inr k) = omega (arith, ap (sum_by names) k.0, ap (sum_by names) k.1, sum_by-cons names p [], ap (sum_by (act_names o)) empty)

    pub none_leaves : (act : Act) → Among (Go act) s.tables.leaving → list_any (acts_on o) (map bare_act (act ∷ [])) ≡ false
    none_leaves act m = no_acts managed (bare_act act ∷ []) (none_there names (Go act) s.tables.leaving m
        (omega (arith, names_none, flat_sum (act_names o) parcel_acts (messages s.tables), messages_sum names s.tables)))
      where
        none_there : (w : Parcel → ℕ) (p : Parcel) (xs : List Parcel) → Among p xs → sum_by w xs ≡ 0 → w p ≡ 0
        none_there w p [] k none = absurd k
        none_there w p (x ∷ xs) (inl e) none = omega (arith, none, sum_by-cons w x xs, ap w e)
        none_there w p (x ∷ xs) (inr k) none = none_there w p xs k (omega (arith, none, sum_by-cons w x xs))

    pub none_fired : waits_here s.tables o ≡ false → s.working ≡ [] → list_any (acts_on o) (view s).fired ≡ false
    none_fired idle alone = grind (arith, fired_none, no_acts, managed, names_none)
