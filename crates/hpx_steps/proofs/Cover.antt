-- Where all that is kept is well formed, each name has its token.
use Rattle.hpx_steps.proofs.Common.{Leaving, Queued, Stray, Waiting, all_append, messages, queued_parcels, Accepted, Act, AllByRecursion, Among, AreLent, Bool, Came, Going, HasRightCredit, Id, IsCovered, IsDue, IsFit, IsFitDue, IsParcel, IsTidy, List, Mailed, MatchOption, MessageDue, None, OnDesk, Option, Outgoing, Parcel, Pending, PrintDue, Running, Some, Standing, Token, Turn, Waits, Working, [], act_names, action_of, all_named, and-true, ap, arith, asking_of, asks_owed, bare, bare_act, bare_due, bare_names, bare_standing, cases_Bool, commits, cond, count_by, credit_list, drop, due_ids, false, filter, fired_of, flat_map, held, ids_kept, ids_named, inl, inr, is_asked, is_held, is_managed, is_some, length, map, nat_le, nat_tests, not, owed_counts, own_ids, parcel_acts, parcel_asks, parcel_tokens, parcel_travels, parcels, plain, refl, rider_of, same_object, same_object-true, sum_by, sum_by-append, sum_by-cons, sym, take, take-append-drop, travel_names, true, view, worth, ℕ, ◌&&◌, ◌++◌, ◌+◌, ◌<◌, ◌∙◌, ◌∷◌, ◌≡◌, ◌≤◌}
use Rattle.hpx_value.specs.declared.outcome.Due.{Due}
use Rattle.hpx_value.specs.declared.outcome.Due.TheVariants.{Message as MessageDue, Print as PrintDue}
use Rattle.hpx_steps.proofs.Changes.{all_among, all_map, among_either}
use Rattle.hpx_steps.proofs.Ridden.{ridden_sum, rider_all}
use Rattle.hpx_steps.proofs.Sums.{flat_sum, ids_append, ids_flat, most_sum, parcels_sum, same_sum, two_sums, view_worth, weighs}

-- a held token of o, as a number
abbrev pub held_counts : Id → Token → ℕ
held_counts o t = cond (is_held o t) 1 0

module _ (o : Id) (managed : 16 ≤ o.kind) where
  -- a held token of o, as a number
  abbrev pub holds : Token → ℕ
  holds t = cond (is_held o t) 1 0

  -- how often ids name o
  abbrev pub names : List Id → ℕ
  names ids = count_by (same_object o) ids

  same_kind : (id : Id) → same_object o id ≡ true → 16 ≤ id.kind
  same_kind id h = let e = ap (λ (x : Id). x.kind) (same_object-true o id h) in omega (arith, e, managed)

  one_held : (id : Id) (log : Option ℕ) → MatchOption log (id.kind < 16) (λ x. 16 ≤ id.kind) → (b : Bool) → same_object o id ≡ b → sum_by holds (map held (credit_list id log ++ [])) ≡ cond b 1 0
  one_held id b right c e = grind arith

  -- each id that names o has a held token
  pub held_ids : (ids : List Id) → AllByRecursion HasRightCredit ids → weighs holds ids ≡ names (map bare ids)
  held_ids [] h = refl
  held_ids (id ∷ ids) h = omega (
    arith,
    ids_append holds (id ∷ []) ids,
    one_held id id.log h.0 (same_object o id) refl,
    held_ids ids h.1,
    sum_by-cons (λ x. cond (same_object o x) 1 0) (bare id) (map bare ids),
  )

  -- so has each of what has ids
  pub held_each : {X Y : Type 0} (b : X → Y) (n : Y → List Id) (g : X → List Id) → ((x : X) → n (b x) ≡ map bare (g x)) → (xs : List X) → AllByRecursion (λ x. AllByRecursion HasRightCredit (g x)) xs
      → sum_by (λ y. names (n y)) (map b xs) ≡ weighs holds (flat_map g xs)
  held_each b n g same [] h = refl
  held_each b n g same (x ∷ xs) h = omega (
    arith,
    sum_by-cons (λ y. names (n y)) (b x) (map b xs),
    ap names (same x),
    held_ids (g x) h.0,
    held_each b n g same xs h.1,
    ids_append holds (g x) (flat_map g xs),
  )

all_fit : (xs : List Act) → AllByRecursion IsFit xs → AllByRecursion (λ (a : Act). AllByRecursion HasRightCredit a.ids) xs
all_fit [] h = tt
all_fit (x ∷ xs) h = (h.0.sent.credit, all_fit xs h.1)

-- so has each name in actions
pub held_acts : (o : Id) → 16 ≤ o.kind → (xs : List Act) → AllByRecursion IsFit xs → sum_by (act_names o) (map bare_act xs) ≡ weighs (held_counts o) (flat_map (λ (a : Act). a.ids) xs)
held_acts o managed xs h = held_each o managed bare_act (λ (a : Act). a.ids) (λ (a : Act). a.ids) (λ x. refl) xs (all_fit xs h)

all_due : (xs : List Due) → AllByRecursion IsFitDue xs → AllByRecursion (λ x. AllByRecursion HasRightCredit (due_ids x)) xs
all_due [] h = tt
all_due (MessageDue m ∷ xs) h = (h.0.sent.credit, all_due xs h.1)
all_due (PrintDue bytes ∷ xs) h = (tt, all_due xs h.1)

due_bare : (x : Due) → due_ids (bare_due x) ≡ map bare (due_ids x)
due_bare b = grind arith

-- ids that name o have held tokens, or no credit
pub held_or_bare : (o : Id) (ids : List Id) → count_by (same_object o) (map bare ids) ≡ weighs (held_counts o) ids + bare_names o ids
held_or_bare o [] = refl
held_or_bare o (id ∷ ids) = omega (
  arith,
  ids_append (held_counts o) (id ∷ []) ids,
  one id.log (same_object o id) refl,
  held_or_bare o ids,
  sum_by-cons (λ x. cond (same_object o x) 1 0) (bare id) (map bare ids),
  sum_by-cons (λ (x : Id). cond (same_object o x && not (is_some x.log)) 1 0) id ids,
)
  where
    one : (log : Option ℕ) (b : Bool) → same_object o id ≡ b → cond b 1 0 ≡ sum_by (held_counts o) (map held (credit_list id log ++ [])) + cond (b && not (is_some log)) 1 0
    one None true e = refl
    one None false e = refl
    one (Some log) true e = rw e refl
    one (Some log) false e = rw e refl

held_states : (o : Id) → 16 ≤ o.kind → (xs : List Standing) → sum_by (λ (y : Standing). count_by (same_object o) y.state.ids) (map bare_standing xs)
    ≡ weighs (held_counts o) (flat_map (λ (x : Standing). x.state.ids) xs) + sum_by (λ (x : Standing). bare_names o x.state.ids) xs
held_states o managed [] = refl
held_states o managed (x ∷ xs) = omega (
  arith,
  sum_by-cons (λ (y : Standing). count_by (same_object o) y.state.ids),
  sum_by-cons (λ (y : Standing). bare_names o y.state.ids),
  ids_append (held_counts o),
  held_or_bare o x.state.ids,
  held_states o managed xs,
)

-- the same names, with or without credits
names_bare : (o : Id) (ids : List Id) → count_by (same_object o) (map bare ids) ≡ count_by (same_object o) ids
names_bare o [] = refl
names_bare o (id ∷ ids) = omega (arith, sum_by-cons (λ x. cond (same_object o x) 1 0), names_bare o ids)

is_below : (kind : ℕ) → nat_le 16 kind ≡ false → kind < 16
is_below kind e = grind (arith, nat_tests)

-- managed ids without credit were asked for
bare_asked : (o : Id) → 16 ≤ o.kind → (ids : List Id) → bare_names o ids ≤ count_by (same_object o) (filter is_asked ids)
bare_asked o managed [] = omega arith
bare_asked o managed (id ∷ ids) = elim (cases_Bool (is_asked id)) [
  | inl t ↦ rw t (omega (
    arith,
    bare_asked o managed ids,
    sum_by-cons (λ (x : Id). cond (same_object o x && not (is_some x.log)) 1 0) id ids,
    sum_by-cons (λ x. cond (same_object o x) 1 0) id (filter is_asked ids),
    no_more (same_object o id) (not (is_some id.log)),
  ))
  | inr f ↦ rw f (omega (arith, bare_asked o managed ids, sum_by-cons (λ (x : Id). cond (same_object o x && not (is_some x.log)) 1 0) id ids, none (same_object o id) (not (is_some id.log)) refl f))
]
  where
    no_more : (a b : Bool) → cond (a && b) 1 0 ≤ cond a 1 0
    no_more true true = omega arith
    no_more true false = omega arith
    no_more false b = omega arith

    none : (a b : Bool) → same_object o id ≡ a → (is_managed id && b) ≡ false → ◌≡◌ {A = ℕ} (cond (a && b) 1 0) 0
    none true true e g =
        let k : o.kind ≡ id.kind = ap (λ (x : Id). x.kind) (same_object-true o id e) in
        let low : id.kind < 16 = is_below id.kind (sym (and-true (nat_le 16 id.kind)) ∙ g) in
        absurd (omega (arith, k, managed, low))
    none true false e g = refl
    none false b e g = refl

-- what the object and the action of a commit that waits name is in its hand, or was asked for
in_hand : (o : Id) → 16 ≤ o.kind → (w : Waits) → IsFit w.job.action → map bare (own_ids w) ≡ map bare (ids_named w)
    → count_by (same_object o) w.job.state.ids + count_by (same_object o) w.job.action.ids
    ≤ weighs (held_counts o) (ids_kept w) + count_by (same_object o) (filter is_asked (own_ids w))
in_hand o managed w fit h =
    omega (
      arith,
      ridden_sum (λ x. cond (same_object o x) 1 0) w.job.action fit.sent.shape,
      held_ids o managed (rider_of w.job.action) (rider_all HasRightCredit w.job.action fit.sent.shape fit.sent.credit),
      names_bare o (rider_of w.job.action),
      ids_append (held_counts o) w.hand (rider_of w.job.action),
      sum_by-append (λ x. cond (same_object o x) 1 0) w.job.state.ids (plain w.job.action).ids,
      names_bare o (ids_named w),
      ap (count_by (same_object o)) h,
      held_or_bare o (own_ids w),
      bare_asked o managed (own_ids w),
      ids_append (held_counts o) (take (length (ids_named w)) w.hand) (drop (length (ids_named w)) w.hand),
      ap (weighs (held_counts o)) (take-append-drop (length (ids_named w)) w.hand),
    )

in_hands : (o : Id) → 16 ≤ o.kind → (ws : List Waits) → AllByRecursion (λ w. IsFit w.job.action × (map bare (own_ids w) ≡ map bare (ids_named w))) ws
    → sum_by (λ (w : Waits). count_by (same_object o) w.job.state.ids) ws + sum_by (λ (w : Waits). count_by (same_object o) w.job.action.ids) ws
    ≤ weighs (held_counts o) (flat_map ids_kept ws) + count_by (same_object o) (asking_of ws)
in_hands o managed [] h = omega arith
in_hands o managed (w ∷ ws) h = omega (
  arith,
  in_hand o managed w h.0.0 h.0.1,
  in_hands o managed ws h.1,
  sum_by-cons (λ (y : Waits). count_by (same_object o) y.job.state.ids) w ws,
  sum_by-cons (λ (y : Waits). count_by (same_object o) y.job.action.ids) w ws,
  ids_append (held_counts o) (ids_kept w) (flat_map ids_kept ws),
  sum_by-append (λ x. cond (same_object o x) 1 0) (filter is_asked (own_ids w)) (asking_of ws),
)

-- the names in fired actions
fired_names : (o : Id) (running : List Act) (ws : List Waits) → sum_by (act_names o) (map bare_act (fired_of running ws))
    ≡ sum_by (act_names o) (map bare_act running) + sum_by (λ (w : Waits). count_by (same_object o) w.job.action.ids) ws
fired_names o [] [] = refl
fired_names o [] (w ∷ ws) = omega (
  arith,
  fired_names o [] ws,
  sum_by-cons (act_names o) (bare_act w.job.action) (map bare_act (map action_of ws)),
  sum_by-cons (λ (y : Waits). count_by (same_object o) y.job.action.ids) w ws,
  names_bare o w.job.action.ids,
)
fired_names o (a ∷ running) ws = omega (arith, fired_names o running ws, sum_by-cons (act_names o))

-- all messages are well formed
pub tidy_messages : (s : Turn) → IsTidy s → AllByRecursion IsParcel (messages s.tables)
tidy_messages s h =
    let outs = map (λ (x : Outgoing). x.parcel) s.tables.outgoing in
    let waiting = queued_parcels s.tables.queued in
    all_append IsParcel s.tables.desk (outs ++ (waiting ++ (s.tables.leaving ++ s.tables.stray))) (all_among IsParcel s.tables.desk (λ p m. (h (OnDesk p) m).0))
    (all_append IsParcel outs (waiting ++ (s.tables.leaving ++ s.tables.stray))
    (all_map (λ (x : Outgoing). x.parcel) IsParcel s.tables.outgoing (all_among (λ (x : Outgoing). IsParcel x.parcel) s.tables.outgoing (λ x m. (h (Going x) m).0)))
    (all_append IsParcel waiting (s.tables.leaving ++ s.tables.stray)
    (all_map (λ (x : Waiting Parcel). x.item) IsParcel s.tables.queued (all_among (λ (x : Waiting Parcel). IsParcel x.item) s.tables.queued (λ x m. (h (Queued x) m).0)))
    (all_append IsParcel s.tables.leaving s.tables.stray (all_among IsParcel s.tables.leaving (λ p m. (h (Leaving p) m).0)) (all_among IsParcel s.tables.stray (λ p m. (h (Stray p) m).0)))))

tidy_parcels : (s : Turn) → IsTidy s → AllByRecursion IsParcel (parcels s)
tidy_parcels s h = all_append IsParcel s.came (s.mailed ++ messages s.tables) (all_among IsParcel s.came (λ p m. h (Came p) m))
    (all_append IsParcel s.mailed (messages s.tables) (all_among IsParcel s.mailed (λ p m. (h (Mailed p) m).0)) (tidy_messages s h))

-- where all is tidy, and no more ids are without credit than were lent, each name is covered, and each ask
pub view_covered : (s : Turn) → IsTidy s → AreLent s.tables.objects (commits s) → IsCovered (view s)
view_covered s tidy lent o managed =
    let named : Parcel → ℕ = λ p. sum_by (act_names o) (parcel_acts p) in
    let shipped : Parcel → ℕ = λ p. sum_by (travel_names o) (parcel_travels p) in
    let asks : Parcel → ℕ = λ p. count_by (same_object o) (parcel_asks p) in
    let held : Parcel → ℕ = λ p. sum_by (held_counts o) (parcel_tokens p) in
    let owed : Parcel → ℕ = λ p. sum_by (owed_counts o) (parcel_tokens p) in
    let less : (f g : Parcel → ℕ) → ((p : Parcel) → IsParcel p → f p ≤ g p) → sum_by f (parcels s) ≤ sum_by g (parcels s) =
    λ f g each. most_sum IsParcel f g (parcels s) each (tidy_parcels s tidy) in record {
      named = omega (
        arith,
        view_worth (held_counts o) s,
        parcels_sum held s,
        held_states o managed s.tables.objects,
        lent o managed,
        in_hands o managed (commits s) (all_among (λ (w : Waits). IsFit w.job.action × (map bare (own_ids w) ≡ map bare (ids_named w))) (commits s) hands),
        held_acts o managed s.tables.accepted (all_among IsFit s.tables.accepted (λ a m. (tidy (Accepted a) m).0)),
        held_acts o managed s.tables.running (all_among IsFit s.tables.running (λ a m. tidy (Running a) m)),
        fired_names o s.tables.running (commits s),
        held_each o managed bare_due due_ids due_ids due_bare s.due (all_due s.due (all_among IsFitDue s.due (λ d m. tidy (IsDue d) m))),
        flat_sum (act_names o) parcel_acts (parcels s),
        flat_sum (travel_names o) parcel_travels (parcels s),
        two_sums named shipped (parcels s),
        less (λ p. named p + shipped p) held (λ p h. all_named o managed p h),
        sum_by-append (act_names o) (map bare_act s.tables.accepted) (flat_map parcel_acts (parcels s)),
        ids_flat (held_counts o) (λ (x : Standing). x.state.ids) s.tables.objects,
        ids_flat (held_counts o) (λ (a : Act). a.ids),
        ids_flat (held_counts o) ids_kept (commits s),
        sum_by-append (λ (w : Waits). weighs (held_counts o) (ids_kept w)) s.working s.tables.pending,
        kept_sum s.working,
        kept_sum s.tables.pending,
        ids_flat (held_counts o) due_ids s.due,
      );
      pending = omega (arith, view_worth (owed_counts o) s, parcels_sum owed s, flat_sum (λ (x : Id). cond (same_object o x) 1 0) parcel_asks (parcels s), less asks owed (λ p h. asks_owed o p h));
    }
  where
    hands : (w : Waits) → Among w (commits s) → IsFit w.job.action × (map bare (own_ids w) ≡ map bare (ids_named w))
    hands w m = elim (among_either w s.working s.tables.pending m) [
      | inl a ↦ let k = tidy (Working w) a in (k.job.action, k.hand)
      | inr b ↦ let k = (tidy (Pending w) b).0 in (k.job.action, k.hand)
    ]

    kept_sum : (ws : List Waits) → sum_by (λ (w : Waits). weighs (held_counts o) (ids_kept w)) ws ≡ sum_by (λ w. worth (held_counts o) (Working w)) ws
    kept_sum ws = same_sum (λ (w : Waits). weighs (held_counts o) (ids_kept w)) (λ w. worth (held_counts o) (Working w)) ws (λ w. ids_append (held_counts o) w.hand (rider_of w.job.action))
