-- What a node's tables tell, by what stands at its locality.
use Rattle.hpx_node.proofs.Common.{Act, Agree-sum, AllByRecursion, Apply, Arrived, Ask, Bool, Cached, Free, Give, Go, HasRightCredit, Id, IsBare, IsParcel, IsPassive, IsTidy, List, Local, Move, None, Option, Parcel, Return, Shipped, Some, Standing, Tables, Waits, [], action_of, acts_in, all_imp, ap, arith, awaited_at, awaited_here, bare_act, bare_standing, cases_Bool, cond, count_by, credit, credit_in, credit_of_log, credit_owed, drawn_by, false, find, flat_map, held-Counts, held_here, held_worth, ids_held, ids_kept, inl, inr, is_act, is_answer, is_busy, is_some, is_standing, map, messages, name_of, names, owed_here, owed_worth, parcel_tokens, refl, same_object, same_object-through, same_token-true, session, stands_here, subst, sum_by, sum_by-append, sum_by-cons, sym, true, travels_in, view, zero-add, ℕ, ◌++◌, ◌-◌, ◌==◌, ◌^◌, ◌∙◌, ◌∷◌, ◌≡◌, ◌≤◌}
use Rattle.hpx_node.proofs.Messages.{passive_none}
use Rattle.hpx_parcel.specs.Credits.{credit_list, credits_of}
use Rattle.hpx_journal.specs.Local.{is_travel}
use Rattle.hpx_journal.specs.Tokens.{held, owing, is_held}
use Rattle.hpx_part.specs.Shows.{IsWeight, Shows}
use Rattle.hpx_part.proofs.Covered.{act_names, object_names, travel_names, due_names}
use Rattle.hpx_part.proofs.Keys.{means, own, stood, means_object, own_object, travels, means_travel, own_travel}
use Rattle.hpx_steps.proofs.Cover.{held_counts, held_each}
use Rattle.hpx_node.proofs.Sums.{weigh, weigh_append, tokens_sum, view_sum}

-- ---- worths look at no credit of an id

held_weighs : (o : Id) → IsWeight (held_worth o)
held_weighs o a b h =
    let t = same_token-true a b h in
    rw (← same_object-through o a.object b.object t.object, t.log, t.owed) refl

owed_weighs : (o : Id) → IsWeight (owed_worth o)
owed_weighs o a b h =
    let t = same_token-true a b h in
    rw (← same_object-through o a.object b.object t.object, t.log, t.owed) refl

-- ---- ids

module _ (o : Id) where
  worth_one : (id : Id) (log : Option ℕ) (b : Bool) → same_object o id ≡ b
      → sum_by (held_worth o) (map held (credit_list id log ++ [])) ≡ cond b (credit_of_log log) 0
  worth_one id None true e = refl
  worth_one id None false e = refl
  worth_one id (Some log) true e = rw e (zero-add (2 ^ log))
  worth_one id (Some log) false e = rw e refl

  owed_none : (id : Id) (log : Option ℕ) (b : Bool) → same_object o id ≡ b → sum_by (owed_worth o) (map held (credit_list id log ++ [])) ≡ 0
  owed_none id None b e = refl
  owed_none id (Some log) true e = rw e refl
  owed_none id (Some log) false e = rw e refl

  pub worth_ids : (ids : List Id) → weigh (held_worth o) ids ≡ credit_in o ids
  worth_ids [] = refl
  worth_ids (id ∷ ids) = omega (
    arith,
    weigh_append (held_worth o) (id ∷ []) ids,
    worth_one id id.log (same_object o id) refl,
    worth_ids ids,
    sum_by-cons (λ (x : Id). cond (same_object o x) (credit x) 0) id ids,
  )

  none_owed : (ids : List Id) → weigh (owed_worth o) ids ≡ 0
  none_owed [] = refl
  none_owed (id ∷ ids) = omega (
    arith,
    weigh_append (owed_worth o) (id ∷ []) ids,
    owed_none id id.log (same_object o id) refl,
    none_owed ids,
  )

  -- what has ids
  pub worth_each : {X : Type 0} (g : X → List Id) (xs : List X) → weigh (held_worth o) (flat_map g xs) ≡ sum_by (λ x. credit_in o (g x)) xs
  worth_each g [] = refl
  worth_each g (x ∷ xs) = omega (
    arith,
    weigh_append (held_worth o) (g x) (flat_map g xs),
    worth_ids (g x),
    worth_each g xs,
    sum_by-cons (λ y. credit_in o (g y)) x xs,
  )

  -- ---- messages

  owing_one : (id : Id) (log : Option ℕ) (b : Bool) → same_object o id ≡ b
      → sum_by (owed_worth o) (map owing (credit_list id log ++ [])) ≡ cond b (credit_of_log log) 0
  owing_one id None true e = refl
  owing_one id None false e = refl
  owing_one id (Some log) true e = rw e (zero-add (2 ^ log))
  owing_one id (Some log) false e = rw e refl

  held_none : (id : Id) (log : Option ℕ) (b : Bool) → same_object o id ≡ b → sum_by (held_worth o) (map owing (credit_list id log ++ [])) ≡ 0
  held_none id None b e = refl
  held_none id (Some log) true e = rw e refl
  held_none id (Some log) false e = rw e refl

  brought : (id : Id) → sum_by (owed_worth o) (map owing (credits_of (id ∷ []))) ≡ credit_in o (id ∷ [])
  brought id = omega (arith, owing_one id id.log (same_object o id) refl, sum_by-cons (λ (x : Id). cond (same_object o x) (credit x) 0) id [])

  not_held : (id : Id) → sum_by (held_worth o) (map owing (credits_of (id ∷ []))) ≡ 0
  not_held id = held_none id id.log (same_object o id) refl

  no_credit : (id : Id) → IsBare id → credits_of (id ∷ []) ≡ []
  no_credit id h = ap (λ log. credit_list id log ++ []) h.0

  held_message : (p : Parcel) → IsParcel p → sum_by (held_worth o) (parcel_tokens p) ≡ credit_in o (ids_held p)
  held_message (Apply act) h = worth_ids act.ids
  held_message (Return id) h = not_held id
  held_message (Ask id asker entry) h = not_held id
  held_message (Give id entry) h = not_held id
  held_message (Cached id place) h = ap (λ cs. sum_by (held_worth o) (map held cs)) (no_credit id h)
  held_message (Move act) h = worth_ids act.ids
  held_message (Go act) h = worth_ids act.ids
  held_message (Shipped act state) h = worth_ids (act.ids ++ state.ids)
  held_message (Arrived id place) h = not_held id
  held_message (Free id) h = ap (λ cs. sum_by (held_worth o) (map held cs)) (no_credit id h)

  owed_message : (p : Parcel) → sum_by (owed_worth o) (parcel_tokens p) ≡ credit_owed o p
  owed_message (Apply act) = none_owed act.ids
  owed_message (Return id) = brought id
  owed_message (Ask id asker entry) = brought id
  owed_message (Give id entry) = brought id
  owed_message (Cached id place) = none_owed (id ∷ [])
  owed_message (Move act) = none_owed act.ids
  owed_message (Go act) = none_owed act.ids
  owed_message (Shipped act state) = none_owed (act.ids ++ state.ids)
  owed_message (Arrived id place) = brought id
  owed_message (Free id) = none_owed (id ∷ [])

  held_messages : (ps : List Parcel) → AllByRecursion IsParcel ps
      → sum_by (held_worth o) (flat_map parcel_tokens ps) ≡ sum_by (λ p. credit_in o (ids_held p)) ps
  held_messages [] h = refl
  held_messages (p ∷ ps) h = omega (
    arith,
    sum_by-append (held_worth o) (parcel_tokens p) (flat_map parcel_tokens ps),
    held_message p h.0,
    held_messages ps h.1,
    sum_by-cons (λ q. credit_in o (ids_held q)) p ps,
  )

  owed_messages : (ps : List Parcel) → sum_by (owed_worth o) (flat_map parcel_tokens ps) ≡ sum_by (credit_owed o) ps
  owed_messages [] = refl
  owed_messages (p ∷ ps) = omega (
    arith,
    sum_by-append (owed_worth o) (parcel_tokens p) (flat_map parcel_tokens ps),
    owed_message p,
    owed_messages ps,
    sum_by-cons (credit_owed o) p ps,
  )

-- ---- tables

pub held_shown : (t : Tables) (s : Local) (o : Id) → IsTidy t [] → Shows (view t [] []) s → sum_by (held_worth o) s.tokens ≡ held_here t o
held_shown t s o tidy shown = omega (
  arith,
  shown.credit.tokens (held_worth o) (held_weighs o),
  view_sum (held_worth o) t [] [],
  tokens_sum (held_worth o) t,
  worth_each o (λ (x : Standing). x.state.ids) t.objects,
  worth_each o (λ (a : Act). a.ids) t.accepted,
  worth_each o (λ (a : Act). a.ids) t.running,
  worth_each o ids_kept t.pending,
  held_messages o (messages t) tidy.messages,
)

pub owed_shown : (t : Tables) (s : Local) (o : Id) → IsTidy t [] → Shows (view t [] []) s → sum_by (owed_worth o) s.tokens ≡ owed_here t o
owed_shown t s o tidy shown = omega (
  arith,
  shown.credit.tokens (owed_worth o) (owed_weighs o),
  view_sum (owed_worth o) t [] [],
  tokens_sum (owed_worth o) t,
  none_owed o (flat_map (λ (x : Standing). x.state.ids) t.objects),
  none_owed o (flat_map (λ (a : Act). a.ids) t.accepted),
  none_owed o (flat_map (λ (a : Act). a.ids) t.running),
  none_owed o (flat_map ids_kept t.pending),
  owed_messages o (messages t),
)

found_bare : (o : Id) (xs : List Standing) → is_some (find (is_standing o) (map bare_standing xs)) ≡ is_some (find (is_standing o) xs)
found_bare o [] = refl
found_bare o (x ∷ xs) = elim (cases_Bool (is_standing o x)) [
  | inl t ↦ rw t refl
  | inr t ↦ rw t (found_bare o xs)
]

pub holds_shown : (t : Tables) (s : Local) (o : Id) → Shows (view t [] []) s → stands_here t o ≡ is_some (find (is_standing o) s.objects)
holds_shown t s o shown = sym (ap is_some (shown.objects.objects.finds o) ∙ found_bare o t.objects)

drawn_bare : (xs : List Standing) → drawn_by (find (is_standing session) (map bare_standing xs)) ≡ drawn_by (find (is_standing session) xs)
drawn_bare [] = refl
drawn_bare (x ∷ xs) = elim (cases_Bool (is_standing session x)) [
  | inl t ↦ rw t refl
  | inr t ↦ rw t (drawn_bare xs)
]

pub awaited_shown : (t : Tables) (s : Local) → Shows (view t [] []) s → t.answered ≡ count_by is_answer s.done → awaited_here t ≡ awaited_at s
awaited_shown t s shown had =
    let drawn : drawn_by (find (is_standing session) t.objects) ≡ drawn_by (find (is_standing session) s.objects) =
    sym (ap drawn_by (shown.objects.objects.finds session) ∙ drawn_bare t.objects) in
    ap (λ k. cond (k == 0) (drawn_by (find (is_standing session) t.objects) - t.answered) 0) (sym shown.acts.here)
    ∙ (ap (λ n. cond (s.here == 0) (n - t.answered) 0) drawn ∙ ap (λ n. cond (s.here == 0) (drawn_by (find (is_standing session) s.objects) - n) 0) had)

-- ---- a passive node

either_way : (b : Bool) → cond b false false ≡ false
either_way true = refl
either_way false = refl

pub rest_shown : (t : Tables) (s : Local) (o : Id) → 16 ≤ o.kind → IsPassive t → IsTidy t [] → Shows (view t [] []) s
    → count_by (is_held o) s.tokens ≡ names o s
rest_shown t s o managed passive tidy shown =
    let none = passive_none t passive in
    let whole = all_imp _ (λ (x : Standing). AllByRecursion HasRightCredit x.state.ids) (λ x h. h (either_way (x.object.kind == 7))) t.objects (subst (λ (ws : List Waits). AllByRecursion (λ (x : Standing). is_busy x.object (map action_of ws) ≡ false → AllByRecursion HasRightCredit x.state.ids) t.objects)
    passive.pending tidy.paused.whole) in
    let waits : (view t [] []).waiting ≡ [] =
    ap (λ (xs : List Act). map bare_act xs ++ flat_map (λ p. acts_in (Some p)) (messages t)) passive.accepted ∙ ap (λ ps. flat_map (λ p. acts_in (Some p)) ps) none in
    let runs : (view t [] []).fired ≡ [] =
    ap (λ (xs : List Act). map bare_act (xs ++ map action_of t.pending)) passive.running ∙ ap (λ (ws : List Waits). map bare_act (map action_of ws)) passive.pending in
    omega (
      arith,
      shown.credit.tokens (held_counts o) (held-Counts o),
      view_sum (held_counts o) t [] [],
      tokens_sum (held_counts o) t,
      ap (λ (xs : List Act). weigh (held_counts o) (flat_map (λ (a : Act). a.ids) xs)) passive.accepted,
      ap (λ (xs : List Act). weigh (held_counts o) (flat_map (λ (a : Act). a.ids) xs)) passive.running,
      ap (λ (ws : List Waits). weigh (held_counts o) (flat_map ids_kept ws)) passive.pending,
      ap (λ ps. sum_by (held_counts o) (flat_map parcel_tokens ps)) none,
      held_each o managed bare_standing (λ (y : Standing). y.state.ids) (λ (x : Standing). x.state.ids) (λ x. refl) t.objects whole,
      Agree-sum is_standing stood means_object own_object (object_names o) s.objects (map bare_standing t.objects) shown.objects.objects,
      Agree-sum is_act name_of means own (act_names o) s.waiting (view t [] []).waiting shown.acts.waiting,
      ap (sum_by (act_names o)) waits,
      Agree-sum is_act name_of means own (act_names o) s.fired (view t [] []).fired shown.acts.fired,
      ap (sum_by (act_names o)) runs,
      ap (sum_by (due_names o)) shown.acts.due,
      Agree-sum is_travel travels means_travel own_travel (travel_names o) s.travels (view t [] []).travels shown.objects.travels,
      ap (λ ps. sum_by (travel_names o) (flat_map (λ p. travels_in (Some p)) ps)) none,
    )
