-- Once all ids of a hand are halved, its credits are those that are dealt, and those that nobody names.
use Rattle.hpx_steps.proofs.Common.{Act, AllByRecursion, AreWithin, Bool, Deals, Due, Fits, HasRightCredit, Id, List, None, SameDeal, State, Stock, Token, [], action_ids, all_append, all_at, all_set, and_false, ap, append-nil, arith, bare, cases_eq, cases_lt, cond, deal_stays, deal_then, dealt, drop, drop-drop, due_failed, due_filled, due_ids, failed_sums, false, filled, filled_all, filled_due, filled_sums, flat_map, half, halves_ahead, halves_taken, id_at, ids_due, ids_had, inl, inr, is_managed, length, length-append, length-set, managed, map, named, refl, shared_from, shares, state_failed, subst, suc, sum_by, sum_by-cons, sums_dealt, sym, take, take-append-drop, take_half, take_halves, tokens_of, true, unnamed, unnamed_from, unused, unused_all, unused_rest, ups_failed, zero, ℕ, ◌&&◌, ◌++◌, ◌+◌, ◌-◌, ◌<◌, ◌==◌, ◌∙◌, ◌∷◌, ◌≡◌, ◌≤◌}
use Rattle.hpx_steps.proofs.Tools.{ids_append, ids_each, none_tokens, place_at}
use Rattle.hpx_steps.proofs.Work.{halved_from}

half_right : (id : Id) → HasRightCredit id → HasRightCredit (half id)
half_right id h = grind arith

right_at : (ids : List Id) (p : ℕ) → p < length ids → AllByRecursion HasRightCredit ids → HasRightCredit (id_at ids p)
right_at ids p lt h = all_at HasRightCredit ids p (id_at ids p) h (place_at ids p lt)

halves_right : (k p : ℕ) (st : Stock) → p < length st.hand → AllByRecursion HasRightCredit st.hand → AllByRecursion HasRightCredit (take_halves k p st).hand
halves_right zero p st lt h = h
halves_right (suc k) p st lt h = grind (arith, half_right, right_at, length-set, length-append, all_append, all_set, halves_right k p (take_half p st))

-- all that is to be halved before place p, and behind n places, is named once at most
pub record IsLow (n p : ℕ) (st : Stock) : Type 0 where
  pub within : AreWithin st.hand st.places
  pub right : AllByRecursion HasRightCredit st.hand
  pub long : n ≤ length st.hand
  pub low : (q : ℕ) → q < p → named st.places q ≤ 1
  pub halves : (q : ℕ) → n ≤ q → q < length st.hand → named st.places q ≡ 1

pub record IsDealtSo (n : ℕ) (st u : Stock) : Type 0 where
  pub same : SameDeal st u
  pub is : IsLow n n u

all_low : (m n p : ℕ) (st : Stock) → p + m ≡ n → IsLow n p st → IsDealtSo n st (halved_from m p st)
all_low zero n p st le h = record { same = deal_stays st h.within; is = subst (λ k. IsLow n k st) (omega (arith, le)) h }
all_low (suc m) n p st le h =
    let next : Stock = take_halves (named st.places p - 1) p st in
    let inside : p < length st.hand = (let long = h.long in omega (arith, le, long)) in
    let k = halves_taken (named st.places p - 1) p st inside h.within (omega arith) in
    let size = k.size in
    let more = all_low m n (p + 1) next (omega (arith, le)) (record {
      within = k.same.objects.within;
      right = halves_right (named st.places p - 1) p st inside h.right;
      long = (let long = h.long in omega (arith, long, size));
      low = λ q lt. elim (cases_eq q p) [
        | inl e ↦ subst (λ x. named next.places x ≤ 1) (sym e) (let o = k.split.others in omega (arith, o))
        | inr d ↦ let o = (k.rest q d (omega (arith, lt, inside, d))).others in let l = h.low q (omega (arith, lt, d)) in omega (arith, o, l)
      ];
      halves = λ q le2 lt. elim (cases_lt q (length st.hand)) [
        | inl old ↦ let o = (k.rest q (λ e. absurd (omega (arith, e, le, le2))) old).others in let l = h.halves q le2 old in omega (arith, o, l)
        | inr new ↦ k.halves q new lt
      ];
    }) in record { same = deal_then st next (halved_from m (p + 1) next) k.same more.same; is = more.is }

-- an id of no managed object has no credit
unmanaged : (g : Token → ℕ) (i : Id) → is_managed i ≡ false → HasRightCredit i → sum_by g (tokens_of (i ∷ [])) ≡ 0
unmanaged g i m h = grind arith

-- where each place is named once at most, those who name get the ids as they are
low_tokens : (f : Token → ℕ) (ids : List Id) (places : List ℕ) (p : ℕ) → AllByRecursion HasRightCredit ids → ((q : ℕ) → p ≤ q → q < p + length ids → named places q ≤ 1)
    → sum_by f (tokens_of ids) ≡ sum_by (λ i. sum_by f (tokens_of (i ∷ []))) (shared_from p ids places) + sum_by f (tokens_of (unnamed_from p ids places))
low_tokens f [] places p right low = refl
low_tokens f (id ∷ ids) places p right low =
    each (named places p) refl (low p (omega arith) (omega arith)) (is_managed id) refl
    (low_tokens f ids places (p + 1) right.1 (λ q le lt. low q (omega (arith, le)) (omega (arith, lt))))
  where
    each : (n : ℕ) → named places p ≡ n → n ≤ 1 → (b : Bool) → is_managed id ≡ b
        → sum_by f (tokens_of ids) ≡ sum_by (λ i. sum_by f (tokens_of (i ∷ []))) (shared_from (p + 1) ids places) + sum_by f (tokens_of (unnamed_from (p + 1) ids places))
        → sum_by f (tokens_of (id ∷ ids)) ≡ sum_by (λ i. sum_by f (tokens_of (i ∷ []))) (shares id (named places p) ++ shared_from (p + 1) ids places)
        + sum_by f (tokens_of (cond (is_managed id && (named places p == 0)) (id ∷ unnamed_from (p + 1) ids places) (unnamed_from (p + 1) ids places)))
    each zero e le true m rest = rw (e, m) (omega (arith, rest, ids_append f (id ∷ []) ids, ids_append f (id ∷ []) (unnamed_from (p + 1) ids places)))
    each zero e le false m rest = rw (e, m) (omega (arith, rest, ids_append f (id ∷ []) ids, unmanaged f id m right.0))
    each (suc zero) e le b m rest = rw e (rw (and_false (is_managed id)) (omega (
      arith,
      rest,
      ids_append f (id ∷ []) ids,
      sum_by-cons (λ i. sum_by f (tokens_of (i ∷ []))) id (shared_from (p + 1) ids places),
    )))
    each (suc (suc n)) e le b m rest = absurd (omega (arith, le))

-- so the credits of a hand whose ids are halved are dealt
pub halved_tokens : (hand : List Id) (places : List ℕ) → AreWithin hand places → AllByRecursion HasRightCredit hand → (f : Token → ℕ)
    → sum_by f (tokens_of (halved_from (length hand) 0 (record { hand = hand; places = places })).hand) ≡ sum_by f (tokens_of (dealt hand places)) + sum_by f (tokens_of (unnamed hand places))
halved_tokens hand places within right f =
    let st : Stock = record { hand = hand; places = places } in
    let u : Stock = halved_from (length hand) 0 st in
    let k = all_low (length hand) (length hand) 0 st (omega arith) (record {
      within = within;
      right = right;
      long = omega arith;
      low = λ q lt. absurd (omega (arith, lt));
      halves = λ q le lt. absurd (omega (arith, le, lt));
    }) in
    let low : (q : ℕ) → 0 ≤ q → q < 0 + length u.hand → named u.places q ≤ 1 = λ q le lt. elim (cases_lt q (length hand)) [
      | inl old ↦ k.is.low q old
      | inr new ↦ let one = k.is.halves q new (omega (arith, lt)) in omega (arith, one)
    ] in
    omega (
      arith,
      low_tokens f u.hand u.places 0 k.is.right low,
      sums_dealt (λ i. sum_by f (tokens_of (i ∷ []))) u.hand u.places k.is.within,
      ap (sum_by (λ i. sum_by f (tokens_of (i ∷ [])))) k.same.deals,
      ap (λ is. sum_by f (tokens_of is)) k.same.objects.left,
      ids_each f (dealt hand places),
    )

-- ---- what is planned

-- ids of right credit weigh as the managed ones among them
managed_tokens : (f : Token → ℕ) (ids : List Id) → AllByRecursion HasRightCredit ids → sum_by f (tokens_of ids) ≡ sum_by (λ i. sum_by f (tokens_of (i ∷ []))) (managed ids)
managed_tokens f [] h = refl
managed_tokens f (id ∷ ids) h = each (is_managed id) refl (managed_tokens f ids h.1)
  where
    each : (b : Bool) → is_managed id ≡ b → sum_by f (tokens_of ids) ≡ sum_by (λ i. sum_by f (tokens_of (i ∷ []))) (managed ids)
        → sum_by f (tokens_of (id ∷ ids)) ≡ sum_by (λ i. sum_by f (tokens_of (i ∷ []))) (cond b (id ∷ managed ids) (managed ids))
    each true m rest = omega (arith, rest, ids_append f (id ∷ []) ids, sum_by-cons (λ i. sum_by f (tokens_of (i ∷ []))) id (managed ids))
    each false m rest = omega (arith, rest, ids_append f (id ∷ []) ids, unmanaged f id m h.0)

same_due : (due : List Due) → flat_map due_ids due ≡ flat_map ids_due due
same_due b = grind arith

-- where a hand is dealt to a state and to what is due, all credits of the hand, once its ids are halved, are there, or loose
pub plan_deals : (hand : List Id) (places : List ℕ) (state : State) (due : List Due) → AreWithin hand places → AllByRecursion HasRightCredit hand
    → AllByRecursion HasRightCredit state.ids → AllByRecursion HasRightCredit (flat_map ids_due due) → AllByRecursion HasRightCredit (dealt hand places)
    → Fits state.ids (dealt hand places) (managed (map bare (flat_map ids_due due)))
    → Deals (halved_from (length hand) 0 (record { hand = hand; places = places })).hand (record state { ids = filled state.ids (dealt hand places) })
    (filled_due due (unused state.ids (dealt hand places))) (unnamed hand places)
plan_deals hand places state due within right state_right due_right deal_right fits f =
    let ds : List Id = dealt hand places in
    let more : List Id = unused state.ids ds in
    let g : Id → ℕ = λ i. sum_by f (tokens_of (i ∷ [])) in
    let then_fits : Fits (flat_map ids_due due) more [] = unused_rest state.ids ds (managed (map bare (flat_map ids_due due))) fits ∙ sym (append-nil (managed (map bare (flat_map ids_due due)))) in
    let all_used : unused (flat_map ids_due due) more ≡ [] = none_bare (unused (flat_map ids_due due) more) (unused_rest (flat_map ids_due due) more [] then_fits) in
    omega (
      arith,
      halved_tokens hand places within right f,
      ids_each f ds,
      managed_tokens f (filled state.ids ds) (filled_all HasRightCredit state.ids ds state_right deal_right),
      filled_sums g state.ids ds (managed (map bare (flat_map ids_due due))) fits,
      ap (λ ids. sum_by f (tokens_of ids)) (same_due (filled_due due more) ∙ due_filled due more),
      managed_tokens f (filled (flat_map ids_due due) more) (filled_all HasRightCredit (flat_map ids_due due) more due_right (unused_all HasRightCredit state.ids ds deal_right)),
      filled_sums g (flat_map ids_due due) more [] then_fits,
      ap (sum_by g) all_used,
    )
  where
    none_bare : (ids : List Id) → map bare ids ≡ [] → ids ≡ []
    none_bare [] h = refl
    none_bare (id ∷ ids) h = absurd (some id (map bare ids) h)
      where
        some : (x : Id) (xs : List Id) → bare x ∷ xs ≡ [] → ⊥
        some x xs h = cc

-- ---- what fails

-- where an action fails, all credits of its hand are in the state, in what is due, or loose; what it would have made has none
pub fail_deals : (s : State) (a : Act) (makes : ℕ) (ids : List Id) → AllByRecursion HasRightCredit (state_failed s ids).ids → AllByRecursion HasRightCredit (action_ids s a ids)
    → AllByRecursion HasRightCredit (halves_ahead s a makes ids) → AllByRecursion HasRightCredit (flat_map ids_due (due_failed (action_ids s a ids) a.cont))
    → AllByRecursion (λ (id : Id). id.log ≡ None) (take makes (drop (length s.ids + length a.ids) ids))
    → Deals ids (state_failed s ids) (due_failed (action_ids s a ids) a.cont) (ups_failed s a makes ids)
fail_deals s a makes ids state action halves due none f =
    let n : ℕ = length s.ids in
    let m : ℕ = length a.ids in
    let had : AllByRecursion HasRightCredit (ids_had s a makes ids) =
    all_append HasRightCredit (take (length s.ids) ids) (action_ids s a ids ++ halves_ahead s a makes ids) state (all_append HasRightCredit (action_ids s a ids) (halves_ahead s a makes ids) action halves) in
    omega (
      arith,
      managed_tokens f (state_failed s ids).ids state,
      ap (λ xs. sum_by f (tokens_of xs)) (same_due (due_failed (action_ids s a ids) a.cont)),
      managed_tokens f (flat_map ids_due (due_failed (action_ids s a ids) a.cont)) due,
      ids_each f (ups_failed s a makes ids),
      failed_sums (λ i. sum_by f (tokens_of (i ∷ []))) s a makes ids,
      managed_tokens f (ids_had s a makes ids) had,
      ids_append f,
      parts n ids,
      parts m (drop n ids),
      ap (λ xs. sum_by f (tokens_of xs)) (drop-drop m n ids),
      parts makes (drop (n + m) ids),
      ap (λ xs. sum_by f (tokens_of xs)) (drop-drop makes (n + m) ids),
      none_tokens f (take makes (drop (n + m) ids)) none,
    )
  where
    parts : (k : ℕ) (xs : List Id) → sum_by f (tokens_of xs) ≡ sum_by f (tokens_of (take k xs)) + sum_by f (tokens_of (drop k xs))
    parts k xs = ap (λ ys. sum_by f (tokens_of ys)) (sym (take-append-drop k xs)) ∙ ids_append f (take k xs) (drop k xs)
