-- What an action leaves that fails, named and counted.
use Rattle.std.proofs.Common.{ℕ, zero, suc, Bool, true, false, cond, codes, List, [], ◌∷◌, ◌++◌, ◌≡◌, ◌+◌, ◌==◌, Option, Some, None, length, map, take, drop, refl, sym, ap, ◌∙◌, arith, inl, inr}
use Rattle.std.specs.Prelude.{flat_map}
use Rattle.std.specs.List.{sum_by, remove, AllByRecursion}
use Rattle.std.proofs.lemmas.Bool.{cases_Bool}
use Rattle.std.proofs.lemmas.List.Sums.{sum_by-append}
use Rattle.hpx_value.specs.Ids.{Id, bare}
use Rattle.hpx_value.specs.Hands.{id_at, hand_ids, slot_at, answer}
use Rattle.hpx_value.specs.Values.{bare_message}
use Rattle.hpx_value.specs.declared.value.Value.TheVariants.{Fault}
use Rattle.hpx_value.specs.declared.value.Message.{Message}
use Rattle.hpx_value.specs.declared.value.Cont.{Cont}
use Rattle.hpx_value.specs.declared.value.State.{State}
use Rattle.hpx_value.specs.declared.value.Act.{Act}
use Rattle.hpx_value.specs.declared.outcome.Due.{Due}
use Rattle.hpx_value.specs.declared.outcome.Due.TheVariants.{Message as MessageDue, Print as PrintDue}
use Rattle.hpx_commit.specs.Deals.{is_managed, ids_due}
use Rattle.hpx_commit.specs.Failures.{action_ids, halves_ahead, ids_had, state_failed, due_failed, unanswered, ups_failed}
use Rattle.hpx_commit.proofs.Naming.{managed, filter_append}
use Rattle.hpx_commit.proofs.Fills.{head_is, tail_is, none_is}

-- ---- names

-- ids that name the same objects as a list in two parts
pub front_parts : (xs ys ids : List Id) → map bare (take (length (xs ++ ys)) ids) ≡ map bare (xs ++ ys)
    → (map bare (take (length xs) ids) ≡ map bare xs) × (map bare (take (length ys) (drop (length xs) ids)) ≡ map bare ys)
front_parts [] ys ids h = (refl, h)
front_parts (x ∷ xs) ys [] h = absurd (none_is (bare x) (map bare (xs ++ ys)) h)
front_parts (x ∷ xs) ys (id ∷ ids) h =
    let first = head_is (bare id) (bare x) (map bare (take (length (xs ++ ys)) ids)) (map bare (xs ++ ys)) h in
    let rest = front_parts xs ys ids (tail_is (bare id) (bare x) (map bare (take (length (xs ++ ys)) ids)) (map bare (xs ++ ys)) h) in
    (ap (λ y. y ∷ map bare (take (length xs) ids)) first ∙ ap (λ ys. bare x ∷ ys) rest.0, rest.1)

module _ (s : State) (a : Act) (made ids : List Id) (same : map bare (take (length (hand_ids s a made)) ids) ≡ map bare (hand_ids s a made)) where
  pub state_same : map bare (state_failed s ids).ids ≡ map bare s.ids
  state_same = (front_parts s.ids (a.ids ++ made) ids same).0

  pub action_same : map bare (action_ids s a ids) ≡ map bare a.ids
  action_same = (front_parts a.ids made (drop (length s.ids) ids) (front_parts s.ids (a.ids ++ made) ids same).1).0

at_bare : (ids : List Id) (i : ℕ) → id_at (map bare ids) i ≡ bare (id_at ids i)
at_bare [] i = none i
  where
    none : (i : ℕ) → id_at [] i ≡ bare (id_at [] i)
    none zero = refl
    none (suc i) = refl
at_bare (id ∷ ids) zero = refl
at_bare (id ∷ ids) (suc i) = at_bare ids i

-- what is due of bare ids is that of the ids, made bare
module _ (g : Due → Due) (message : (m : Message) → g (MessageDue m) ≡ MessageDue (bare_message m)) (print : (bytes : List ℕ) → g (PrintDue bytes) ≡ PrintDue bytes) where
  print_bare : (b : Bool) → map g (cond b (PrintDue (codes "error: credit limit\n") ∷ []) []) ≡ cond b (PrintDue (codes "error: credit limit\n") ∷ []) []
  print_bare true = ap (λ x. x ∷ []) (print (codes "error: credit limit\n"))
  print_bare false = refl

  printed : (ids : List Id) → map g (cond ((id_at ids 0).kind == 1) (PrintDue (codes "error: credit limit\n") ∷ []) [])
      ≡ cond ((id_at (map bare ids) 0).kind == 1) (PrintDue (codes "error: credit limit\n") ∷ []) []
  printed ids =
      print_bare ((id_at ids 0).kind == 1)
      ∙ ap (λ (x : Id). cond (x.kind == 1) (PrintDue (codes "error: credit limit\n") ∷ []) []) (sym (at_bare ids 0))

  pub due_bare : (ids : List Id) (cont : Option Cont) → map g (due_failed ids cont) ≡ due_failed (map bare ids) cont
  due_bare ids None = printed ids
  due_bare ids (Some c) =
      ap (λ y. y ∷ map g (cond ((id_at ids 0).kind == 1) (PrintDue (codes "error: credit limit\n") ∷ []) [])) (message (answer [] (slot_at ids c) (Fault 5)))
      ∙ (ap (λ x. MessageDue (answer [] (record { object = x; number = c.slot }) (Fault 5))
      ∷ map g (cond ((id_at ids 0).kind == 1) (PrintDue (codes "error: credit limit\n") ∷ []) [])) (sym (at_bare ids c.place))
      ∙ ap (λ ds. MessageDue (answer [] (slot_at (map bare ids) c) (Fault 5)) ∷ ds) (printed ids))

-- ---- what each id has

module _ (P : Id → Type 0) where
  all_take : (n : ℕ) (ids : List Id) → AllByRecursion P ids → AllByRecursion P (take n ids)
  all_take zero [] h = tt
  all_take zero (id ∷ ids) h = tt
  all_take (suc n) [] h = tt
  all_take (suc n) (id ∷ ids) h = (h.0, all_take n ids h.1)

  all_drop : (n : ℕ) (ids : List Id) → AllByRecursion P ids → AllByRecursion P (drop n ids)
  all_drop zero [] h = tt
  all_drop zero (id ∷ ids) h = h
  all_drop (suc n) [] h = tt
  all_drop (suc n) (id ∷ ids) h = all_drop n ids h.1

  all_append : (xs ys : List Id) → AllByRecursion P xs → AllByRecursion P ys → AllByRecursion P (xs ++ ys)
  all_append [] ys h i = i
  all_append (x ∷ xs) ys h i = (h.0, all_append xs ys h.1 i)

  all_managed : (ids : List Id) → AllByRecursion P ids → AllByRecursion P (managed ids)
  all_managed [] h = tt
  all_managed (id ∷ ids) h = elim (cases_Bool (is_managed id)) [
    | inl t ↦ rw t (h.0, all_managed ids h.1)
    | inr t ↦ rw t (all_managed ids h.1)
  ]

  pub all_unanswered : (ids : List Id) (cont : Option Cont) → AllByRecursion P ids → AllByRecursion P (unanswered ids cont)
  all_unanswered ids None h = h
  all_unanswered ids (Some c) h =
      all_append (take c.place ids) (drop (suc c.place) ids) (all_take c.place ids h) (all_drop (suc c.place) ids h)

  -- the new state, the action and what is given up have what each id of the stock has
  pub state_all : (s : State) (ids : List Id) → AllByRecursion P ids → AllByRecursion P (state_failed s ids).ids
  state_all s ids h = all_take (length s.ids) ids h

  pub action_all : (s : State) (a : Act) (ids : List Id) → AllByRecursion P ids → AllByRecursion P (action_ids s a ids)
  action_all s a ids h = all_take (length a.ids) (drop (length s.ids) ids) (all_drop (length s.ids) ids h)

  pub ups_all : (s : State) (a : Act) (makes : ℕ) (ids : List Id) → AllByRecursion P ids → AllByRecursion P (ups_failed s a makes ids)
  ups_all s a makes ids h =
      all_managed (unanswered (action_ids s a ids) a.cont ++ halves_ahead s a makes ids)
      (all_append (unanswered (action_ids s a ids) a.cont) (halves_ahead s a makes ids)
      (all_unanswered (action_ids s a ids) a.cont (action_all s a ids h))
      (all_drop (length s.ids + length a.ids + makes) ids h))

-- ---- sums

module _ (f : Id → ℕ) where
  abbrev weight : List Id → ℕ
  weight ids = sum_by f (managed ids)

  weight_append : (xs ys : List Id) → weight (xs ++ ys) ≡ weight xs + weight ys
  weight_append xs ys = ap (sum_by f) (filter_append is_managed xs ys) ∙ sum_by-append f (managed xs) (managed ys)

  -- an id and the ids without it
  removed_sum : (ids : List Id) (i : ℕ) → weight (id_at ids i ∷ []) + weight (remove ids i) ≡ weight ids
  removed_sum [] i = at i
    where
      at : (i : ℕ) → weight (id_at [] i ∷ []) + weight (remove [] i) ≡ weight []
      at zero = refl
      at (suc i) = refl
  removed_sum (id ∷ ids) zero = omega (arith, weight_append (id ∷ []) ids)
  removed_sum (id ∷ ids) (suc i) =
      omega (arith, removed_sum ids i, weight_append (id ∷ []) (remove ids i), weight_append (id ∷ []) ids)

  print_free : (b : Bool) → flat_map ids_due (cond b (PrintDue (codes "error: credit limit\n") ∷ []) []) ≡ []
  print_free true = refl
  print_free false = refl

  -- the answer takes one id of the action, and the others are left
  answered_sum : (ids : List Id) (cont : Option Cont) → weight (flat_map ids_due (due_failed ids cont)) + weight (unanswered ids cont) ≡ weight ids
  answered_sum ids None =
      let none : weight (flat_map ids_due (due_failed ids None)) ≡ 0 = ap weight (print_free ((id_at ids 0).kind == 1)) in
      omega (arith, none)
  answered_sum ids (Some cont) =
      let one : weight (flat_map ids_due (due_failed ids (Some cont))) ≡ weight (id_at ids cont.place ∷ []) =
      ap (λ xs. weight (id_at ids cont.place ∷ xs)) (print_free ((id_at ids 0).kind == 1)) in
      omega (arith, one, removed_sum ids cont.place)

  pub failed_sums : (s : State) (a : Act) (makes : ℕ) (ids : List Id) → sum_by f (managed (state_failed s ids).ids)
      + (sum_by f (managed (flat_map ids_due (due_failed (action_ids s a ids) a.cont))) + sum_by f (ups_failed s a makes ids))
      ≡ sum_by f (managed (ids_had s a makes ids))
  failed_sums s a makes ids =
      let own = action_ids s a ids in
      let halves = halves_ahead s a makes ids in
      omega (
        arith,
        answered_sum (action_ids s a ids) a.cont,
        weight_append (unanswered (action_ids s a ids) a.cont) (halves_ahead s a makes ids),
        weight_append (take (length s.ids) ids) (action_ids s a ids ++ halves_ahead s a makes ids),
        weight_append (action_ids s a ids) (halves_ahead s a makes ids),
      )
