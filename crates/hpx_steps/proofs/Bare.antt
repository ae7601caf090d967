-- Ids with their credits, and without.
use Rattle.hpx_steps.proofs.Common.{AllByRecursion, Bool, HasRightCredit, Id, List, None, Option, Some, State, Token, [], ap, arith, bare, bare_names, bare_state, cond, credit_list, false, filter, held, is_asked, is_some, managed, map, names_of, nat_le, nat_tests, refl, sum_by, sum_by-cons, sym, tokens_of, true, with_credit, ℕ, ◌&&◌, ◌++◌, ◌<◌, ◌∙◌, ◌∷◌, ◌≡◌, ◌≤◌}
use Rattle.hpx_steps.proofs.Cover.{held_ids, held_or_bare}
use Rattle.hpx_steps.proofs.Sums.{ids_append}

is_below : (kind : ℕ) → kind < 16 → nat_le 16 kind ≡ false
is_below kind e = grind (arith, nat_tests)

pub not_asked : (id : Id) → HasRightCredit id → is_asked id ≡ false
not_asked id h = grind arith

-- an id with a credit was not asked for
pub has_not_asked : (id : Id) (l : ℕ) → id.log ≡ Some l → is_asked id ≡ false
has_not_asked id l e = grind arith

pub no_bare : (o : Id) → 16 ≤ o.kind → (ids : List Id) → AllByRecursion HasRightCredit ids → bare_names o ids ≡ 0
no_bare o managed ids h = omega (arith, held_or_bare o ids, held_ids o managed ids h)

one_lent : (b : Bool) → ◌≡◌ {A = ℕ} (cond (b && true) 1 0) (cond b 1 0)
one_lent b = grind arith

pub lent_all : (o : Id) (ids : List Id) → bare_names o (map bare ids) ≡ names_of o ids
lent_all o [] = refl
lent_all o (id ∷ ids) = search (arith, one_lent, sum_by-cons, lent_all o ids)

pub no_tokens : (f : Token → ℕ) (ids : List Id) → sum_by f (tokens_of (map bare ids)) ≡ 0
no_tokens f [] = refl
no_tokens f (id ∷ ids) = no_tokens f ids

pub bare_all : (ids : List Id) → map bare (map bare ids) ≡ map bare ids
bare_all [] = refl
bare_all (id ∷ ids) = ap (λ xs. bare id ∷ xs) (bare_all ids)

-- a state without credits
pub bare_lent : (x y : State) → x ≡ bare_state y → bare_state x ≡ x
bare_lent x y is = ap bare_state is ∙ (ap (λ ids. record y { ids = ids }) (bare_all y.ids) ∙ sym is)

pub none_tokens : (f : Token → ℕ) (ids : List Id) → AllByRecursion (λ (id : Id). id.log ≡ None) ids → sum_by f (tokens_of ids) ≡ 0
none_tokens f [] h = refl
none_tokens f (id ∷ ids) h = omega (arith, ids_append f (id ∷ []) ids, ap (λ l. sum_by f (map held (credit_list id l ++ []))) h.0, none_tokens f ids h.1)

-- of ids with their credits none was asked for
pub all_none : (ids : List Id) → AllByRecursion HasRightCredit ids → filter is_asked ids ≡ []
all_none [] h = refl
all_none (id ∷ ids) h = rw (not_asked id h.0) (all_none ids h.1)

-- an id that was asked for has no credit
pub bare_tokens : (f : Token → ℕ) (id : Id) → is_asked id ≡ true → sum_by f (tokens_of (id ∷ [])) ≡ 0
bare_tokens f id h = grind arith

-- those that have a credit have all the tokens
pub credit_tokens : (f : Token → ℕ) (ids : List Id) → sum_by f (tokens_of (with_credit ids)) ≡ sum_by f (tokens_of ids)
credit_tokens f [] = refl
credit_tokens f (id ∷ ids) = each (credit_tokens f ids) id.log refl
  where
    each : sum_by f (tokens_of (with_credit ids)) ≡ sum_by f (tokens_of ids) → (l : Option ℕ) → id.log ≡ l
        → sum_by f (tokens_of (cond (is_some l) (id ∷ with_credit ids) (with_credit ids))) ≡ sum_by f (tokens_of (id ∷ ids))
    each rest None e = omega (arith, ids_append f (id ∷ []) ids, rest, ap (λ k. sum_by f (map held (credit_list id k ++ []))) e)
    each rest (Some l) e = omega (arith, ids_append f (id ∷ []) (with_credit ids), ids_append f (id ∷ []) ids, rest)

pub all_with : (ids : List Id) → AllByRecursion HasRightCredit ids → AllByRecursion HasRightCredit (with_credit ids)
all_with [] h = tt
all_with (id ∷ ids) h = grind (arith, Bool, all_with ids h.1)
