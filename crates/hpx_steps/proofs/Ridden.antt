-- The rider of an action, beside its plain action.
use Rattle.hpx_steps.proofs.Common.{Act, AllByRecursion, Bool, HasCredit, HasRightCredit, Id, IsAct, List, MatchOption, None, Option, Some, Token, [], all_at, arith, cond, false, id_at, is_some, length, plain, refl, rider_of, subst, suc, sum_by, sum_by-cons, sym, tokens_of, true, with_credit, ℕ, ◌+◌, ◌<◌, ◌==◌, ◌∷◌, ◌≡◌, ◌≤◌}
use Rattle.hpx_value.specs.Riders.{rider_in, rider_place, rider_at, unridden}
use Rattle.hpx_value.specs.Shapes.{IsCount}
use Rattle.hpx_value.specs.Values.{message_of, refs_in}
use Rattle.hpx_value.specs.declared.value.Message.{Message}
use Rattle.hpx_value.specs.declared.value.Value.{Value}
use Rattle.hpx_value.specs.declared.value.Value.TheVariants.{Unit as Nothing, Flag, Int, Text, Ref, Fault, Ints}
use Rattle.hpx_steps.proofs.Hands.{place_at}
use Rattle.hpx_steps.proofs.Sums.{ids_each, less_sum}

-- ---- its place is one of the action's

refs_behind : (P : ℕ → Type 0) (v : Value) (vs : List Value) → AllByRecursion P (refs_in (v ∷ vs)) → AllByRecursion P (refs_in vs)
refs_behind P Nothing vs h = h
refs_behind P (Flag f) vs h = h
refs_behind P (Int n) vs h = h
refs_behind P (Text t) vs h = h
refs_behind P (Ref q) vs h = h.1
refs_behind P (Fault f) vs h = h
refs_behind P (Ints ns) vs h = h

count_below : (n m : ℕ) (ps : List ℕ) → IsCount n ps → n + length ps ≤ m → AllByRecursion (λ p. p < m) ps
count_below n m [] h le = tt
count_below n m (p ∷ ps) h le = (omega (arith, h.0, le), count_below (n + 1) m ps h.1 (omega (arith, le)))

within_at : (b : Bool) (args : List Value) (p m : ℕ) → AllByRecursion (λ q. q < m) (refs_in args) → cond b (rider_in args) None ≡ Some p → suc p < m
within_at false args p m h e = cc
within_at true (x ∷ y ∷ Ref (suc q) ∷ []) p m h e =
    let same : q ≡ p = cc in
    subst (λ k. suc k < m) same (refs_behind (λ k. k < m) y (Ref (suc q) ∷ []) (refs_behind (λ k. k < m) x (y ∷ Ref (suc q) ∷ []) h)).0
within_at true args p m h e = cc

rider_within : (a : Act) → IsAct a → (p : ℕ) → rider_place (message_of a) ≡ Some p → suc p < length a.ids
rider_within a h p e = within_at (a.code == 3) a.args p (length a.ids) (count_below 1 (length a.ids) (refs_in a.args) h.refs (omega (arith, h.ids))) e

-- ---- what its ids weigh

sum_at : (f : Id → ℕ) (m : Message) (o : Option ℕ) → ((p : ℕ) → o ≡ Some p → suc p < length m.ids) → sum_by f m.ids ≡ sum_by f (unridden m o).ids + sum_by f (rider_at m.ids o)
sum_at f m None within = omega arith
sum_at f m (Some p) within = omega (arith, less_sum f m.ids (suc p) (id_at m.ids (suc p)) (place_at m.ids (suc p) (within p refl)), sum_by-cons f (id_at m.ids (suc p)) [])

pub ridden_sum : (f : Id → ℕ) (a : Act) → IsAct a → sum_by f a.ids ≡ sum_by f (plain a).ids + sum_by f (rider_of a)
ridden_sum f a h = sum_at f (message_of a) (rider_place (message_of a)) (rider_within a h)

pub ridden_tokens : (f : Token → ℕ) (a : Act) → IsAct a → sum_by f (tokens_of a.ids) ≡ sum_by f (tokens_of (plain a).ids) + sum_by f (tokens_of (rider_of a))
ridden_tokens f a h = omega (arith, ids_each f, ridden_sum (λ i. sum_by f (tokens_of (i ∷ []))) a h)

-- ---- what holds of all its ids

all_of : (P : Id → Type 0) (m : Message) (o : Option ℕ) → ((p : ℕ) → o ≡ Some p → suc p < length m.ids) → AllByRecursion P m.ids → AllByRecursion P (rider_at m.ids o)
all_of P m None within h = tt
all_of P m (Some p) within h = (all_at P m.ids (suc p) (id_at m.ids (suc p)) h (place_at m.ids (suc p) (within p refl)), tt)

pub rider_all : (P : Id → Type 0) (a : Act) → IsAct a → AllByRecursion P a.ids → AllByRecursion P (rider_of a)
rider_all P a h all = all_of P (message_of a) (rider_place (message_of a)) (rider_within a h) all

-- what has its right credit has one
with_has : (ids : List Id) → AllByRecursion HasRightCredit ids → AllByRecursion HasCredit (with_credit ids)
with_has [] h = tt
with_has (id ∷ ids) h = each id.log refl (with_has ids h.1)
  where
    each : (l : Option ℕ) → id.log ≡ l → AllByRecursion HasCredit (with_credit ids) → AllByRecursion HasCredit (cond (is_some l) (id ∷ with_credit ids) (with_credit ids))
    each None e rest = rest
    each (Some l) e rest = (subst (λ k. MatchOption k ⊥ (λ x. 16 ≤ id.kind)) (sym e) (subst (λ k. MatchOption k (id.kind < 16) (λ x. 16 ≤ id.kind)) e h.0), rest)

pub rider_has : (a : Act) → IsAct a → AllByRecursion HasRightCredit a.ids → AllByRecursion HasCredit (with_credit (rider_of a))
rider_has a h all = with_has (rider_of a) (rider_all HasRightCredit a h all)

-- at most one has a credit
pub rider_few : (a : Act) → length (with_credit (rider_of a)) ≤ 1
rider_few a = each (rider_place (message_of a))
  where
    one : (id : Id) (b : Bool) → length (cond b (id ∷ []) []) ≤ 1
    one id true = omega arith
    one id false = omega arith

    each : (o : Option ℕ) → length (with_credit (rider_at a.ids o)) ≤ 1
    each None = omega arith
    each (Some p) = one (id_at a.ids (suc p)) (is_some (id_at a.ids (suc p)).log)
