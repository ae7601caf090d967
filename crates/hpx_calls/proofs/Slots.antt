-- Inputs that stand once each: there is room for one that lacks.
use Rattle.std.specs.Prelude.{ℕ, zero, suc, Bool, true, false, nat_lt, List, [], ◌∷◌, ◌++◌, ◌+◌, ◌<◌, ◌≤◌, ◌≡◌, ◌≢◌, ◌==◌, ◌&&◌, Option, Some, None, length, refl, if◌then◌else◌}
use Rattle.std.proofs.Common.{ap, sym, ◌∙◌, subst, arith}
use Rattle.std.proofs.lemmas.Bool.{cond_both, eqb-true, eqb-false, ne_eqb, ltb-true, lt-ltb, and_parts}
use Rattle.hpx_calls.specs.Contents.{Given, input_of, is_none, are_inputs}

-- what a value weighs, if there is one
abbrev pub weight : {V : Type 0} → (V → ℕ) → Option V → ℕ
weight f None = 0
weight f (Some v) = f v

-- what the values of so many inputs from one on weigh, and all that are kept
abbrev pub weigh : {V : Type 0} → (V → ℕ) → List (Given V) → ℕ → ℕ → ℕ
weigh f xs slot zero = 0
weigh f xs slot (suc n) = weight f (input_of slot xs) + weigh f xs (slot + 1) n

abbrev pub weigh_all : {V : Type 0} → (V → ℕ) → List (Given V) → ℕ
weigh_all f [] = 0
weigh_all f (x ∷ xs) = f x.value + weigh_all f xs

gone : {V : Type 0} (f : V → ℕ) (x : Given V) (xs : List (Given V)) (slot n : ℕ) → x.slot < slot → weigh f (x ∷ xs) slot n ≡ weigh f xs slot n
gone f x xs slot zero low = refl
gone f x xs slot (suc n) low =
    let rest = gone f x xs (slot + 1) n (omega arith) in
    let P : Bool → Type 0 = λ b. weight f (if b then Some x.value else input_of slot xs) + weigh f (x ∷ xs) (slot + 1) n ≡ weight f (input_of slot xs) + weigh f xs (slot + 1) n in
    subst P (sym (ne_eqb x.slot slot (λ e. omega arith))) (omega arith)

one_more : {V : Type 0} (f : V → ℕ) (x : Given V) (xs : List (Given V)) (slot n : ℕ) → slot ≤ x.slot → x.slot < slot + n → input_of x.slot xs ≡ None
    → weigh f (x ∷ xs) slot n ≡ weigh f xs slot n + f x.value
one_more f x xs slot zero low high none = absurd (omega arith)
one_more f x xs slot (suc n) low high none =
    cond_both (x.slot == slot) _ _ (λ o. weight f o + weigh f (x ∷ xs) (slot + 1) n ≡ weight f (input_of slot xs) + weigh f xs (slot + 1) n + f x.value)
    (λ e.
    let same = eqb-true x.slot slot e in
    let rest = gone f x xs (slot + 1) n (omega arith) in
    let empty : weight f (input_of slot xs) ≡ 0 = ap (λ i. weight f (input_of i xs)) (sym same) ∙ ap (weight f) none in
    omega arith)
    (λ e.
    let other = eqb-false x.slot slot e in
    let rest = one_more f x xs (slot + 1) n (omega arith) (omega arith) none in
    omega arith)

none_is : {X : Type 0} (o : Option X) → is_none o ≡ true → o ≡ None
none_is None e = refl
none_is (Some x) e = absurd (cc)

none_given : (V : Type 0) (f : V → ℕ) (slot n : ℕ) → weigh f [] slot n ≡ 0
none_given V f slot zero = refl
none_given V f slot (suc n) = let rest = none_given V f (slot + 1) n in omega arith

-- inputs that stand once each, and below their number, weigh what is kept
pub all_weighed : {V : Type 0} (f : V → ℕ) (n : ℕ) (xs : List (Given V)) → are_inputs n xs ≡ true → weigh f xs 0 n ≡ weigh_all f xs
all_weighed {V} f n [] e = none_given V f 0 n
all_weighed f n (x ∷ xs) e =
    let one = and_parts (nat_lt x.slot n) _ e in
    let two = and_parts (is_none (input_of x.slot xs)) (are_inputs n xs) one.1 in
    let low = ltb-true x.slot n one.0 in
    let more = one_more f x xs 0 n (omega arith) (omega arith) (none_is (input_of x.slot xs) two.0) in
    let rest = all_weighed f n xs two.1 in
    omega arith

-- one for each value
abbrev pub one_each : {V : Type 0} → V → ℕ
one_each v = 1

abbrev pub present : {V : Type 0} → List (Given V) → ℕ → ℕ → ℕ
present xs slot n = weigh one_each xs slot n

pub length_kept : {V : Type 0} (xs : List (Given V)) → weigh_all one_each xs ≡ length xs
length_kept [] = refl
length_kept (x ∷ xs) = let rest = length_kept xs in omega arith

few : {V : Type 0} (o : Option V) → weight one_each o ≤ 1
few None = omega arith
few (Some v) = omega arith

pub at_most : {V : Type 0} (xs : List (Given V)) (slot n : ℕ) → present xs slot n ≤ n
at_most xs slot zero = omega arith
at_most xs slot (suc n) = let rest = at_most xs (slot + 1) n in let one = few (input_of slot xs) in omega arith

one_lacks : {V : Type 0} (xs : List (Given V)) (s slot n : ℕ) → s ≤ slot → slot < s + n → input_of slot xs ≡ None → present xs s n < n
one_lacks xs s slot zero low high none = absurd (omega arith)
one_lacks xs s slot (suc n) low high none = by_test (s == slot) refl (λ other. one_lacks xs (s + 1) slot n (omega arith) (omega arith) none)
  where
    by_test : (b : Bool) → (s == slot) ≡ b → (s ≢ slot → present xs (s + 1) n < n) → weight one_each (input_of s xs) + present xs (s + 1) n < suc n
    by_test true e less =
        let same = eqb-true s slot e in
        let empty : weight one_each (input_of s xs) ≡ 0 = ap (λ i. weight one_each (input_of i xs)) same ∙ ap (weight one_each) none in
        let rest = at_most xs (s + 1) n in
        omega arith
    by_test false e less = let rest = less (eqb-false s slot e) in let one = few (input_of s xs) in omega arith

-- there is room while an input lacks
pub room_left : {V : Type 0} (n slot : ℕ) (xs : List (Given V)) → are_inputs n xs ≡ true → slot < n → input_of slot xs ≡ None → length xs < n
room_left n slot xs e low none =
    let all = all_weighed one_each n xs e in
    let long = length_kept xs in
    let lacks = one_lacks xs 0 slot n (omega arith) (omega arith) none in
    omega arith

-- and with it they stand once each
behind : {V : Type 0} (i : ℕ) (xs : List (Given V)) (x : Given V) → i ≢ x.slot → input_of i xs ≡ None → input_of i (xs ++ x ∷ []) ≡ None
behind i [] x other none = ap (λ (b : Bool). if b then Some x.value else None) (ne_eqb x.slot i (λ e. other (sym e)))
behind i (y ∷ xs) x other none = by_test (y.slot == i) none (behind i xs x other)
  where
    by_test : (b : Bool) → (if b then Some y.value else input_of i xs) ≡ None → (input_of i xs ≡ None → input_of i (xs ++ x ∷ []) ≡ None)
        → (if b then Some y.value else input_of i (xs ++ x ∷ [])) ≡ None
    by_test true e rest = absurd (cc)
    by_test false e rest = rest e

differs : {V : Type 0} (y : Given V) (xs : List (Given V)) (slot : ℕ) → input_of slot (y ∷ xs) ≡ None → (y.slot ≢ slot) × (input_of slot xs ≡ None)
differs y xs slot none = by_test (y.slot == slot) refl none
  where
    by_test : (b : Bool) → (y.slot == slot) ≡ b → (if b then Some y.value else input_of slot xs) ≡ None → (y.slot ≢ slot) × (input_of slot xs ≡ None)
    by_test true e f = absurd (cc)
    by_test false e f = (eqb-false y.slot slot e, f)

is_none-some : {X : Type 0} (o : Option X) → o ≡ None → is_none o ≡ true
is_none-some o e = ap is_none e

pub still_once : {V : Type 0} (n : ℕ) (xs : List (Given V)) (x : Given V) → are_inputs n xs ≡ true → x.slot < n → input_of x.slot xs ≡ None → are_inputs n (xs ++ x ∷ []) ≡ true
still_once n [] x e low none = ap (λ (b : Bool). b && true) (lt-ltb x.slot n low)
still_once n (y ∷ xs) x e low none =
    let one = and_parts (nat_lt y.slot n) _ e in
    let two = and_parts (is_none (input_of y.slot xs)) (are_inputs n xs) one.1 in
    let other = differs y xs x.slot none in
    let free = is_none-some (input_of y.slot (xs ++ x ∷ [])) (behind y.slot xs x other.0 (none_is (input_of y.slot xs) two.0)) in
    let rest = still_once n xs x two.1 low other.1 in
    ap (λ (b : Bool). b && (is_none (input_of y.slot (xs ++ x ∷ [])) && are_inputs n (xs ++ x ∷ []))) one.0
    ∙ ap (λ (b : Bool). b && are_inputs n (xs ++ x ∷ [])) free ∙ rest
