-- What a dataflow holds after calls, and what calls on it are told.
use Rattle.std.specs.Prelude.{ℕ, zero, suc, ℤ, pos, negsuc, Bool, true, false, nat_le, nat_lt, List, [], ◌∷◌, ◌++◌, ◌+◌, ◌≤◌, ◌<◌, ◌≡◌, ◌≢◌, ◌==◌, ◌&&◌, Option, Some, None, is_some, length, take, drop, refl, if◌then◌else◌}
use Rattle.std.proofs.Common.{ap, sym, ◌∙◌, arith, subst, length-append}
use Rattle.std.proofs.lemmas.Bool.{cond_both, leb-true, le-leb, eq-eqb, ne_eqb, eqb-true, eqb-false, ltb-true, lt-ltb, and_parts}
use Rattle.hpx_calls.specs.Values.{Sort, size}
use Rattle.hpx_calls.specs.declared.content.Given.{Given}
use Rattle.hpx_calls.specs.Contents.{input_of, given_size, are_inputs}
use Rattle.hpx_calls.specs.declared.content.Content.{Content}
use Rattle.hpx_calls.specs.declared.content.Content.TheVariants.{Dataflow, Started}
use Rattle.hpx_calls.specs.declared.request.Request.{Request}
use Rattle.hpx_calls.specs.declared.request.Request.TheVariants.{Move, Where, Set, Get, PutAt}
use Rattle.hpx_calls.specs.declared.effect.Called.{Called}
use Rattle.hpx_calls.specs.Tables.{fitted, or_nothing, inputs_from, gives, puts, puts_free, starts, puts_late, refuses, is_movable}
use Rattle.hpx_calls.specs.Histories.{Setting, Object, Call, Told, own, begun, alone, next, still, tells, called_on, run, says}
use Rattle.hpx_calls.proofs.Slots.{weight, weigh, weigh_all, all_weighed, one_each, present, length_kept, at_most, room_left, still_once}
use Rattle.hpx_lco.specs.Every.{place_says, wrong_says, dataflow_says}
use Rattle.hpx_calls.proofs.Steps.{told_on, where_told, move_told, managed_high, fixed_high}
use Rattle.hpx_lco.specs.Answered.{or_else, joins_get, gets}
use Rattle.hpx_lco.specs.Flows.{given_at, giving, size_at, bytes_from, within, value_of, all_from, list_from, is_full, has_get, give_says, ask_says, story, starts as told_starts}
use Rattle.hpx_lco.proofs.Still.{object, call, same_where, same_move, either, told_either, same_test}

-- ---- what is kept for the inputs, in the order in which it came

abbrev keep_free : {V : Type 0} → Sort V → List (Given V) → ℕ → V → Option V → List (Given V)
keep_free k xs slot v None = xs ++ record { slot = slot; value = fitted k xs v } ∷ []
keep_free k xs slot v (Some old) = xs

abbrev keep_at : {V : Type 0} → Sort V → ℕ → List (Given V) → ℤ → V → List (Given V)
keep_at k n xs (pos slot) v = if nat_lt slot n then keep_free k xs slot v (input_of slot xs) else xs
keep_at k n xs (negsuc m) v = xs

abbrev keep : {V : Type 0} → Sort V → ℕ → List (Given V) → Request V → List (Given V)
keep k n xs (Set z v) = keep_at k n xs z v
keep k n xs (PutAt z v) = keep_at k n xs z v
keep k n xs _ = xs

abbrev pub kept : {V W : Type 0} → Sort V → ℕ → List (Call V W) → List (Given V)
kept k n [] = []
kept k n (c ∷ h) = keep k n (kept k n h) c.request

-- each input stands once
free_once : {V : Type 0} (k : Sort V) (n : ℕ) (xs : List (Given V)) (slot : ℕ) (v : V) (o : Option V) → are_inputs n xs ≡ true → slot < n → input_of slot xs ≡ o
    → are_inputs n (keep_free k xs slot v o) ≡ true
free_once k n xs slot v (Some old) once low e = once
free_once k n xs slot v None once low e = still_once n xs (record { slot = slot; value = fitted k xs v }) once low e

at_once : {V : Type 0} (k : Sort V) (n : ℕ) (xs : List (Given V)) (z : ℤ) (v : V) → are_inputs n xs ≡ true → are_inputs n (keep_at k n xs z v) ≡ true
at_once k n xs (negsuc m) v once = once
at_once k n xs (pos slot) v once =
    cond_both (nat_lt slot n) _ _ (λ ys. are_inputs n ys ≡ true) (λ e. free_once k n xs slot v (input_of slot xs) once (ltb-true slot n e) refl) (λ e. once)

keep_once : {V : Type 0} (k : Sort V) (n : ℕ) (xs : List (Given V)) (r : Request V) → are_inputs n xs ≡ true → are_inputs n (keep k n xs r) ≡ true
keep_once k n xs (Set z v) once = at_once k n xs z v once
keep_once k n xs (PutAt z v) once = at_once k n xs z v once
keep_once k n xs _ once = once

pub kept_once : {V W : Type 0} (k : Sort V) (n : ℕ) (h : List (Call V W)) → are_inputs n (kept k n h) ≡ true
kept_once k n [] = refl
kept_once k n (c ∷ h) = keep_once k n (kept k n h) c.request (kept_once k n h)

-- ---- the value of each input

or_none : {X : Type 0} (o : Option X) → or_else o None ≡ o
or_none None = refl
or_none (Some x) = refl

input_more : {V : Type 0} (slot : ℕ) (xs : List (Given V)) (x : Given V) → input_of slot (xs ++ x ∷ []) ≡ or_else (input_of slot xs) (if x.slot == slot then Some x.value else None)
input_more slot [] x = refl
input_more slot (y ∷ xs) x = by_test (y.slot == slot) (input_more slot xs x)
  where
    by_test : (b : Bool) → input_of slot (xs ++ x ∷ []) ≡ or_else (input_of slot xs) (if x.slot == slot then Some x.value else None)
        → (if b then Some y.value else input_of slot (xs ++ x ∷ [])) ≡ or_else (if b then Some y.value else input_of slot xs) (if x.slot == slot then Some x.value else None)
    by_test true e = refl
    by_test false e = e

within_if : {V : Type 0} (k : Sort V) (xs : List (Given V)) (v : V) (b : Bool) → (if b then Some (fitted k xs v) else None) ≡ within k (given_size k xs) (if b then Some v else None)
within_if k xs v true = refl
within_if k xs v false = refl

-- another slot, or one that has a value
taken : {V : Type 0} (k : Sort V) (xs : List (Given V)) (slot at : ℕ) (v old : V) → input_of slot xs ≡ Some old
    → input_of at xs ≡ or_else (input_of at xs) (within k (given_size k xs) (if slot == at then Some v else None))
taken k xs slot at v old e = by_test (slot == at) refl
  where
    by_test : (b : Bool) → (slot == at) ≡ b → input_of at xs ≡ or_else (input_of at xs) (within k (given_size k xs) (if b then Some v else None))
    by_test true f =
        let is : input_of at xs ≡ Some old = ap (λ i. input_of i xs) (sym (eqb-true slot at f)) ∙ e in
        let P : Option _ → Type 0 = λ o. o ≡ or_else o (within k (given_size k xs) (Some v)) in
        subst P (sym is) refl
    by_test false f = sym (or_none (input_of at xs))

free_value : {V : Type 0} (k : Sort V) (xs : List (Given V)) (slot at : ℕ) (v : V) (o : Option V) → input_of slot xs ≡ o
    → input_of at (keep_free k xs slot v o) ≡ or_else (input_of at xs) (within k (given_size k xs) (if slot == at then Some v else None))
free_value k xs slot at v None e =
    input_more at xs (record { slot = slot; value = fitted k xs v }) ∙ ap (or_else (input_of at xs)) (within_if k xs v (slot == at))
free_value k xs slot at v (Some old) e = taken k xs slot at v old e

at_value : {V : Type 0} (k : Sort V) (n : ℕ) (xs : List (Given V)) (z : ℤ) (v : V) (at : ℕ) → at < n
    → input_of at (keep_at k n xs z v) ≡ or_else (input_of at xs) (within k (given_size k xs) (given_at at z v))
at_value k n xs (negsuc m) v at low = sym (or_none (input_of at xs))
at_value k n xs (pos slot) v at low = by_test (nat_lt slot n) refl
  where
    by_test : (b : Bool) → nat_lt slot n ≡ b
        → input_of at (if b then keep_free k xs slot v (input_of slot xs) else xs) ≡ or_else (input_of at xs) (within k (given_size k xs) (if slot == at then Some v else None))
    by_test true e = free_value k xs slot at v (input_of slot xs) refl
    by_test false e =
        let P : Bool → Type 0 = λ b. input_of at xs ≡ or_else (input_of at xs) (within k (given_size k xs) (if b then Some v else None)) in
        subst P (sym (ne_eqb slot at (other e))) (sym (or_none (input_of at xs)))
      where
        other : nat_lt slot n ≡ false → slot ≢ at
        other e same = let yes = lt-ltb slot n (omega arith) in let both : true ≡ false = sym yes ∙ e in cc

keep_value : {V : Type 0} (k : Sort V) (n : ℕ) (xs : List (Given V)) (r : Request V) (at : ℕ) → at < n
    → input_of at (keep k n xs r) ≡ or_else (input_of at xs) (within k (given_size k xs) (giving at r))
keep_value k n xs (Set z v) at low = at_value k n xs z v at low
keep_value k n xs (PutAt z v) at low = at_value k n xs z v at low
keep_value k n xs _ at low = sym (or_none (input_of at xs))

-- what is read off the values of inputs is read off what is kept
size_weight : {V : Type 0} (k : Sort V) (o : Option V) → size_at k o ≡ weight (λ v. size (k.look v)) o
size_weight k None = refl
size_weight k (Some v) = refl

bytes_kept : {V : Type 0} (k : Sort V) (f : ℕ → Option V) (xs : List (Given V)) (slot n : ℕ) → ((i : ℕ) → i < slot + n → f i ≡ input_of i xs)
    → bytes_from k f slot n ≡ weigh (λ v. size (k.look v)) xs slot n
bytes_kept k f xs slot zero same = refl
bytes_kept k f xs slot (suc n) same =
    let rest = bytes_kept k f xs (slot + 1) n (λ i low. same i (omega arith)) in
    let first : size_at k (f slot) ≡ weight (λ v. size (k.look v)) (input_of slot xs) = ap (size_at k) (same slot (omega arith)) ∙ size_weight k (input_of slot xs) in
    omega arith

given_weight : {V : Type 0} (k : Sort V) (xs : List (Given V)) → weigh_all (λ v. size (k.look v)) xs ≡ given_size k xs
given_weight k [] = refl
given_weight k (x ∷ xs) = ap (λ m. size (k.look x.value) + m) (given_weight k xs)

pub value_kept : {V W : Type 0} (k : Sort V) (n : ℕ) (h : List (Call V W)) (at : ℕ) → at < n → value_of k n h at ≡ input_of at (kept k n h)
value_kept k n [] at low = refl
value_kept k n (c ∷ h) at low =
    let rest = value_kept k n h in
    let bytes : bytes_from k (value_of k n h) 0 n ≡ given_size k (kept k n h) =
    bytes_kept k (value_of k n h) (kept k n h) 0 n (λ i less. rest i (omega arith)) ∙ all_weighed (λ v. size (k.look v)) n (kept k n h) (kept_once k n h) ∙ given_weight k (kept k n h) in
    ap (λ m. or_else (value_of k n h at) (within k m (giving at c.request))) bytes
    ∙ ap (λ o. or_else o (within k (given_size k (kept k n h)) (giving at c.request))) (rest at low)
    ∙ sym (keep_value k n (kept k n h) c.request at low)

one_at : {V : Type 0} (n : ℕ) (o : Option V) (m : ℕ) → m ≤ n → (is_some o && (m == n)) ≡ (weight one_each o + m == suc n)
one_at n None m most = sym (ne_eqb (0 + m) (suc n) (λ e. omega arith))
one_at n (Some v) m most =
    same_test (m == n) (1 + m == suc n) (λ e. let is = eqb-true m n e in eq-eqb (1 + m) (suc n) (omega arith)) (λ e. let is = eqb-false m n e in ne_eqb (1 + m) (suc n) (λ f. is (omega arith)))

all_kept : {V : Type 0} (f : ℕ → Option V) (xs : List (Given V)) (slot n : ℕ) → ((i : ℕ) → i < slot + n → f i ≡ input_of i xs) → all_from f slot n ≡ (present xs slot n == n)
all_kept f xs slot zero same = refl
all_kept f xs slot (suc n) same =
    ap (λ o. is_some o && all_from f (slot + 1) n) (same slot (omega arith)) ∙ ap (λ b. is_some (input_of slot xs) && b) (all_kept f xs (slot + 1) n (λ i low. same i (omega arith)))
    ∙ one_at n (input_of slot xs) (present xs (slot + 1) n) (at_most xs (slot + 1) n)

pub full_kept : {V W : Type 0} (k : Sort V) (n : ℕ) (h : List (Call V W)) → is_full k n h ≡ (length (kept k n h) == n)
full_kept k n h =
    all_kept (value_of k n h) (kept k n h) 0 n (λ i low. value_kept k n h i (omega arith))
    ∙ ap (λ m. m == n) (all_weighed one_each n (kept k n h) (kept_once k n h) ∙ length_kept (kept k n h))

list_kept : {V : Type 0} (k : Sort V) (f : ℕ → Option V) (xs : List (Given V)) (slot n : ℕ) → ((i : ℕ) → i < slot + n → f i ≡ input_of i xs) → list_from k f slot n ≡ inputs_from k xs slot n
list_kept k f xs slot zero same = refl
list_kept k f xs slot (suc n) same =
    ap (λ o. or_nothing k o ∷ list_from k f (slot + 1) n) (same slot (omega arith)) ∙ ap (λ vs. or_nothing k (input_of slot xs) ∷ vs) (list_kept k f xs (slot + 1) n (λ i low. same i (omega arith)))

pub inputs_kept : {V W : Type 0} (k : Sort V) (n : ℕ) (h : List (Call V W)) → list_from k (value_of k n h) 0 n ≡ inputs_from k (kept k n h) 0 n
inputs_kept k n h = list_kept k (value_of k n h) (kept k n h) 0 n (λ i low. value_kept k n h i (omega arith))

-- ---- what the dataflow holds

abbrev pub is_ready : {V W : Type 0} → ℕ → List (Given V) → List W → Bool
is_ready n xs ws = (length xs == n) && nat_le 1 (length ws)

abbrev flow_by : {V W : Type 0} → ℕ → ℕ → List (Given V) → List W → Bool → Object V W
flow_by code n xs ws b = if b then object (Started code n) [] else object (Dataflow code n xs) (take 1 ws)

-- the action has started, or values are kept, and the first GET waits
abbrev pub flow_at : {V W : Type 0} → ℕ → ℕ → List (Given V) → List W → Object V W
flow_at code n xs ws = flow_by code n xs ws (is_ready n xs ws)

one_waits : {W : Type 0} (ws : List W) → nat_le 1 (length (take 1 ws)) ≡ nat_le 1 (length ws)
one_waits [] = refl
one_waits (w ∷ ws) = le-leb 1 (length (take 1 (w ∷ ws))) (omega arith) ∙ sym (le-leb 1 (length (w ∷ ws)) (omega arith))

none_left : {W : Type 0} (ws : List W) → drop 1 (take 1 ws) ≡ []
none_left [] = refl
none_left (w ∷ ws) = refl

open_is : {V W : Type 0} (code n : ℕ) (xs : List (Given V)) (ws : List W) → is_ready n xs ws ≡ false → object (Dataflow code n xs) (take 1 ws) ≡ flow_at code n xs ws
open_is code n xs ws e = ap (flow_by code n xs ws) (sym e)

ready_is : {V W : Type 0} (code n : ℕ) (xs : List (Given V)) (ws : List W) → is_ready n xs ws ≡ true → object (Started code n) [] ≡ flow_at code n xs ws
ready_is code n xs ws e = ap (flow_by code n xs ws) (sym e)

free_step : {V W : Type 0} (k : Sort V) (code n : ℕ) (xs : List (Given V)) (slot : ℕ) (v : V) (o : Option V) (ws : List W) (w : Option W) → is_ready n xs ws ≡ false
    → object (puts_free k (length (take 1 ws)) code n xs slot v o).content (still (puts_free k (length (take 1 ws)) code n xs slot v o).effect (take 1 ws) w) ≡ flow_at code n (keep_free k xs slot v o) ws
free_step k code n xs slot v (Some old) ws w e = open_is code n xs ws e
free_step k code n xs slot v None ws w e =
    let ys = xs ++ record { slot = slot; value = fitted k xs v } ∷ [] in
    either ((length ys == n) && nat_le 1 (length (take 1 ws))) _ _ (take 1 ws) w (flow_by code n ys ws) (ap (object (Started code n)) (none_left ws)) refl
    ∙ ap (λ b. flow_by code n ys ws ((length ys == n) && b)) (one_waits ws)

puts_step : {V W : Type 0} (k : Sort V) (code n : ℕ) (xs : List (Given V)) (z : ℤ) (v : V) (ws : List W) (w : Option W) → is_ready n xs ws ≡ false
    → object (puts k (length (take 1 ws)) code n xs z v).content (still (puts k (length (take 1 ws)) code n xs z v).effect (take 1 ws) w) ≡ flow_at code n (keep_at k n xs z v) ws
puts_step k code n xs (negsuc m) v ws w e = open_is code n xs ws e
puts_step k code n xs (pos slot) v ws w e =
    either (nat_lt slot n) _ _ (take 1 ws) w (λ b. flow_at code n (if b then keep_free k xs slot v (input_of slot xs) else xs) ws) (free_step k code n xs slot v (input_of slot xs) ws w e) (open_is code n xs ws e)

and_true : (b : Bool) → (b && true) ≡ b
and_true true = refl
and_true false = refl

not_full : {V W : Type 0} (n : ℕ) (xs : List (Given V)) (w : W) (ws : List W) → is_ready n xs (w ∷ ws) ≡ false → (length xs == n) ≡ false
not_full n xs w ws e = sym (and_true (length xs == n)) ∙ ap (λ b. (length xs == n) && b) (sym (le-leb 1 (length (w ∷ ws)) (omega arith))) ∙ e

get_step : {V W : Type 0} (k : Sort V) (code n : ℕ) (xs : List (Given V)) (ws : List W) (w : W) → is_ready n xs ws ≡ false
    → object (starts k (length (take 1 ws)) code n xs).content (still (starts k (length (take 1 ws)) code n xs).effect (take 1 ws) (Some w)) ≡ flow_at code n xs (ws ++ w ∷ [])
get_step k code n xs [] w e =
    either (length xs == n) _ _ [] (Some w) (flow_by code n xs (w ∷ [])) refl refl
    ∙ ap (flow_by code n xs (w ∷ [])) (sym (and_true (length xs == n)) ∙ ap (λ b. (length xs == n) && b) (sym (le-leb 1 (length (w ∷ [])) (omega arith))))
get_step k code n xs (u ∷ ws) w e = open_is code n xs (u ∷ (ws ++ w ∷ [])) (ap (λ b. b && nat_le 1 (length (u ∷ (ws ++ w ∷ [])))) (not_full n xs u ws e))

-- nothing more is kept where all inputs have values
full_free : {V : Type 0} (k : Sort V) (n : ℕ) (xs : List (Given V)) (slot : ℕ) (v : V) (o : Option V) → are_inputs n xs ≡ true → length xs ≡ n → slot < n → input_of slot xs ≡ o
    → keep_free k xs slot v o ≡ xs
full_free k n xs slot v (Some old) once full low e = refl
full_free k n xs slot v None once full low e = let room = room_left n slot xs once low e in absurd (omega arith)

full_at : {V : Type 0} (k : Sort V) (n : ℕ) (xs : List (Given V)) (z : ℤ) (v : V) → are_inputs n xs ≡ true → length xs ≡ n → keep_at k n xs z v ≡ xs
full_at k n xs (negsuc m) v once full = refl
full_at k n xs (pos slot) v once full = cond_both (nat_lt slot n) _ _ (λ ys. ys ≡ xs) (λ e. full_free k n xs slot v (input_of slot xs) once full (ltb-true slot n e) refl) (λ e. refl)

ready_full : {V W : Type 0} (n : ℕ) (xs : List (Given V)) (ws : List W) → is_ready n xs ws ≡ true → length xs ≡ n
ready_full n xs ws e = eqb-true (length xs) n (and_parts (length xs == n) (nat_le 1 (length ws)) e).0

late_step : {V W : Type 0} (k : Sort V) (code n : ℕ) (xs : List (Given V)) (z : ℤ) (v : V) (ws : List W) (w : Option W) → are_inputs n xs ≡ true → is_ready n xs ws ≡ true
    → object (puts_late k code n z).content (still (puts_late k code n z).effect [] w) ≡ flow_at code n (keep_at k n xs z v) ws
late_step k code n xs (negsuc m) v ws w once e = ready_is code n xs ws e
late_step k code n xs (pos slot) v ws w once e = ready_is code n xs ws e ∙ ap (λ ys. flow_at code n ys ws) (sym (full_at k n xs (pos slot) v once (ready_full n xs ws e)))

late_get : {V W : Type 0} (code n : ℕ) (xs : List (Given V)) (ws : List W) (w : W) → is_ready n xs ws ≡ true → object (Started code n) [] ≡ flow_at code n xs (ws ++ w ∷ [])
late_get code n xs ws w e =
    let long = length-append ws (w ∷ []) in
    ready_is code n xs (ws ++ w ∷ [])
    (ap (λ b. b && nat_le 1 (length (ws ++ w ∷ []))) (and_parts (length xs == n) (nat_le 1 (length ws)) e).0 ∙ le-leb 1 (length (ws ++ w ∷ [])) (omega arith))

ready_step : {V W : Type 0} (g : Setting V) (code n : ℕ) (xs : List (Given V)) (ws : List W) (r : Request V) (w : Option W) → are_inputs n xs ≡ true → is_ready n xs ws ≡ true
    → next g (object (Started code n) []) (call r w) ≡ flow_at code n (keep g.sort n xs r) (joins_get r ws w)
ready_step g code n xs ws Where w once e = same_where g (Started code n) [] w ∙ ready_is code n xs ws e
ready_step g code n xs ws (Move to) w once e = same_move g (Started code n) to [] w ∙ ready_is code n xs ws e
ready_step g code n xs ws (Set z v) None once e = late_step g.sort code n xs z v ws None once e
ready_step g code n xs ws (Set z v) (Some w) once e = late_step g.sort code n xs z v ws (Some w) once e
ready_step g code n xs ws (PutAt z v) None once e = late_step g.sort code n xs z v ws None once e
ready_step g code n xs ws (PutAt z v) (Some w) once e = late_step g.sort code n xs z v ws (Some w) once e
ready_step g code n xs ws Get None once e = ready_is code n xs ws e
ready_step g code n xs ws Get (Some w) once e = late_get code n xs ws w e
ready_step g code n xs ws _ None once e = ready_is code n xs ws e
ready_step g code n xs ws _ (Some w) once e = ready_is code n xs ws e

open_step : {V W : Type 0} (g : Setting V) (code n : ℕ) (xs : List (Given V)) (ws : List W) (r : Request V) (w : Option W) → is_ready n xs ws ≡ false
    → next g (object (Dataflow code n xs) (take 1 ws)) (call r w) ≡ flow_at code n (keep g.sort n xs r) (joins_get r ws w)
open_step g code n xs ws Where w e = same_where g (Dataflow code n xs) (take 1 ws) w ∙ open_is code n xs ws e
open_step g code n xs ws (Move to) w e = same_move g (Dataflow code n xs) to (take 1 ws) w ∙ open_is code n xs ws e
open_step g code n xs ws (Set z v) None e = puts_step g.sort code n xs z v ws None e
open_step g code n xs ws (Set z v) (Some w) e = puts_step g.sort code n xs z v ws (Some w) e
open_step g code n xs ws (PutAt z v) None e = puts_step g.sort code n xs z v ws None e
open_step g code n xs ws (PutAt z v) (Some w) e = puts_step g.sort code n xs z v ws (Some w) e
open_step g code n xs ws Get None e = open_is code n xs ws e
open_step g code n xs ws Get (Some w) e = get_step g.sort code n xs ws w e
open_step g code n xs ws _ None e = open_is code n xs ws e
open_step g code n xs ws _ (Some w) e = open_is code n xs ws e

flow_step : {V W : Type 0} (g : Setting V) (code n : ℕ) (xs : List (Given V)) (ws : List W) (r : Request V) (w : Option W) → are_inputs n xs ≡ true
    → next g (flow_at code n xs ws) (call r w) ≡ flow_at code n (keep g.sort n xs r) (joins_get r ws w)
flow_step g code n xs ws r w once = by_test (is_ready n xs ws) refl
  where
    by_test : (b : Bool) → is_ready n xs ws ≡ b → next g (flow_by code n xs ws b) (call r w) ≡ flow_at code n (keep g.sort n xs r) (joins_get r ws w)
    by_test true e = ready_step g code n xs ws r w once e
    by_test false e = open_step g code n xs ws r w e

and_false : (b : Bool) → (b && false) ≡ false
and_false true = refl
and_false false = refl

-- after calls a dataflow keeps the first values of its inputs, until it starts
pub flow_run : {V W : Type 0} (g : Setting V) (code n : ℕ) (h : List (Call V W)) → run g (Dataflow code n []) h ≡ flow_at code n (kept g.sort n h) (gets h)
flow_run g code n [] = open_is code n [] [] (and_false (0 == n))
flow_run g code n (c ∷ h) = ap (λ o. next g o c) (flow_run g code n h) ∙ flow_step g code n (kept g.sort n h) (gets h) c.request c.waiter (kept_once g.sort n h)

-- ---- what calls are told

-- a value, where what is kept and who waits are known
abbrev given_told : {V W : Type 0} → Sort V → ℕ → ℕ → List (Given V) → List W → ℤ → V → Option W → List (Told V W)
given_told k code n xs ws (negsuc m) v w = own w (k.fault 7)
given_told k code n xs ws (pos slot) v w =
    if nat_lt slot n then
    (if is_some (input_of slot xs) then own w (k.fault 6)
    else if length (keep_at k n xs (pos slot) v) == n then begun code (inputs_from k (keep_at k n xs (pos slot) v) 0 n) ws ++ own w k.nothing
    else own w k.nothing)
    else own w (k.fault 7)

free_told : {V W : Type 0} (g : Setting V) (code n : ℕ) (xs : List (Given V)) (slot : ℕ) (v : V) (o : Option V) (ws : List W) (w : Option W) → is_ready n xs ws ≡ false → input_of slot xs ≡ o
    → are_inputs n xs ≡ true → slot < n
    → tells g (puts_free g.sort (length (take 1 ws)) code n xs slot v o).effect (take 1 ws) w
    ≡ (if is_some o then own w (g.sort.fault 6)
    else if length (keep_free g.sort xs slot v o) == n then begun code (inputs_from g.sort (keep_free g.sort xs slot v o) 0 n) ws ++ own w g.sort.nothing
    else own w g.sort.nothing)
free_told g code n xs slot v (Some old) ws w e is once low = refl
free_told g code n xs slot v None ws w e is once low =
    let ys = xs ++ record { slot = slot; value = fitted g.sort xs v } ∷ [] in
    let args = inputs_from g.sort ys 0 n in
    told_either g ((length ys == n) && nat_le 1 (length (take 1 ws))) _ _ (take 1 ws) w (λ b. if b then begun code args (take 1 ws) ++ own w g.sort.nothing else own w g.sort.nothing) refl refl
    ∙ by_waiting ws (length ys == n) args
  where
    by_waiting : (ws : List _) (b : Bool) (args : List _)
        → (if b && nat_le 1 (length (take 1 ws)) then begun code args (take 1 ws) ++ own w g.sort.nothing else own w g.sort.nothing)
        ≡ (if b then begun code args ws ++ own w g.sort.nothing else own w g.sort.nothing)
    by_waiting [] true args = refl
    by_waiting [] false args = refl
    by_waiting (u ∷ ws) true args = refl
    by_waiting (u ∷ ws) false args = refl

pub puts_told : {V W : Type 0} (g : Setting V) (code n : ℕ) (xs : List (Given V)) (z : ℤ) (v : V) (ws : List W) (w : Option W) → are_inputs n xs ≡ true → is_ready n xs ws ≡ false
    → tells g (puts g.sort (length (take 1 ws)) code n xs z v).effect (take 1 ws) w ≡ given_told g.sort code n xs ws z v w
puts_told g code n xs (negsuc m) v ws w once e = refl
puts_told g code n xs (pos slot) v ws w once e = by_test (nat_lt slot n) refl
  where
    by_test : (b : Bool) → nat_lt slot n ≡ b
        → tells g (if b then puts_free g.sort (length (take 1 ws)) code n xs slot v (input_of slot xs) else refuses g.sort (Dataflow code n xs) 7).effect (take 1 ws) w
        ≡ (if b then
        (if is_some (input_of slot xs) then own w (g.sort.fault 6)
        else if length (if b then keep_free g.sort xs slot v (input_of slot xs) else xs) == n
        then begun code (inputs_from g.sort (if b then keep_free g.sort xs slot v (input_of slot xs) else xs) 0 n) ws ++ own w g.sort.nothing
        else own w g.sort.nothing)
        else own w (g.sort.fault 7))
    by_test true f = free_told g code n xs slot v (input_of slot xs) ws w e refl once (ltb-true slot n f)
    by_test false f = refl

full_some : {V : Type 0} (n : ℕ) (xs : List (Given V)) (slot : ℕ) (o : Option V) → input_of slot xs ≡ o → are_inputs n xs ≡ true → length xs ≡ n → slot < n → is_some o ≡ true
full_some n xs slot (Some v) e once full low = refl
full_some n xs slot None e once full low = let room = room_left n slot xs once low e in absurd (omega arith)

pub late_told : {V W : Type 0} (g : Setting V) (code n : ℕ) (xs : List (Given V)) (z : ℤ) (v : V) (ws : List W) (w : Option W) → are_inputs n xs ≡ true → is_ready n xs ws ≡ true
    → tells g (puts_late g.sort code n z).effect [] w ≡ given_told g.sort code n xs ws z v w
late_told g code n xs (negsuc m) v ws w once e = refl
late_told g code n xs (pos slot) v ws w once e = by_test (nat_lt slot n) refl
  where
    by_test : (b : Bool) → nat_lt slot n ≡ b
        → own w (g.sort.fault (if b then 6 else 7))
        ≡ (if b then
        (if is_some (input_of slot xs) then own w (g.sort.fault 6)
        else if length (if b then keep_free g.sort xs slot v (input_of slot xs) else xs) == n
        then begun code (inputs_from g.sort (if b then keep_free g.sort xs slot v (input_of slot xs) else xs) 0 n) ws ++ own w g.sort.nothing
        else own w g.sort.nothing)
        else own w (g.sort.fault 7))
    by_test true f =
        ap (λ (b : Bool). if b then own w (g.sort.fault 6)
        else if length (keep_free g.sort xs slot v (input_of slot xs)) == n
        then begun code (inputs_from g.sort (keep_free g.sort xs slot v (input_of slot xs)) 0 n) ws ++ own w g.sort.nothing
        else own w g.sort.nothing)
        (sym (full_some n xs slot (input_of slot xs) refl once (ready_full n xs ws e) (ltb-true slot n f)))
    by_test false f = refl

-- the object's own words, from the calls before
give_told : {V W : Type 0} (g : Setting V) (code n : ℕ) (h : List (Call V W)) (c : Call V W) (z : ℤ) (v : V) → keep g.sort n (kept g.sort n h) c.request ≡ keep_at g.sort n (kept g.sort n h) z v
    → given_told g.sort code n (kept g.sort n h) (gets h) z v c.waiter ≡ give_says g.sort code n h c z
give_told g code n h c (negsuc m) v e = refl
give_told g code n h c (pos slot) v e = by_test (nat_lt slot n) refl
  where
    by_test : (b : Bool) → nat_lt slot n ≡ b
        → (if b then
        (if is_some (input_of slot (kept g.sort n h)) then own c.waiter (g.sort.fault 6)
        else if length (keep_at g.sort n (kept g.sort n h) (pos slot) v) == n
        then begun code (inputs_from g.sort (keep_at g.sort n (kept g.sort n h) (pos slot) v) 0 n) (gets h) ++ own c.waiter g.sort.nothing
        else own c.waiter g.sort.nothing)
        else own c.waiter (g.sort.fault 7))
        ≡ (if b then
        (if is_some (value_of g.sort n h slot) then own c.waiter (g.sort.fault 6)
        else if is_full g.sort n (c ∷ h) then begun code (list_from g.sort (value_of g.sort n (c ∷ h)) 0 n) (gets h) ++ own c.waiter g.sort.nothing
        else own c.waiter g.sort.nothing)
        else own c.waiter (g.sort.fault 7))
    by_test true f =
        ap (λ o. if is_some o then own c.waiter (g.sort.fault 6)
        else if length (keep_at g.sort n (kept g.sort n h) (pos slot) v) == n
        then begun code (inputs_from g.sort (keep_at g.sort n (kept g.sort n h) (pos slot) v) 0 n) (gets h) ++ own c.waiter g.sort.nothing
        else own c.waiter g.sort.nothing)
        (sym (value_kept g.sort n h slot (ltb-true slot n f)))
        ∙ ap (λ ys. if is_some (value_of g.sort n h slot) then own c.waiter (g.sort.fault 6)
        else if length ys == n then begun code (inputs_from g.sort ys 0 n) (gets h) ++ own c.waiter g.sort.nothing
        else own c.waiter g.sort.nothing) (sym e)
        ∙ ap (λ (b : Bool). if is_some (value_of g.sort n h slot) then own c.waiter (g.sort.fault 6)
        else if b then begun code (inputs_from g.sort (kept g.sort n (c ∷ h)) 0 n) (gets h) ++ own c.waiter g.sort.nothing
        else own c.waiter g.sort.nothing) (sym (full_kept g.sort n (c ∷ h)))
        ∙ ap (λ vs. if is_some (value_of g.sort n h slot) then own c.waiter (g.sort.fault 6)
        else if is_full g.sort n (c ∷ h) then begun code vs (gets h) ++ own c.waiter g.sort.nothing
        else own c.waiter g.sort.nothing) (sym (inputs_kept g.sort n (c ∷ h)))
    by_test false f = refl

-- a call on the object, by whether it has started
flow_told : {V W : Type 0} (g : Setting V) (code n : ℕ) (xs : List (Given V)) (ws : List W) (c : Call V W) (ts : List (Told V W))
    → (is_ready n xs ws ≡ true → tells g (called_on g (object (Started code n) []) c).effect [] c.waiter ≡ ts)
    → (is_ready n xs ws ≡ false → tells g (called_on g (object (Dataflow code n xs) (take 1 ws)) c).effect (take 1 ws) c.waiter ≡ ts)
    → tells g (called_on g (flow_at code n xs ws) c).effect (flow_at code n xs ws).waiting c.waiter ≡ ts
flow_told g code n xs ws c ts p q = by_test (is_ready n xs ws) refl
  where
    by_test : (b : Bool) → is_ready n xs ws ≡ b → tells g (called_on g (flow_by code n xs ws b) c).effect (flow_by code n xs ws b).waiting c.waiter ≡ ts
    by_test true e = p e
    by_test false e = q e

pub put_tells : {V W : Type 0} (g : Setting V) (code n : ℕ) (h : List (Call V W)) (z : ℤ) (v : V) (w : Option W)
    → says g (Dataflow code n []) h (call (PutAt z v) w) ≡ give_says g.sort code n h (call (PutAt z v) w) z
put_tells g code n h z v w =
    ap (λ o. tells g (called_on g o (call (PutAt z v) w)).effect o.waiting w) (flow_run g code n h)
    ∙ flow_told g code n (kept g.sort n h) (gets h) (call (PutAt z v) w) (given_told g.sort code n (kept g.sort n h) (gets h) z v w)
    (by_waiter_late w) (by_waiter w) ∙ give_told g code n h (call (PutAt z v) w) z v refl
  where
    by_waiter_late : (w : Option _) → is_ready n (kept g.sort n h) (gets h) ≡ true
        → tells g (called_on g (object (Started code n) []) (call (PutAt z v) w)).effect [] w ≡ given_told g.sort code n (kept g.sort n h) (gets h) z v w
    by_waiter_late None e = late_told g code n (kept g.sort n h) z v (gets h) None (kept_once g.sort n h) e
    by_waiter_late (Some w) e = late_told g code n (kept g.sort n h) z v (gets h) (Some w) (kept_once g.sort n h) e

    by_waiter : (w : Option _) → is_ready n (kept g.sort n h) (gets h) ≡ false
        → tells g (called_on g (object (Dataflow code n (kept g.sort n h)) (take 1 (gets h))) (call (PutAt z v) w)).effect (take 1 (gets h)) w ≡ given_told g.sort code n (kept g.sort n h) (gets h) z v w
    by_waiter None e = puts_told g code n (kept g.sort n h) z v (gets h) None (kept_once g.sort n h) e
    by_waiter (Some w) e = puts_told g code n (kept g.sort n h) z v (gets h) (Some w) (kept_once g.sort n h) e

pub set_tells : {V W : Type 0} (g : Setting V) (code n : ℕ) (h : List (Call V W)) (z : ℤ) (v : V) (w : Option W)
    → says g (Dataflow code n []) h (call (Set z v) w) ≡ give_says g.sort code n h (call (Set z v) w) z
set_tells g code n h z v w =
    ap (λ o. tells g (called_on g o (call (Set z v) w)).effect o.waiting w) (flow_run g code n h)
    ∙ flow_told g code n (kept g.sort n h) (gets h) (call (Set z v) w) (given_told g.sort code n (kept g.sort n h) (gets h) z v w)
    (by_waiter_late w) (by_waiter w) ∙ give_told g code n h (call (Set z v) w) z v refl
  where
    by_waiter_late : (w : Option _) → is_ready n (kept g.sort n h) (gets h) ≡ true
        → tells g (called_on g (object (Started code n) []) (call (Set z v) w)).effect [] w ≡ given_told g.sort code n (kept g.sort n h) (gets h) z v w
    by_waiter_late None e = late_told g code n (kept g.sort n h) z v (gets h) None (kept_once g.sort n h) e
    by_waiter_late (Some w) e = late_told g code n (kept g.sort n h) z v (gets h) (Some w) (kept_once g.sort n h) e

    by_waiter : (w : Option _) → is_ready n (kept g.sort n h) (gets h) ≡ false
        → tells g (called_on g (object (Dataflow code n (kept g.sort n h)) (take 1 (gets h))) (call (Set z v) w)).effect (take 1 (gets h)) w ≡ given_told g.sort code n (kept g.sort n h) (gets h) z v w
    by_waiter None e = puts_told g code n (kept g.sort n h) z v (gets h) None (kept_once g.sort n h) e
    by_waiter (Some w) e = puts_told g code n (kept g.sort n h) z v (gets h) (Some w) (kept_once g.sort n h) e

-- a GET, where what is kept and who waits are known
abbrev asked_told : {V W : Type 0} → Sort V → ℕ → ℕ → List (Given V) → List W → W → List (Told V W)
asked_told k code n xs ws w =
    if nat_le 1 (length ws) then own (Some w) (k.fault 9)
    else if length xs == n then begun code (inputs_from k xs 0 n) (alone (Some w))
    else []

starts_told : {V W : Type 0} (g : Setting V) (code n : ℕ) (xs : List (Given V)) (ws : List W) (w : W)
    → tells g (starts g.sort (length (take 1 ws)) code n xs).effect (take 1 ws) (Some w) ≡ asked_told g.sort code n xs ws w
starts_told g code n xs [] w = told_either g (length xs == n) _ _ [] (Some w) (λ b. if b then begun code (inputs_from g.sort xs 0 n) (alone (Some w)) else []) refl refl
starts_told g code n xs (u ∷ ws) w =
    ap (λ (b : Bool). if b then own (Some w) (g.sort.fault 9) else if length xs == n then begun code (inputs_from g.sort xs 0 n) (alone (Some w)) else []) (sym (le-leb 1 (length (u ∷ ws)) (omega arith)))

late_asked : {V W : Type 0} (g : Setting V) (code n : ℕ) (xs : List (Given V)) (ws : List W) (w : W) → is_ready n xs ws ≡ true → own (Some w) (g.sort.fault 9) ≡ asked_told g.sort code n xs ws w
late_asked g code n xs ws w e =
    ap (λ (b : Bool). if b then own (Some w) (g.sort.fault 9) else if length xs == n then begun code (inputs_from g.sort xs 0 n) (alone (Some w)) else [])
    (sym (and_parts (length xs == n) (nat_le 1 (length ws)) e).1)

pub get_tells : {V W : Type 0} (g : Setting V) (code n : ℕ) (h : List (Call V W)) (w : W) → says g (Dataflow code n []) h (call Get (Some w)) ≡ ask_says g.sort code n h w
get_tells g code n h w =
    ap (λ o. tells g (called_on g o (call Get (Some w))).effect o.waiting (Some w)) (flow_run g code n h)
    ∙ flow_told g code n (kept g.sort n h) (gets h) (call Get (Some w)) (asked_told g.sort code n (kept g.sort n h) (gets h) w)
    (λ e. late_asked g code n (kept g.sort n h) (gets h) w e) (λ e. starts_told g code n (kept g.sort n h) (gets h) w)
    ∙ ap (λ (b : Bool). if has_get h then own (Some w) (g.sort.fault 9) else if b then begun code (inputs_from g.sort (kept g.sort n h) 0 n) (alone (Some w)) else []) (sym (full_kept g.sort n h))
    ∙ ap (λ vs. if has_get h then own (Some w) (g.sort.fault 9) else if is_full g.sort n h then begun code vs (alone (Some w)) else []) (sym (inputs_kept g.sort n h))

-- ---- how often it starts

abbrev started : {V : Type 0} → Content V → ℕ
started (Started code n) = 1
started _ = 0

own_none : {V W : Type 0} (w : Option W) (v : V) → told_starts (own w v) ≡ 0
own_none None v = refl
own_none (Some w) v = refl

starts-append : {V W : Type 0} (xs ys : List (Told V W)) → told_starts (xs ++ ys) ≡ told_starts xs + told_starts ys
starts-append [] ys = omega arith
starts-append (x ∷ xs) ys = let rest = starts-append xs ys in omega arith

-- what a call starts is what it leaves started
abbrev IsCounted : {V W : Type 0} → Setting V → List W → Option W → Called V → Type 0
IsCounted g ws w c = told_starts (tells g c.effect ws w) ≡ started c.content

counted_if : {V W : Type 0} (g : Setting V) (ws : List W) (w : Option W) (b : Bool) (x y : Called V) → (b ≡ true → IsCounted g ws w x) → (b ≡ false → IsCounted g ws w y) → IsCounted g ws w (if b then x else y)
counted_if g ws w true x y p q = p refl
counted_if g ws w false x y p q = q refl

hands_counted : {V W : Type 0} (code : ℕ) (args : List V) (ws : List W) (w : Option W) (v : V) → 1 ≤ length ws → told_starts (begun code args ws ++ own w v) ≡ 1
hands_counted code args [] w v some = absurd (omega arith)
hands_counted code args (u ∷ ws) w v some = let none = own_none w v in omega arith

gives_counted : {V W : Type 0} (g : Setting V) (code n : ℕ) (ys : List (Given V)) (ws : List W) (w : Option W) → IsCounted g ws w (gives g.sort (length ws) code n ys)
gives_counted g code n ys ws w =
    counted_if g ws w ((length ys == n) && nat_le 1 (length ws)) _ _
    (λ e. hands_counted code (inputs_from g.sort ys 0 n) ws w g.sort.nothing (leb-true 1 (length ws) (and_parts (length ys == n) (nat_le 1 (length ws)) e).1)) (λ e. own_none w g.sort.nothing)

free_counted : {V W : Type 0} (g : Setting V) (code n : ℕ) (xs : List (Given V)) (slot : ℕ) (v : V) (o : Option V) (ws : List W) (w : Option W) → IsCounted g ws w (puts_free g.sort (length ws) code n xs slot v o)
free_counted g code n xs slot v None ws w = gives_counted g code n (xs ++ record { slot = slot; value = fitted g.sort xs v } ∷ []) ws w
free_counted g code n xs slot v (Some old) ws w = own_none w (g.sort.fault 6)

puts_counted : {V W : Type 0} (g : Setting V) (code n : ℕ) (xs : List (Given V)) (z : ℤ) (v : V) (ws : List W) (w : Option W) → IsCounted g ws w (puts g.sort (length ws) code n xs z v)
puts_counted g code n xs (negsuc m) v ws w = own_none w (g.sort.fault 7)
puts_counted g code n xs (pos slot) v ws w =
    counted_if g ws w (nat_lt slot n) _ _ (λ e. free_counted g code n xs slot v (input_of slot xs) ws w) (λ e. own_none w (g.sort.fault 7))

asked_counted : {V W : Type 0} (g : Setting V) (code n : ℕ) (xs : List (Given V)) (ws : List W) (w : W) → IsCounted g ws (Some w) (starts g.sort (length ws) code n xs)
asked_counted g code n xs ws w =
    counted_if g ws (Some w) (nat_le 1 (length ws)) _ _ (λ e. refl) (λ e. counted_if g ws (Some w) (length xs == n) _ _ (λ f. refl) (λ f. refl))

place_counted : {V W : Type 0} (g : Setting V) (code n : ℕ) (xs : List (Given V)) (ws : List W) (w : Option W) (r : Request V) → IsCounted g ws w (called_on g (object (Dataflow code n xs) ws) (call r w))
place_counted g code n xs ws None Where = counted_if g ws None (nat_le 16 g.kind) _ _ (λ e. refl) (λ e. refl)
place_counted g code n xs ws (Some w) Where = counted_if g ws (Some w) (nat_le 16 g.kind) _ _ (λ e. refl) (λ e. refl)
place_counted g code n xs ws None (Move to) = counted_if g ws None (is_movable g.kind) _ _ (λ e. refl) (λ e. refl)
place_counted g code n xs ws (Some w) (Move to) = counted_if g ws (Some w) (is_movable g.kind) _ _ (λ e. refl) (λ e. refl)
place_counted g code n xs ws None (Set z v) = puts_counted g code n xs z v ws None
place_counted g code n xs ws (Some w) (Set z v) = puts_counted g code n xs z v ws (Some w)
place_counted g code n xs ws None (PutAt z v) = puts_counted g code n xs z v ws None
place_counted g code n xs ws (Some w) (PutAt z v) = puts_counted g code n xs z v ws (Some w)
place_counted g code n xs ws None Get = refl
place_counted g code n xs ws (Some w) Get = asked_counted g code n xs ws w
place_counted g code n xs ws None _ = refl
place_counted g code n xs ws (Some w) _ = refl

-- one that has started starts no more
abbrev IsOver : {V W : Type 0} → Setting V → List W → Option W → Called V → Type 0
IsOver g ws w c = (told_starts (tells g c.effect ws w) ≡ 0) × (started c.content ≡ 1)

over_if : {V W : Type 0} (g : Setting V) (ws : List W) (w : Option W) (b : Bool) (x y : Called V) → IsOver g ws w x → IsOver g ws w y → IsOver g ws w (if b then x else y)
over_if g ws w true x y p q = p
over_if g ws w false x y p q = q

late_over : {V W : Type 0} (g : Setting V) (code n : ℕ) (z : ℤ) (ws : List W) (w : Option W) → IsOver g ws w (puts_late g.sort code n z)
late_over g code n (negsuc m) ws w = (own_none w (g.sort.fault 7), refl)
late_over g code n (pos slot) ws w = (own_none w (g.sort.fault (if nat_lt slot n then 6 else 7)), refl)

place_over : {V W : Type 0} (g : Setting V) (code n : ℕ) (ws : List W) (w : Option W) (r : Request V) → IsOver g ws w (called_on g (object (Started code n) ws) (call r w))
place_over g code n ws None Where = over_if g ws None (nat_le 16 g.kind) _ _ (refl, refl) (refl, refl)
place_over g code n ws (Some w) Where = over_if g ws (Some w) (nat_le 16 g.kind) _ _ (refl, refl) (refl, refl)
place_over g code n ws None (Move to) = over_if g ws None (is_movable g.kind) _ _ (refl, refl) (refl, refl)
place_over g code n ws (Some w) (Move to) = over_if g ws (Some w) (is_movable g.kind) _ _ (refl, refl) (refl, refl)
place_over g code n ws None (Set z v) = late_over g code n z ws None
place_over g code n ws (Some w) (Set z v) = late_over g code n z ws (Some w)
place_over g code n ws None (PutAt z v) = late_over g code n z ws None
place_over g code n ws (Some w) (PutAt z v) = late_over g code n z ws (Some w)
place_over g code n ws None _ = (refl, refl)
place_over g code n ws (Some w) _ = (refl, refl)

flow_counted : {V W : Type 0} (g : Setting V) (code n : ℕ) (xs : List (Given V)) (ws : List W) (b : Bool) (r : Request V) (w : Option W)
    → started (flow_by code n xs ws b).content + told_starts (tells g (called_on g (flow_by code n xs ws b) (call r w)).effect (flow_by code n xs ws b).waiting w)
    ≡ started (called_on g (flow_by code n xs ws b) (call r w)).content
flow_counted g code n xs ws true r w = let over = place_over g code n [] w r in let none = over.0 in let one = over.1 in omega arith
flow_counted g code n xs ws false r w = let is = place_counted g code n xs (take 1 ws) w r in omega arith

story_counted : {V W : Type 0} (g : Setting V) (code n : ℕ) (h : List (Call V W)) → told_starts (story g (Dataflow code n []) h) ≡ started (run g (Dataflow code n []) h).content
story_counted g code n [] = refl
story_counted g code n (c ∷ h) =
    let x = Dataflow code n [] in
    let rest = story_counted g code n h in
    let both = starts-append (story g x h) (says g x h c) in
    let P : Object _ _ → Type 0 = λ o. started o.content + told_starts (tells g (called_on g o c).effect o.waiting c.waiter) ≡ started (called_on g o c).content in
    let step : P (run g x h) = subst P (sym (flow_run g code n h)) (flow_counted g code n (kept g.sort n h) (gets h) (is_ready n (kept g.sort n h) (gets h)) c.request c.waiter) in
    omega arith

-- it starts once, where all inputs have values and there was a GET
pub starts_once : {V W : Type 0} (g : Setting V) (code n : ℕ) (h : List (Call V W)) → told_starts (story g (Dataflow code n []) h) ≡ (if is_full g.sort n h && has_get h then 1 else 0)
starts_once g code n h =
    story_counted g code n h ∙ ap (λ o. started o.content) (flow_run g code n h) ∙ by_test (is_ready n (kept g.sort n h) (gets h))
    ∙ ap (λ (b : Bool). if b && has_get h then 1 else 0) (sym (full_kept g.sort n h))
  where
    by_test : (b : Bool) → started (flow_by code n (kept g.sort n h) (gets h) b).content ≡ (if b then 1 else 0)
    by_test true = refl
    by_test false = refl

-- ---- every call

-- what a dataflow lists
abbrev is_flow : {V : Type 0} → Request V → Bool
is_flow (Set z v) = true
is_flow (PutAt z v) = true
is_flow Get = true
is_flow Where = true
is_flow _ = false

pub dataflow_tells : {V W : Type 0} (g : Setting V) (code n : ℕ) (h : List (Call V W)) (r : Request V) (w : Option W) → 32 ≤ g.kind
    → says g (Dataflow code n []) h (call r w) ≡ dataflow_says g code n h r w
dataflow_tells {V} {W} g code n h r w high = ap (λ o. told_on g o (call r w)) (flow_run g code n h) ∙ by_request r w
  where
    xs : List (Given V)
    xs = kept g.sort n h

    back : (c : Call V W) → told_on g (flow_at code n xs (gets h)) c ≡ says g (Dataflow code n []) h c
    back c = sym (ap (λ o. told_on g o c) (flow_run g code n h))

    rest : (b : Bool) (r : Request V) (w : Option W) → is_flow r ≡ false → told_on g (flow_by code n xs (gets h) b) (call r w) ≡ wrong_says g w
    rest true (Set z v) w e = absurd (cc)
    rest false (Set z v) w e = absurd (cc)
    rest true (PutAt z v) w e = absurd (cc)
    rest false (PutAt z v) w e = absurd (cc)
    rest true Get w e = absurd (cc)
    rest false Get w e = absurd (cc)
    rest true Where w e = absurd (cc)
    rest false Where w e = absurd (cc)
    rest true (Move to) w e = move_told g (Started code n) to [] w (fixed_high g.kind high)
    rest false (Move to) w e = move_told g (Dataflow code n xs) to (take 1 (gets h)) w (fixed_high g.kind high)
    rest true _ None e = refl
    rest true _ (Some w) e = refl
    rest false _ None e = refl
    rest false _ (Some w) e = refl

    place : (b : Bool) (w : Option W) → told_on g (flow_by code n xs (gets h) b) (call Where w) ≡ place_says g w
    place true w = where_told g (Started code n) [] w true (managed_high g.kind high)
    place false w = where_told g (Dataflow code n xs) (take 1 (gets h)) w true (managed_high g.kind high)

    by_request : (r : Request V) (w : Option W) → told_on g (flow_at code n xs (gets h)) (call r w) ≡ dataflow_says g code n h r w
    by_request (Set z v) w = back (call (Set z v) w) ∙ set_tells g code n h z v w
    by_request (PutAt z v) w = back (call (PutAt z v) w) ∙ put_tells g code n h z v w
    by_request Get None = refl
    by_request Get (Some w) = back (call Get (Some w)) ∙ get_tells g code n h w
    by_request Where w = place (is_ready n xs (gets h)) w
    by_request r w = rest (is_ready n xs (gets h)) r w refl
