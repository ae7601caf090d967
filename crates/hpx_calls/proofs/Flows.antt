-- Actions on dataflows keep the laws.
use Rattle.std.specs.Prelude.{ℕ, zero, suc, ℤ, pos, negsuc, Bool, true, false, nat_le, nat_lt, List, [], ◌∷◌, ◌++◌, ◌+◌, ◌-◌, ◌*◌, ◌<◌, ◌≤◌, ◌≡◌, ◌==◌, ◌&&◌, Option, Some, None, length, refl, if◌then◌else◌}
use Rattle.std.proofs.Common.{ap, sym, ◌∙◌, subst, arith, lit≤, length-append}
use Rattle.std.specs.List.{AllByRecursion, count_by}
use Rattle.std.proofs.lemmas.Bool.{cond_both, eqb-true, ne_eqb, leb-true, ltb-true, and_parts}
use Rattle.std.proofs.lemmas.List.{append-nil}
use Rattle.std.proofs.lemmas.List.Sums.{count_by-le-length}
use Rattle.hpx_value.specs.Values.{refs_in}
use Rattle.hpx_value.specs.declared.value.Value.{Value as Spelled}
use Rattle.hpx_value.specs.declared.value.Value.TheVariants.{Unit as SpelledUnit, Flag as SpelledFlag, Int as SpelledInt, Text as SpelledText, Ref as SpelledRef, Fault as SpelledFault, Ints as SpelledInts}
use Rattle.hpx_value.specs.declared.value.Cont.{Cont}
use Rattle.hpx_value.specs.declared.value.State.{State}
use Rattle.hpx_value.specs.declared.value.Act.{Act}
use Rattle.hpx_value.specs.declared.outcome.Reply.{Reply}
use Rattle.hpx_value.specs.Shapes.{IsValue, AreValues, IsState, values_size, value_size}
use Rattle.hpx_value.specs.Laws.{answered, handed_on, KeepsLaws}
use Rattle.hpx_value.proofs.Uses.{count-cons}
use Rattle.hpx_value.proofs.Kept as HandLemmas
use Rattle.hpx_calls.specs.Values.{spelled, size}
use Rattle.hpx_calls.specs.Requests.{Request, Set, PutAt, Get}
use Rattle.hpx_calls.specs.Contents.{Given, Dataflow, Started, layout, given_out, given_size, input_of}
use Rattle.hpx_calls.specs.Tables.{fitted, or_nothing, inputs_from, gives, puts_free, puts, starts, on_dataflow, puts_late, on_started, awaits, refuses}
use Rattle.hpx_calls.specs.Outcomes.{numbers, cont_count, own_reply, outcome, has_cont}
use Rattle.hpx_calls.proofs.Keeps.{SameCounts, all_of, answers_all, waits_all, ArePlain, once_counted, length-numbers, all_append}
use Rattle.hpx_calls.proofs.Slots.{room_left}
use Rattle.hpx_calls.proofs.Shown.{IsSent, IsFlow}
use Rattle.hpx_calls.proofs.Asked.{IsPlaced, IsFair}
use Rattle.hpx_calls.proofs.Controls.{IsCall, IsGood, good_if, refused_good, own_plain}
use Rattle.hpx_calls.proofs.Full.{Start, AreArgs, sends_of, sent_refs, told_refs, full_keeps}
use Rattle.hpx_calls.proofs.Named.{refs_front, count_front, one_ref}

-- ---- what is kept for inputs, weighed

-- the weight of values, and of those that are kept
abbrev weigh : (Spelled → ℕ) → List Spelled → ℕ
weigh f [] = 0
weigh f (v ∷ vs) = f v + weigh f vs

abbrev weigh_given : (Spelled → ℕ) → List (Given Spelled) → ℕ
weigh_given f [] = 0
weigh_given f (x ∷ xs) = f x.value + weigh_given f xs

-- an input that came before is not one of those from here on
gone : (f : Spelled → ℕ) (x : Given Spelled) (xs : List (Given Spelled)) (slot n : ℕ) → x.slot < slot
    → weigh f (inputs_from spelled (x ∷ xs) slot n) ≡ weigh f (inputs_from spelled xs slot n)
gone f x xs slot zero low = refl
gone f x xs slot (suc n) low =
    let rest = gone f x xs (slot + 1) n (omega arith) in
    let P : Bool → Type 0 = λ b. f (or_nothing spelled (if b then Some x.value else input_of slot xs)) + weigh f (inputs_from spelled (x ∷ xs) (slot + 1) n)
    ≡ f (or_nothing spelled (input_of slot xs)) + weigh f (inputs_from spelled xs (slot + 1) n) in
    subst P (sym (ne_eqb x.slot slot (λ e. omega arith))) (ap (λ m. f (or_nothing spelled (input_of slot xs)) + m) rest)

one_more : (f : Spelled → ℕ) (x : Given Spelled) (xs : List (Given Spelled)) (slot n : ℕ)
    → weigh f (inputs_from spelled (x ∷ xs) slot n) ≤ f x.value + weigh f (inputs_from spelled xs slot n)
one_more f x xs slot zero = omega arith
one_more f x xs slot (suc n) =
    cond_both (x.slot == slot) _ _
    (λ o. f (or_nothing spelled o) + weigh f (inputs_from spelled (x ∷ xs) (slot + 1) n) ≤ f x.value + (f (or_nothing spelled (input_of slot xs)) + weigh f (inputs_from spelled xs (slot + 1) n)))
    (λ e. let same = eqb-true x.slot slot e in let rest = gone f x xs (slot + 1) n (omega arith) in omega arith)
    (λ e. let rest = one_more f x xs (slot + 1) n in omega arith)

none_given : (f : Spelled → ℕ) (slot n : ℕ) → weigh f (inputs_from spelled [] slot n) ≡ n * f SpelledUnit
none_given f slot zero = omega arith
none_given f slot (suc n) = let rest = none_given f (slot + 1) n in let step : suc n * f SpelledUnit ≡ f SpelledUnit + n * f SpelledUnit = omega arith in omega arith

-- the inputs weigh no more than what is kept, and as many units
all_inputs : (f : Spelled → ℕ) (xs : List (Given Spelled)) (slot n : ℕ) → weigh f (inputs_from spelled xs slot n) ≤ weigh_given f xs + n * f SpelledUnit
all_inputs f [] slot n = let none = none_given f slot n in omega arith
all_inputs f (x ∷ xs) slot n = let rest = all_inputs f xs slot n in let one = one_more f x xs slot n in omega arith

length_inputs : (xs : List (Given Spelled)) (slot n : ℕ) → length (inputs_from spelled xs slot n) ≡ n
length_inputs xs slot zero = refl
length_inputs xs slot (suc n) = ap suc (length_inputs xs (slot + 1) n)

input_is : (P : Spelled → Type 0) (slot : ℕ) (xs : List (Given Spelled)) → P SpelledUnit → AllByRecursion (λ x. P x.value) xs → P (or_nothing spelled (input_of slot xs))
input_is P slot [] p h = p
input_is P slot (x ∷ xs) p h = cond_both (x.slot == slot) _ _ (λ o. P (or_nothing spelled o)) (λ e. h.0) (λ e. input_is P slot xs p h.1)

inputs_are : (P : Spelled → Type 0) (xs : List (Given Spelled)) (slot n : ℕ) → P SpelledUnit → AllByRecursion (λ x. P x.value) xs → AllByRecursion P (inputs_from spelled xs slot n)
inputs_are P xs slot zero p h = tt
inputs_are P xs slot (suc n) p h = (input_is P slot xs p h, inputs_are P xs (slot + 1) n p h)

-- ---- weights that are needed

-- how many of the Refs pass a test
abbrev refs_by : (ℕ → Bool) → Spelled → ℕ
refs_by q v = count_by q (refs_in (v ∷ []))

weigh_refs : (q : ℕ → Bool) (vs : List Spelled) → count_by q (refs_in vs) ≡ weigh (refs_by q) vs
weigh_refs q [] = refl
weigh_refs q (v ∷ vs) = let rest = weigh_refs q vs in let front = count_front q v vs in omega arith

weigh_size : (vs : List Spelled) → values_size vs ≡ weigh value_size vs
weigh_size [] = refl
weigh_size (v ∷ vs) = ap (λ m. value_size v + m) (weigh_size vs)

given_refs : (q : ℕ → Bool) (xs : List (Given Spelled)) → count_by q (refs_in (given_out spelled xs)) ≡ weigh_given (refs_by q) xs
given_refs q [] = refl
given_refs q (x ∷ xs) = let rest = given_refs q xs in let front = count_front q x.value (given_out spelled xs) in omega arith

given_bytes : (xs : List (Given Spelled)) → values_size (given_out spelled xs) ≡ 9 * length xs + weigh_given value_size xs
given_bytes [] = refl
given_bytes (x ∷ xs) = let rest = given_bytes xs in omega arith

size_is : (v : Spelled) → size (spelled.look v) ≡ value_size v
size_is SpelledUnit = refl
size_is (SpelledFlag b) = refl
size_is (SpelledInt z) = refl
size_is (SpelledText t) = refl
size_is (SpelledRef p) = refl
size_is (SpelledFault c) = refl
size_is (SpelledInts zs) = refl

kept_size : (xs : List (Given Spelled)) → given_size spelled xs ≡ weigh_given value_size xs
kept_size [] = refl
kept_size (x ∷ xs) = let rest = kept_size xs in let this = size_is x.value in omega arith

length_given : (xs : List (Given Spelled)) → length (given_out spelled xs) ≡ 2 * length xs
length_given [] = refl
length_given (x ∷ xs) = let rest = length_given xs in omega arith

weigh_more : (f : Spelled → ℕ) (xs : List (Given Spelled)) (x : Given Spelled) → weigh_given f (xs ++ x ∷ []) ≡ weigh_given f xs + f x.value
weigh_more f [] x = omega arith
weigh_more f (y ∷ xs) x = let rest = weigh_more f xs x in omega arith

few_refs : (q : ℕ → Bool) (xs : List (Given Spelled)) → weigh_given (refs_by q) xs ≤ length xs
few_refs q [] = lit≤ tt
few_refs q (x ∷ xs) =
    let rest = few_refs q xs in
    let one = count_by-le-length q (refs_in (x.value ∷ [])) in
    let most = one_ref x.value in
    omega arith

count_every : (ps : List ℕ) → count_by (λ p. true) ps ≡ length ps
count_every [] = refl
count_every (p ∷ ps) = let rest = count_every ps in let step = count-cons (λ p. true) p ps in omega arith

-- ---- what is kept, within the hand

-- a value within its limits, and its Ref below a bound
abbrev IsKept : ℕ → Spelled → Type 0
IsKept limit v = IsValue v × AllByRecursion (λ p. p < limit) (refs_in (v ∷ []))

abbrev AreKept : ℕ → List (Given Spelled) → Type 0
AreKept limit xs = AllByRecursion (λ x. IsKept limit x.value) xs

split_low : (limit : ℕ) (v : Spelled) (vs : List Spelled) → AllByRecursion (λ p. p < limit) (refs_in (v ∷ vs)) → AllByRecursion (λ p. p < limit) (refs_in (v ∷ [])) × AllByRecursion (λ p. p < limit) (refs_in vs)
split_low limit SpelledUnit vs h = (tt, h)
split_low limit (SpelledFlag b) vs h = (tt, h)
split_low limit (SpelledInt z) vs h = (tt, h)
split_low limit (SpelledText t) vs h = (tt, h)
split_low limit (SpelledRef p) vs h = ((h.0, tt), h.1)
split_low limit (SpelledFault c) vs h = (tt, h)
split_low limit (SpelledInts zs) vs h = (tt, h)

join_low : (limit : ℕ) (vs : List Spelled) → AllByRecursion (IsKept limit) vs → AllByRecursion (λ p. p < limit) (refs_in vs)
join_low limit [] h = tt
join_low limit (v ∷ vs) h =
    let P : List ℕ → Type 0 = AllByRecursion (λ p. p < limit) in
    subst P (sym (refs_front v vs)) (all_append (λ p. p < limit) (refs_in (v ∷ [])) (refs_in vs) h.0.1 (join_low limit vs h.1))

are_kept : (limit : ℕ) (xs : List (Given Spelled)) → AllByRecursion IsValue (given_out spelled xs) → AllByRecursion (λ p. p < limit) (refs_in (given_out spelled xs)) → AreKept limit xs
are_kept limit [] h low = tt
are_kept limit (x ∷ xs) h low = let parts = split_low limit x.value (given_out spelled xs) low in ((h.1.0, parts.0), are_kept limit xs h.1.1 parts.1)

kept_values : (limit : ℕ) (xs : List (Given Spelled)) → AreKept limit xs → AllByRecursion (IsKept limit) (given_out spelled xs)
kept_values limit [] h = tt
kept_values limit (x ∷ xs) h = ((tt, tt), (h.0, kept_values limit xs h.1))

values_of : (limit : ℕ) (vs : List Spelled) → AllByRecursion (IsKept limit) vs → AllByRecursion IsValue vs
values_of limit [] h = tt
values_of limit (v ∷ vs) h = (h.0.0, values_of limit vs h.1)

one_kept : (limit : ℕ) (xs : List (Given Spelled)) (x : Given Spelled) → AreKept limit xs → IsKept limit x.value → AreKept limit (xs ++ x ∷ [])
one_kept limit [] x h k = (k, tt)
one_kept limit (y ∷ xs) x h k = (h.0, one_kept limit xs x h.1 k)

kept_above : (m limit : ℕ) (xs : List (Given Spelled)) → m ≤ limit → AreKept m xs → AreKept limit xs
kept_above m limit [] low h = tt
kept_above m limit (x ∷ xs) low h = ((h.0.0, above (refs_in (x.value ∷ [])) h.0.1), kept_above m limit xs low h.1)
  where
    above : (ps : List ℕ) → AllByRecursion (λ p. p < m) ps → AllByRecursion (λ p. p < limit) ps
    above [] h = tt
    above (p ∷ ps) h = let this = h.0 in (omega arith, above ps h.1)

placed_kept : (m limit : ℕ) (v : Spelled) → IsPlaced m limit v → IsKept limit v
placed_kept m limit (SpelledRef q) h = (tt, (h.1, tt))
placed_kept m limit SpelledUnit h = (tt, tt)
placed_kept m limit (SpelledFlag b) h = (tt, tt)
placed_kept m limit (SpelledInt z) h = (tt, tt)
placed_kept m limit (SpelledText t) h = (h, tt)
placed_kept m limit (SpelledFault c) h = (h, tt)
placed_kept m limit (SpelledInts zs) h = (h, tt)

-- what is kept, on its way into an outcome
pub record IsStore (limit : ℕ) (xs : List (Given Spelled)) : Type 0 where
  pub each : AreKept limit xs
  pub few : length xs ≤ 16
  pub twice : (place : ℕ) → weigh_given (refs_by (λ p. p == place)) xs ≤ 2
  pub short : weigh_given value_size xs ≤ 64032

-- the values of the inputs fit into an action
store_args : (limit : ℕ) (xs : List (Given Spelled)) (n : ℕ) → IsStore limit xs → n ≤ 16 → AreArgs (inputs_from spelled xs 0 n)
store_args limit xs n h most =
    let long = length_inputs xs 0 n in
    let every = count_every (refs_in (inputs_from spelled xs 0 n)) in
    let refs = weigh_refs (λ p. true) (inputs_from spelled xs 0 n) in
    let all = all_inputs (refs_by (λ p. true)) xs 0 n in
    let none : n * refs_by (λ p. true) SpelledUnit ≡ n * 0 = refl in
    let some = few_refs (λ p. true) xs in
    let few = h.few in
    let size = weigh_size (inputs_from spelled xs 0 n) in
    let bytes = all_inputs value_size xs 0 n in
    let short = h.short in
    record {
      values = record { few = omega arith; each = values_of limit _ (inputs_are (IsKept limit) xs 0 n (tt, tt) h.each) };
      refs = omega arith;
      short = omega arith;
    }

twice_args : (limit : ℕ) (xs : List (Given Spelled)) (n place : ℕ) → IsStore limit xs → count_by (λ p. p == place) (refs_in (inputs_from spelled xs 0 n)) ≤ 2
twice_args limit xs n place h =
    let refs = weigh_refs (λ p. p == place) (inputs_from spelled xs 0 n) in
    let all = all_inputs (refs_by (λ p. p == place)) xs 0 n in
    let none : n * refs_by (λ p. p == place) SpelledUnit ≡ n * 0 = refl in
    let twice = h.twice place in
    omega arith

few_args : (limit : ℕ) (xs : List (Given Spelled)) (n : ℕ) → IsStore limit xs → length (refs_in (inputs_from spelled xs 0 n)) ≤ 16
few_args limit xs n h =
    let every = count_every (refs_in (inputs_from spelled xs 0 n)) in
    let refs = weigh_refs (λ p. true) (inputs_from spelled xs 0 n) in
    let all = all_inputs (refs_by (λ p. true)) xs 0 n in
    let none : n * refs_by (λ p. true) SpelledUnit ≡ n * 0 = refl in
    let some = few_refs (λ p. true) xs in
    let few = h.few in
    omega arith

-- ---- outcomes

-- values of a dataflow's state
pub record AreFlowValues (limit : ℕ) (vs : List Spelled) : Type 0 where
  pub low : AllByRecursion (λ p. p < limit) (refs_in vs)
  pub twice : (place : ℕ) → count_by (λ p. p == place) (refs_in vs) ≤ 2
  pub values : AreValues vs
  pub few : length (refs_in vs) ≤ 16
  pub short : values_size vs ≤ 64300

store_layout : (limit code inputs : ℕ) (xs : List (Given Spelled)) → IsStore limit xs → AreFlowValues limit (layout spelled (Dataflow code inputs xs))
store_layout limit code inputs xs h =
    let every = count_every (refs_in (given_out spelled xs)) in
    let refs = given_refs (λ p. true) xs in
    let some = few_refs (λ p. true) xs in
    let few = h.few in
    let long = length_given xs in
    let bytes = given_bytes xs in
    let short = h.short in
    record {
      low = join_low limit (given_out spelled xs) (kept_values limit xs h.each);
      twice = λ place. let is = given_refs (λ p. p == place) xs in let twice = h.twice place in omega arith;
      values = record { few = omega arith; each = (tt, (tt, values_of limit _ (kept_values limit xs h.each))) };
      few = omega arith;
      short = omega arith;
    }

started_layout : (limit code inputs : ℕ) → AreFlowValues limit (SpelledInt (pos code) ∷ SpelledInt (pos inputs) ∷ SpelledUnit ∷ [])
started_layout limit code inputs =
    record { low = tt; twice = λ place. lit≤ tt; values = record { few = lit≤ tt; each = (tt, (tt, (tt, tt))) }; few = lit≤ tt; short = lit≤ tt }

-- what starts, if anything does
pub record AreStarts (limit : ℕ) (xs : List Start) : Type 0 where
  pub low : AllByRecursion (λ p. p < limit) (sent_refs xs)
  pub twice : (place : ℕ) → count_by (λ p. p == place) (sent_refs xs) ≤ 2
  pub few : length (sent_refs xs) ≤ 16
  pub one : length xs ≤ 1
  pub args : AllByRecursion (λ x. AreArgs x.args) xs
  pub codes : AllByRecursion (λ x. IsSent x.code) xs

nothing_starts : (limit : ℕ) → AreStarts limit []
nothing_starts limit = record { low = tt; twice = λ place. lit≤ tt; few = lit≤ tt; one = lit≤ tt; args = tt; codes = tt }

one_starts : (limit code inputs cont : ℕ) (xs : List (Given Spelled)) → IsStore limit xs → inputs ≤ 16 → IsSent code
    → AreStarts limit (record { code = code; args = inputs_from spelled xs 0 inputs; cont = cont } ∷ [])
one_starts limit code inputs cont xs h most sent =
    let args = inputs_from spelled xs 0 inputs in
    let none = append-nil (refs_in args) in
    let P : List ℕ → Type 0 = AllByRecursion (λ p. p < limit) in
    record {
      low = subst P (sym none) (join_low limit args (inputs_are (IsKept limit) xs 0 inputs (tt, tt) h.each));
      twice = λ place. let Q : List ℕ → Type 0 = λ ps. count_by (λ p. p == place) ps ≤ 2 in subst Q (sym none) (twice_args limit xs inputs place h);
      few = let Q : List ℕ → Type 0 = λ ps. length ps ≤ 16 in subst Q (sym none) (few_args limit xs inputs h);
      one = lit≤ tt;
      args = (store_args limit xs inputs h most, tt);
      codes = (sent, tt);
    }

plain_refs : (rs : List Reply) → ArePlain rs → told_refs rs ≡ []
plain_refs [] h = refl
plain_refs (x ∷ rs) h = ap (λ ps. ps ++ told_refs rs) h.1 ∙ plain_refs rs h.2

plain_values : (rs : List Reply) → ArePlain rs → AllByRecursion (λ r. IsValue r.value) rs
plain_values [] h = tt
plain_values (x ∷ rs) h = (h.0, plain_values rs h.2)

flow_keeps : (n kind here : ℕ) (s : State) (a : Act) (vs : List Spelled) (conts : List ℕ) (xs : List Start) (rs : List Reply) → here < n → IsCall kind s a → length s.conts ≤ 1
    → SameCounts (conts ++ (handed_on (sends_of here xs) ++ answered rs)) (all_of s a) → AreFlowValues (length s.ids + length a.ids) vs → length conts ≤ 2
    → AreStarts (length s.ids + length a.ids) xs → ArePlain rs → KeepsLaws n kind here s a (outcome s vs conts [] (sends_of here xs) rs)
flow_keeps n kind here s a vs conts xs rs low h waiting all values few starts plain =
    let limit : length s.ids + length a.ids ≡ length s.ids + length a.ids + 0 = omega arith in
    let P : ℕ → Type 0 = λ m. AllByRecursion (λ p. p < m) (refs_in vs) in
    let Q : ℕ → Type 0 = λ m. AllByRecursion (λ p. p < m) (sent_refs xs) in
    let R : List ℕ → Type 0 = AllByRecursion (λ p. p < length s.ids + length a.ids + 0) in
    let told = plain_refs rs plain in
    let refs = values.few in
    let short = values.short in
    let none : length (told_refs rs) ≡ 0 = ap length told in
    full_keeps n kind here s a vs conts [] xs rs low h (omega arith) all
    (record {
      low = subst P limit values.low;
      sent_low = subst Q limit starts.low;
      told_low = subst R (sym told) tt;
      twice = values.twice;
      sent_twice = starts.twice;
      told_once = omega arith;
      values = values.values;
      few = omega arith;
      sent_few = starts.few;
      starts = starts.one;
      args = starts.args;
      replies = plain_values rs plain;
    })
    (omega arith) (omega arith) (lit≤ tt) tt starts.codes

-- ---- calls

-- a dataflow that a state shows
pub record IsFlowHere (s : State) (a : Act) (code inputs : ℕ) (xs : List (Given Spelled)) : Type 0 where
  pub shown : layout spelled (Dataflow code inputs xs) ≡ s.values
  pub bound : IsFlow (length s.conts) code inputs xs
  pub kept : AreKept (length s.ids) xs
  pub once : (place : ℕ) → weigh_given (refs_by (λ p. p == place)) xs ≤ 1

flow_here : (s : State) (a : Act) (code inputs : ℕ) (xs : List (Given Spelled)) → IsState s → layout spelled (Dataflow code inputs xs) ≡ s.values → IsFlow (length s.conts) code inputs xs
    → IsFlowHere s a code inputs xs
flow_here s a code inputs xs h e bound =
    let many : length s.ids ≡ length (refs_in s.values) + length s.conts = h.ids in
    let low : AllByRecursion (λ p. p < length s.ids) (refs_in s.values) = HandLemmas.counted_below (length s.ids) 0 (refs_in s.values) h.refs (omega arith) in
    let P : List Spelled → Type 0 = λ vs. AllByRecursion (λ p. p < length s.ids) (refs_in vs) in
    let Q : List Spelled → Type 0 = AllByRecursion IsValue in
    let values : AllByRecursion IsValue (layout spelled (Dataflow code inputs xs)) = subst Q (sym e) h.values.each in
    let refs : AllByRecursion (λ p. p < length s.ids) (refs_in (given_out spelled xs)) = subst P (sym e) low in
    record {
      shown = e;
      bound = bound;
      kept = are_kept (length s.ids) xs values.1.1 refs;
      once = λ place.
          let is = given_refs (λ p. p == place) xs in
          let R : List Spelled → Type 0 = λ vs. count_by (λ p. p == place) (refs_in vs) ≤ 1 in
          let one : count_by (λ p. p == place) (refs_in (given_out spelled xs)) ≤ 1 = subst R (sym e) (once_counted place 0 (refs_in s.values) h.refs) in
          omega arith;
    }

-- what is kept, and one value more
store_now : (s : State) (a : Act) (code inputs : ℕ) (xs : List (Given Spelled)) → IsFlowHere s a code inputs xs → IsStore (length s.ids + length a.ids) xs
store_now s a code inputs xs f =
    let few = f.bound.few in
    let most = f.bound.most in
    let short = f.bound.short in
    let size = kept_size xs in
    record {
      each = kept_above (length s.ids) (length s.ids + length a.ids) xs (omega arith) f.kept;
      few = omega arith;
      twice = λ place. let once = f.once place in omega arith;
      short = omega arith;
    }

fit_kept : (limit : ℕ) (xs : List (Given Spelled)) (v : Spelled) → IsKept limit v → IsKept limit (fitted spelled xs v)
fit_kept limit xs v h = by_test (nat_le (given_size spelled xs + size (spelled.look v)) 64000)
  where
    by_test : (b : Bool) → IsKept limit (if b then v else SpelledFault 10)
    by_test true = h
    by_test false = ((lit≤ tt, lit≤ tt), tt)

fit_size : (xs : List (Given Spelled)) (v : Spelled) → given_size spelled xs ≤ 64000 + 2 * length xs → given_size spelled xs + value_size (fitted spelled xs v) ≤ 64000 + 2 * (length xs + 1)
fit_size xs v short = by_test (nat_le (given_size spelled xs + size (spelled.look v)) 64000) refl
  where
    by_test : (b : Bool) → nat_le (given_size spelled xs + size (spelled.look v)) 64000 ≡ b → given_size spelled xs + value_size (if b then v else SpelledFault 10) ≤ 64000 + 2 * (length xs + 1)
    by_test true e = let fits = leb-true (given_size spelled xs + size (spelled.look v)) 64000 e in let same = size_is v in omega arith
    by_test false e = omega arith

store_next : (s : State) (a : Act) (code inputs slot : ℕ) (xs : List (Given Spelled)) (v : Spelled) → IsFlowHere s a code inputs xs → length xs < 16 → IsKept (length s.ids + length a.ids) v
    → IsStore (length s.ids + length a.ids) (xs ++ record { slot = slot; value = fitted spelled xs v } ∷ [])
store_next s a code inputs slot xs v f room h =
    let x : Given Spelled = record { slot = slot; value = fitted spelled xs v } in
    let most = f.bound.most in
    let long = length-append xs (x ∷ []) in
    let size = weigh_more value_size xs x in
    let same = kept_size xs in
    let short = fit_size xs v f.bound.short in
    record {
      each = one_kept (length s.ids + length a.ids) xs x (kept_above (length s.ids) (length s.ids + length a.ids) xs (omega arith) f.kept) (fit_kept (length s.ids + length a.ids) xs v h);
      few = omega arith;
      twice = λ place.
          let once = f.once place in
          let more = weigh_more (refs_by (λ p. p == place)) xs x in
          let one = count_by-le-length (λ p. p == place) (refs_in (x.value ∷ [])) in
          let most = one_ref x.value in
          omega arith;
      short = omega arith;
    }

-- the one that waits is handed on
hands_all : (s : State) (a : Act) (w : ℕ) (v : Spelled) → length s.conts ≡ w → w ≡ 1 → SameCounts (numbers 1 (w - 1) ++ (0 ∷ answered (own_reply s a.cont v))) (all_of s a)
hands_all s a w v e one =
    let P : ℕ → Type 0 = λ m. SameCounts (numbers 0 m ++ answered (own_reply s a.cont v)) (all_of s a) in
    let whole : SameCounts (0 ∷ answered (own_reply s a.cont v)) (all_of s a) = subst P (e ∙ one) (answers_all s a v) in
    let Q : ℕ → Type 0 = λ m. SameCounts (numbers 1 (m - 1) ++ (0 ∷ answered (own_reply s a.cont v))) (all_of s a) in
    subst Q (sym one) whole

gives_good : (n kind here : ℕ) (s : State) (a : Act) (code inputs : ℕ) (ys : List (Given Spelled)) → here < n → IsCall kind s a → length s.conts ≤ 1 → inputs ≤ 16 → IsSent code
    → IsStore (length s.ids + length a.ids) ys → IsGood n kind here s a (gives spelled (length s.conts) code inputs ys)
gives_good n kind here s a code inputs ys low h waiting most sent store =
    good_if n kind here s a ((length ys == inputs) && nat_le 1 (length s.conts)) _ _
    (λ f.
    let some = leb-true 1 (length s.conts) (and_parts (length ys == inputs) (nat_le 1 (length s.conts)) f).1 in
    let long = length-numbers 1 (length s.conts - 1) in
    flow_keeps n kind here s a (layout spelled (Started code inputs)) (numbers 1 (length s.conts - 1)) (record { code = code; args = inputs_from spelled ys 0 inputs; cont = 0 } ∷ [])
    (own_reply s a.cont SpelledUnit) low h waiting (hands_all s a (length s.conts) SpelledUnit refl (omega arith)) (started_layout (length s.ids + length a.ids) code inputs) (omega arith)
    (one_starts (length s.ids + length a.ids) code inputs 0 ys store most sent) (own_plain s a.cont SpelledUnit tt refl))
    (λ f.
    let long = length-numbers 0 (length s.conts) in
    flow_keeps n kind here s a (layout spelled (Dataflow code inputs ys)) (numbers 0 (length s.conts)) [] (own_reply s a.cont SpelledUnit) low h waiting (answers_all s a SpelledUnit)
    (store_layout (length s.ids + length a.ids) code inputs ys store) (omega arith) (nothing_starts (length s.ids + length a.ids)) (own_plain s a.cont SpelledUnit tt refl))

free_good : (n kind here : ℕ) (s : State) (a : Act) (code inputs : ℕ) (xs : List (Given Spelled)) (slot : ℕ) (v : Spelled) (o : Option Spelled) → here < n → IsCall kind s a
    → IsFlowHere s a code inputs xs → slot < inputs → input_of slot xs ≡ o → IsPlaced (length s.ids) (length s.ids + length a.ids) v
    → IsGood n kind here s a (puts_free spelled (length s.conts) code inputs xs slot v o)
free_good n kind here s a code inputs xs slot v (Some old) low h f small e placed = refused_good n kind here s a (Dataflow code inputs xs) 6 h f.shown (lit≤ tt) (lit≤ tt)
free_good n kind here s a code inputs xs slot v None low h f small e placed =
    let most = f.bound.most in
    let room = room_left inputs slot xs f.bound.once small e in
    gives_good n kind here s a code inputs (xs ++ record { slot = slot; value = fitted spelled xs v } ∷ []) low h f.bound.waiting most f.bound.sent
    (store_next s a code inputs slot xs v f (omega arith) (placed_kept (length s.ids) (length s.ids + length a.ids) v placed))

puts_good : (n kind here : ℕ) (s : State) (a : Act) (code inputs : ℕ) (xs : List (Given Spelled)) (slot : ℤ) (v : Spelled) → here < n → IsCall kind s a → IsFlowHere s a code inputs xs
    → IsPlaced (length s.ids) (length s.ids + length a.ids) v → IsGood n kind here s a (puts spelled (length s.conts) code inputs xs slot v)
puts_good n kind here s a code inputs xs (negsuc m) v low h f placed = refused_good n kind here s a (Dataflow code inputs xs) 7 h f.shown (lit≤ tt) (lit≤ tt)
puts_good n kind here s a code inputs xs (pos slot) v low h f placed =
    good_if n kind here s a (nat_lt slot inputs) _ _ (λ g. free_good n kind here s a code inputs xs slot v (input_of slot xs) low h f (ltb-true slot inputs g) refl placed)
    (λ g. refused_good n kind here s a (Dataflow code inputs xs) 7 h f.shown (lit≤ tt) (lit≤ tt))

-- a call with a continuation uses it
starts_all : (s : State) (a : Act) (w : ℕ) → length s.conts ≡ w → has_cont a.cont ≡ true → SameCounts (numbers 0 w ++ (w ∷ [])) (all_of s a)
starts_all s a w e waits = by_cont a.cont refl waits
  where
    by_cont : (c : Option Cont) → a.cont ≡ c → has_cont c ≡ true → SameCounts (numbers 0 w ++ (w ∷ [])) (all_of s a)
    by_cont None f g = absurd (cc)
    by_cont (Some c) f g =
        let P : ℕ → Type 0 = λ m. SameCounts (numbers 0 m ++ (m ∷ [])) (all_of s a) in
        let Q : Option Cont → Type 0 = λ o. SameCounts (numbers 0 (length s.conts) ++ answered (own_reply s o SpelledUnit)) (all_of s a) in
        subst P e (subst Q f (answers_all s a SpelledUnit))

starts_good : (n kind here : ℕ) (s : State) (a : Act) (code inputs : ℕ) (xs : List (Given Spelled)) → here < n → IsCall kind s a → IsFlowHere s a code inputs xs → has_cont a.cont ≡ true
    → IsGood n kind here s a (starts spelled (length s.conts) code inputs xs)
starts_good n kind here s a code inputs xs low h f waits =
    let limit = length s.ids + length a.ids in
    let long = length-numbers 0 (length s.conts) in
    let store = store_now s a code inputs xs f in
    good_if n kind here s a (nat_le 1 (length s.conts)) _ _ (λ g. refused_good n kind here s a (Dataflow code inputs xs) 9 h f.shown (lit≤ tt) (lit≤ tt)) (λ g.
    good_if n kind here s a (length xs == inputs) _ _
    (λ i.
    flow_keeps n kind here s a (layout spelled (Started code inputs)) (numbers 0 (length s.conts)) (record { code = code; args = inputs_from spelled xs 0 inputs; cont = length s.conts } ∷ [])
    [] low h f.bound.waiting (starts_all s a (length s.conts) refl waits) (started_layout limit code inputs) (few_more (length s.conts) _ f.bound.waiting long)
    (one_starts limit code inputs (length s.conts) xs store f.bound.most f.bound.sent) tt)
    (λ i.
    let more = length-numbers 0 (length s.conts + cont_count a.cont) in
    flow_keeps n kind here s a (layout spelled (Dataflow code inputs xs)) (numbers 0 (length s.conts + cont_count a.cont)) [] [] low h f.bound.waiting (waits_all s a)
    (store_layout limit code inputs xs store) (one_own (length s.conts) a.cont _ f.bound.waiting more) (nothing_starts limit) tt))
  where
    few_more : (w m : ℕ) → w ≤ 1 → m ≡ w → m ≤ 2
    few_more w m low e = omega arith

    one_own : (w : ℕ) (c : Option Cont) (m : ℕ) → w ≤ 1 → m ≡ w + cont_count c → m ≤ 2
    one_own w None m low e = omega arith
    one_own w (Some c) m low e = omega arith

pub dataflow_good : (n kind here : ℕ) (s : State) (a : Act) (code inputs : ℕ) (xs : List (Given Spelled)) (r : Request Spelled) → here < n → IsCall kind s a
    → layout spelled (Dataflow code inputs xs) ≡ s.values → IsFlow (length s.conts) code inputs xs → IsFair (IsPlaced (length s.ids) (length s.ids + length a.ids)) (has_cont a.cont) r
    → (awaits r ≡ true → has_cont a.cont ≡ true) → IsGood n kind here s a (on_dataflow spelled (length s.conts) code inputs xs r)
dataflow_good n kind here s a code inputs xs (Set slot v) low h e bound fair waits = puts_good n kind here s a code inputs xs slot v low h (flow_here s a code inputs xs h.state e bound) fair.0
dataflow_good n kind here s a code inputs xs (PutAt slot v) low h e bound fair waits = puts_good n kind here s a code inputs xs slot v low h (flow_here s a code inputs xs h.state e bound) fair
dataflow_good n kind here s a code inputs xs Get low h e bound fair waits = starts_good n kind here s a code inputs xs low h (flow_here s a code inputs xs h.state e bound) (waits refl)
dataflow_good n kind here s a code inputs xs _ low h e bound fair waits = refused_good n kind here s a (Dataflow code inputs xs) 11 h e (lit≤ tt) (lit≤ tt)

late_good : (n kind here : ℕ) (s : State) (a : Act) (code inputs : ℕ) (slot : ℤ) → IsCall kind s a → SpelledInt (pos code) ∷ SpelledInt (pos inputs) ∷ SpelledUnit ∷ [] ≡ s.values
    → IsGood n kind here s a (puts_late spelled code inputs slot)
late_good n kind here s a code inputs (negsuc m) h e = refused_good n kind here s a (Started code inputs) 7 h e (lit≤ tt) (lit≤ tt)
late_good n kind here s a code inputs (pos slot) h e = by_test (nat_lt slot inputs)
  where
    by_test : (b : Bool) → IsGood n kind here s a (refuses spelled (Started code inputs) (if b then 6 else 7))
    by_test true = refused_good n kind here s a (Started code inputs) 6 h e (lit≤ tt) (lit≤ tt)
    by_test false = refused_good n kind here s a (Started code inputs) 7 h e (lit≤ tt) (lit≤ tt)

pub started_good : (n kind here : ℕ) (s : State) (a : Act) (code inputs : ℕ) (r : Request Spelled) → IsCall kind s a → SpelledInt (pos code) ∷ SpelledInt (pos inputs) ∷ SpelledUnit ∷ [] ≡ s.values
    → IsGood n kind here s a (on_started spelled code inputs r)
started_good n kind here s a code inputs (Set slot v) h e = late_good n kind here s a code inputs slot h e
started_good n kind here s a code inputs (PutAt slot v) h e = late_good n kind here s a code inputs slot h e
started_good n kind here s a code inputs Get h e = refused_good n kind here s a (Started code inputs) 9 h e (lit≤ tt) (lit≤ tt)
started_good n kind here s a code inputs _ h e = refused_good n kind here s a (Started code inputs) 11 h e (lit≤ tt) (lit≤ tt)
