-- What a content that a state shows is like, and what a request is like that an action makes.
use Rattle.std.specs.Prelude.{ℕ, ℤ, pos, negsuc, Bool, true, false, nat_le, nat_lt, List, [], ◌∷◌, ◌+◌, ◌*◌, ◌<◌, ◌≤◌, ◌≡◌, ◌≢◌, ◌==◌, ◌||◌, ◌⊎◌, Option, Some, None, length, refl, if◌then◌else◌}
use Rattle.std.proofs.Common.{ap, sym, subst, arith, lit≤, inl, inr}
use Rattle.std.specs.List.{AllByRecursion, list_all}
use Rattle.std.proofs.lemmas.Bool.{and_parts, leb-true, ltb-true, eqb-true, eqb-false}
use Rattle.hpx_value.specs.Values.{refs_in}
use Rattle.hpx_value.specs.declared.value.Value.{Value as Spelled}
use Rattle.hpx_value.specs.declared.value.Value.TheVariants.{Unit as SpelledUnit, Flag as SpelledFlag, Int as SpelledInt, Text as SpelledText, Ref as SpelledRef, Fault as SpelledFault, Ints as SpelledInts}
use Rattle.hpx_value.specs.Shapes.{IsValue, value_size}
use Rattle.hpx_calls.specs.Values.{spelled, is_small}
use Rattle.hpx_calls.specs.Requests.{is_key}
use Rattle.hpx_calls.specs.Contents
use Rattle.hpx_calls.proofs.Fitted.{fitted_short}
use Rattle.hpx_calls.specs.Contents.{Content, Pair, Given, layout, pairs_out, given_out, maybe_out}

pub count_is : (most : ℕ) (z : ℤ) (n : ℕ) → Contents.count_in most z ≡ Some n → (z ≡ pos n) × (n ≤ most)
count_is most (pos m) n e = by_test (nat_le m most) refl e
  where
    by_test : (b : Bool) → nat_le m most ≡ b → (if b then Some m else None) ≡ Some n → (pos m ≡ pos n) × (n ≤ most)
    by_test true f g = let same : m ≡ n = cc in let low = leb-true m most f in (ap pos same, omega arith)
    by_test false f g = cc
count_is most (negsuc m) n e = cc

-- a value of the kinds that a channel takes
pub record IsSmall (v : Spelled) : Type 0 where
  pub value : IsValue v
  pub refs : refs_in (v ∷ []) ≡ []
  pub size : value_size v ≤ 35

pub small_is : (v : Spelled) → is_small (spelled.look v) ≡ true → IsSmall v
small_is SpelledUnit e = record { value = tt; refs = refl; size = lit≤ tt }
small_is (SpelledFlag b) e = record { value = tt; refs = refl; size = lit≤ tt }
small_is (SpelledInt z) e = record { value = tt; refs = refl; size = lit≤ tt }
small_is (SpelledText bytes) e = let short = leb-true (length bytes) 32 e in record { value = omega arith; refs = refl; size = omega arith }
small_is (SpelledRef p) e = cc
small_is (SpelledFault c) e = cc
small_is (SpelledInts zs) e = cc

pub smalls_are : (vs : List Spelled) → list_all (λ v. is_small (spelled.look v)) vs ≡ true → AllByRecursion IsSmall vs
smalls_are [] e = tt
smalls_are (v ∷ vs) e = let parts = and_parts (is_small (spelled.look v)) (list_all (λ u. is_small (spelled.look u)) vs) e in (small_is v parts.0, smalls_are vs parts.1)

-- the bounds of a content where so many wait
pub record IsChannel (w : ℕ) (closed : Bool) (kept : List Spelled) : Type 0 where
  pub waiting : w ≤ 100
  pub few : length kept ≤ 1000
  pub small : AllByRecursion IsSmall kept
  pub either : (w ≡ 0) ⊎ ((closed ≡ false) × (length kept ≡ 0))

-- a code that may be sent
abbrev pub IsSent : ℕ → Type 0
IsSent code = (code ≢ 1) × (code ≢ 3) × (code ≢ 4)

pub record IsFlow (w code inputs : ℕ) (given : List (Given Spelled)) : Type 0 where
  pub sent : IsSent code
  pub most : inputs ≤ 16
  pub few : length given ≤ inputs
  pub once : Contents.are_inputs inputs given ≡ true
  pub short : Contents.given_size spelled given ≤ 64000 + 2 * length given
  pub waiting : w ≤ 1

-- a reference
abbrev pub IsRef : Spelled → Type 0
IsRef (SpelledRef p) = Unit {0}
IsRef _ = ⊥

-- a key, and a reference under it
abbrev pub IsPair : Pair Spelled → Type 0
IsPair x = (length x.key ≤ 32) × IsRef x.to

pub record IsTable (w : ℕ) (pairs : List (Pair Spelled)) : Type 0 where
  pub waiting : w ≡ 0
  pub few : length pairs ≤ 100
  pub each : AllByRecursion IsPair pairs

abbrev pub IsBound : ℕ → Content Spelled → Type 0
IsBound w (Contents.Table pairs) = IsTable w pairs
IsBound w Contents.Maker = w ≡ 0
IsBound w (Contents.Size m) = w ≡ 0
IsBound w (Contents.Number z) = w ≡ 0
IsBound w (Contents.Row zs) = (w ≡ 0) × (length zs ≤ 1024)
IsBound w (Contents.Dataflow code inputs given) = IsFlow w code inputs given
IsBound w (Contents.Started code inputs) = w ≡ 0
IsBound w (Contents.Latch left) = (w ≤ 100) × (left ≤ 1000000)
IsBound w (Contents.Barrier n) = (w < n) × (n ≤ 100)
IsBound w (Contents.Channel closed kept) = IsChannel w closed kept
IsBound w (Contents.Promise None) = w ≤ 7
IsBound w (Contents.Promise (Some v)) = w ≡ 0
IsBound w (Contents.Unreadable vs) = ⊥

-- a content that values show lays out as these values, and is within its bounds
abbrev pub Shows : ℕ → List Spelled → Option (Content Spelled) → Type 0
Shows w vs None = Unit {0}
Shows w vs (Some x) = (layout spelled x ≡ vs) × IsBound w x

provided_shows : (w : ℕ) (vs : List Spelled) (b : Bool) (x : Content Spelled) → (b ≡ true → (layout spelled x ≡ vs) × IsBound w x) → Shows w vs (Contents.provided b x)
provided_shows w vs true x h = h refl
provided_shows w vs false x h = tt

or_case : (a b : Bool) → (a || b) ≡ true → (a ≡ true) ⊎ (b ≡ true)
or_case true b e = inl refl
or_case false b e = inr e

latch_shows : (w : ℕ) (z : ℤ) (o : Option ℕ) → Contents.count_in 1000000 z ≡ o → Shows w (SpelledInt z ∷ []) (Contents.latch_at w o)
latch_shows w z None e = tt
latch_shows w z (Some left) e =
    let is = count_is 1000000 z left e in
    provided_shows w (SpelledInt z ∷ []) (Contents.is_latch w left) (Contents.Latch left)
    (λ f. (ap (λ y. SpelledInt y ∷ []) (sym is.0), (leb-true w 100 (and_parts _ _ f).0, is.1)))

latch_one : (w : ℕ) (v : Spelled) → Shows w (v ∷ []) (Contents.latch_in w (spelled.look v))
latch_one w (SpelledInt z) = latch_shows w z (Contents.count_in 1000000 z) refl
latch_one w SpelledUnit = tt
latch_one w (SpelledFlag b) = tt
latch_one w (SpelledText t) = tt
latch_one w (SpelledRef p) = tt
latch_one w (SpelledFault c) = tt
latch_one w (SpelledInts zs) = tt

barrier_shows : (w : ℕ) (z : ℤ) (o : Option ℕ) → Contents.count_in 100 z ≡ o → Shows w (SpelledInt z ∷ []) (Contents.barrier_at w o)
barrier_shows w z None e = tt
barrier_shows w z (Some n) e =
    let is = count_is 100 z n e in
    provided_shows w (SpelledInt z ∷ []) (nat_lt w n) (Contents.Barrier n)
    (λ f. (ap (λ y. SpelledInt y ∷ []) (sym is.0), (ltb-true w n f, is.1)))

barrier_one : (w : ℕ) (v : Spelled) → Shows w (v ∷ []) (Contents.barrier_in w (spelled.look v))
barrier_one w (SpelledInt z) = barrier_shows w z (Contents.count_in 100 z) refl
barrier_one w SpelledUnit = tt
barrier_one w (SpelledFlag b) = tt
barrier_one w (SpelledText t) = tt
barrier_one w (SpelledRef p) = tt
barrier_one w (SpelledFault c) = tt
barrier_one w (SpelledInts zs) = tt

channel_bound : (w : ℕ) (closed : Bool) (kept : List Spelled) → Contents.is_channel spelled w closed kept ≡ true → IsChannel w closed kept
channel_bound w closed kept e =
    let one = and_parts (nat_le w 100) _ e in
    let two = and_parts (nat_le (length kept) 1000) _ one.1 in
    let three = and_parts (list_all (λ v. is_small (spelled.look v)) kept) _ two.1 in
    record {
      waiting = leb-true w 100 one.0;
      few = leb-true (length kept) 1000 two.0;
      small = smalls_are kept three.0;
      either = by_case closed (or_case (w == 0) (if closed then false else length kept == 0) three.1);
    }
  where
    by_case : (b : Bool) → ((w == 0) ≡ true) ⊎ ((if b then false else length kept == 0) ≡ true) → (w ≡ 0) ⊎ ((b ≡ false) × (length kept ≡ 0))
    by_case b (inl h) = inl (eqb-true w 0 h)
    by_case true (inr h) = absurd (cc)
    by_case false (inr h) = inr (refl, eqb-true (length kept) 0 h)

channel_first : (w : ℕ) (v : Spelled) (vs : List Spelled) → Shows w (v ∷ vs) (Contents.channel_in spelled w (spelled.look v) vs)
channel_first w (SpelledFlag b) vs = provided_shows w (SpelledFlag b ∷ vs) (Contents.is_channel spelled w b vs) (Contents.Channel b vs) (λ e. (refl, channel_bound w b vs e))
channel_first w SpelledUnit vs = tt
channel_first w (SpelledInt z) vs = tt
channel_first w (SpelledText t) vs = tt
channel_first w (SpelledRef p) vs = tt
channel_first w (SpelledFault c) vs = tt
channel_first w (SpelledInts zs) vs = tt

-- channels, latches and barriers
pub latch_values : (w : ℕ) (vs : List Spelled) → Shows w vs (Contents.of_one spelled (Contents.latch_in w) vs)
latch_values w [] = tt
latch_values w (v ∷ []) = latch_one w v
latch_values w (v ∷ u ∷ vs) = tt

pub barrier_values : (w : ℕ) (vs : List Spelled) → Shows w vs (Contents.of_one spelled (Contents.barrier_in w) vs)
barrier_values w [] = tt
barrier_values w (v ∷ []) = barrier_one w v
barrier_values w (v ∷ u ∷ vs) = tt

pub channel_values : (w : ℕ) (vs : List Spelled) → Shows w vs (Contents.of_first spelled (Contents.channel_in spelled w) vs)
channel_values w [] = tt
channel_values w (v ∷ vs) = channel_first w v vs

pub promise_values : (w : ℕ) (vs : List Spelled) → Shows w vs (Contents.promise_in w vs)
promise_values w [] = provided_shows w [] (nat_le w 7) (Contents.Promise None) (λ e. (refl, leb-true w 7 e))
promise_values w (v ∷ []) = provided_shows w (v ∷ []) (w == 0) (Contents.Promise (Some v)) (λ e. (refl, eqb-true w 0 e))
promise_values w (v ∷ u ∷ vs) = tt

-- ---- tables

-- pairs that values show lay out as these values, and each has a reference
abbrev PairsShow : List Spelled → Option (List (Pair Spelled)) → Type 0
PairsShow vs None = Unit {0}
PairsShow vs (Some xs) = (pairs_out spelled xs ≡ vs) × AllByRecursion (λ x. IsRef x.to) xs

pairs_more : (v u : Spelled) (vs : List Spelled) (o : Option (Pair Spelled)) (rest : Option (List (Pair Spelled)))
    → Contents.pair_of spelled v u ≡ o → PairsShow vs rest → PairsShow (v ∷ u ∷ vs) (Contents.both o rest)
pairs_more v u vs None rest e h = tt
pairs_more v u vs (Some x) None e h = tt
pairs_more (SpelledText t) (SpelledRef p) vs (Some x) (Some xs) e h =
    let same : record { key = t; to = SpelledRef p } ≡ x = cc in
    let P : Pair Spelled → Type 0 = λ y. (SpelledText y.key ∷ y.to ∷ pairs_out spelled xs ≡ SpelledText t ∷ SpelledRef p ∷ vs) × AllByRecursion (λ z. IsRef z.to) (y ∷ xs) in
    subst P same (ap (λ rest. SpelledText t ∷ SpelledRef p ∷ rest) h.0, (tt, h.1))
pairs_more (SpelledText t) SpelledUnit vs (Some x) (Some xs) e h = absurd (cc)
pairs_more (SpelledText t) (SpelledFlag b) vs (Some x) (Some xs) e h = absurd (cc)
pairs_more (SpelledText t) (SpelledInt z) vs (Some x) (Some xs) e h = absurd (cc)
pairs_more (SpelledText t) (SpelledText r) vs (Some x) (Some xs) e h = absurd (cc)
pairs_more (SpelledText t) (SpelledFault c) vs (Some x) (Some xs) e h = absurd (cc)
pairs_more (SpelledText t) (SpelledInts zs) vs (Some x) (Some xs) e h = absurd (cc)
pairs_more SpelledUnit u vs (Some x) (Some xs) e h = absurd (cc)
pairs_more (SpelledFlag b) u vs (Some x) (Some xs) e h = absurd (cc)
pairs_more (SpelledInt z) u vs (Some x) (Some xs) e h = absurd (cc)
pairs_more (SpelledRef p) u vs (Some x) (Some xs) e h = absurd (cc)
pairs_more (SpelledFault c) u vs (Some x) (Some xs) e h = absurd (cc)
pairs_more (SpelledInts zs) u vs (Some x) (Some xs) e h = absurd (cc)

pairs_shown : (vs : List Spelled) → PairsShow vs (Contents.pairs_in spelled vs)
pairs_shown [] = (refl, tt)
pairs_shown (v ∷ []) = tt
pairs_shown (v ∷ u ∷ vs) = pairs_more v u vs (Contents.pair_of spelled v u) (Contents.pairs_in spelled vs) refl (pairs_shown vs)

pairs_keyed : (xs : List (Pair Spelled)) → list_all (λ (x : Pair Spelled). is_key x.key) xs ≡ true → AllByRecursion (λ x. IsRef x.to) xs → AllByRecursion IsPair xs
pairs_keyed [] e h = tt
pairs_keyed (x ∷ xs) e h =
    let parts = and_parts (is_key x.key) (list_all (λ (y : Pair Spelled). is_key y.key) xs) e in
    let short = leb-true (length x.key) 32 (and_parts (nat_le 1 (length x.key)) (nat_le (length x.key) 32) parts.0).1 in
    ((short, h.0), pairs_keyed xs parts.1 h.1)

pub table_values : (vs : List Spelled) → Shows 0 vs (Contents.table_in (Contents.pairs_in spelled vs))
table_values vs = by_pairs (Contents.pairs_in spelled vs) (pairs_shown vs)
  where
    by_pairs : (o : Option (List (Pair Spelled))) → PairsShow vs o → Shows 0 vs (Contents.table_in o)
    by_pairs None h = tt
    by_pairs (Some xs) h =
        provided_shows 0 vs (Contents.is_table xs) (Contents.Table xs) (λ e.
        let one = and_parts (nat_le (length xs) 100) _ e in
        let two = and_parts (list_all (λ (x : Pair Spelled). is_key x.key) xs) _ one.1 in
        (h.0, record { waiting = refl; few = leb-true (length xs) 100 one.0; each = pairs_keyed xs two.0 h.1 }))

-- ---- components, localities, accumulators and partitions

pub maker_values : (vs : List Spelled) → Shows 0 vs (Contents.maker_in vs)
maker_values [] = (refl, refl)
maker_values (v ∷ vs) = tt

size_one : (n : ℕ) (v : Spelled) → Shows 0 (v ∷ []) (Contents.size_in n (spelled.look v))
size_one n (SpelledInt (pos m)) = provided_shows 0 (SpelledInt (pos m) ∷ []) (m == n) (Contents.Size m) (λ e. (refl, refl))
size_one n (SpelledInt (negsuc m)) = tt
size_one n SpelledUnit = tt
size_one n (SpelledFlag b) = tt
size_one n (SpelledText t) = tt
size_one n (SpelledRef p) = tt
size_one n (SpelledFault c) = tt
size_one n (SpelledInts zs) = tt

pub size_values : (n : ℕ) (vs : List Spelled) → Shows 0 vs (Contents.of_one spelled (Contents.size_in n) vs)
size_values n [] = tt
size_values n (v ∷ []) = size_one n v
size_values n (v ∷ u ∷ vs) = tt

number_one : (v : Spelled) → Shows 0 (v ∷ []) (Contents.number_in (spelled.look v))
number_one (SpelledInt z) = (refl, refl)
number_one SpelledUnit = tt
number_one (SpelledFlag b) = tt
number_one (SpelledText t) = tt
number_one (SpelledRef p) = tt
number_one (SpelledFault c) = tt
number_one (SpelledInts zs) = tt

pub number_values : (vs : List Spelled) → Shows 0 vs (Contents.of_one spelled Contents.number_in vs)
number_values [] = tt
number_values (v ∷ []) = number_one v
number_values (v ∷ u ∷ vs) = tt

row_one : (v : Spelled) → Shows 0 (v ∷ []) (Contents.row_in (spelled.look v))
row_one (SpelledInts zs) =
    provided_shows 0 (SpelledInts zs ∷ []) _ (Contents.Row zs) (λ e. (refl, (refl, leb-true (length zs) 1024 (and_parts (nat_le 1 (length zs)) _ e).1)))
row_one (SpelledInt z) = tt
row_one SpelledUnit = tt
row_one (SpelledFlag b) = tt
row_one (SpelledText t) = tt
row_one (SpelledRef p) = tt
row_one (SpelledFault c) = tt

pub row_values : (vs : List Spelled) → Shows 0 vs (Contents.of_one spelled Contents.row_in vs)
row_values [] = tt
row_values (v ∷ []) = row_one v
row_values (v ∷ u ∷ vs) = tt

-- ---- dataflows

abbrev GivenShow : List Spelled → Option (List (Given Spelled)) → Type 0
GivenShow vs None = Unit {0}
GivenShow vs (Some xs) = given_out spelled xs ≡ vs

given_more : (v u : Spelled) (vs : List Spelled) (rest : Option (List (Given Spelled))) → GivenShow vs rest → GivenShow (v ∷ u ∷ vs) (Contents.both (Contents.given_of spelled v u) rest)
given_more SpelledUnit u vs rest h = tt
given_more (SpelledFlag b) u vs rest h = tt
given_more (SpelledText t) u vs rest h = tt
given_more (SpelledRef p) u vs rest h = tt
given_more (SpelledFault c) u vs rest h = tt
given_more (SpelledInts zs) u vs rest h = tt
given_more (SpelledInt z) u vs rest h = by_count (Contents.count_in 15 z) refl rest h
  where
    by_count : (o : Option ℕ) → Contents.count_in 15 z ≡ o → (rest : Option (List (Given Spelled))) → GivenShow vs rest → GivenShow (SpelledInt z ∷ u ∷ vs) (Contents.both (Contents.given_at o u) rest)
    by_count None e rest h = tt
    by_count (Some slot) e None h = tt
    by_count (Some slot) e (Some xs) h = let is = count_is 15 z slot e in let same : z ≡ pos slot = is.0 in cc

given_shown : (vs : List Spelled) → GivenShow vs (Contents.given_in spelled vs)
given_shown [] = refl
given_shown (v ∷ []) = tt
given_shown (v ∷ u ∷ vs) = given_more v u vs (Contents.given_in spelled vs) (given_shown vs)

sent_is : (code inputs : ℕ) → Contents.is_dataflow code inputs ≡ true → IsSent code
sent_is code inputs e = by_tests (code == 1) (code == 3) (code == 4) refl refl refl (and_parts (nat_le 1 inputs) _ e).1
  where
    by_tests : (a b c : Bool) → (code == 1) ≡ a → (code == 3) ≡ b → (code == 4) ≡ c → (if a then false else if b then false else if c then false else true) ≡ true → IsSent code
    by_tests false false false e f g h = (eqb-false code 1 e, eqb-false code 3 f, eqb-false code 4 g)
    by_tests true b c e f g h = absurd (cc)
    by_tests false true c e f g h = absurd (cc)
    by_tests false false true e f g h = absurd (cc)

inputs_shown : (w code inputs : ℕ) (vs : List Spelled) (o : Option (List (Given Spelled))) → IsSent code → inputs ≤ 16 → GivenShow vs o
    → Shows w (SpelledInt (pos code) ∷ SpelledInt (pos inputs) ∷ vs) (Contents.inputs_in spelled w code inputs o)
inputs_shown w code inputs vs None sent most h = tt
inputs_shown w code inputs vs (Some given) sent most h =
    provided_shows w (SpelledInt (pos code) ∷ SpelledInt (pos inputs) ∷ vs) (Contents.is_given spelled w inputs given) (Contents.Dataflow code inputs given) (λ e.
    let one = and_parts (Contents.are_inputs inputs given) _ e in
    let two = and_parts (Contents.are_fitted spelled (Some 64000) given) _ one.1 in
    let three = and_parts (nat_le (length given) inputs) _ two.1 in
    let four = and_parts (nat_le w 1) _ three.1 in (
      ap (λ rest. SpelledInt (pos code) ∷ SpelledInt (pos inputs) ∷ rest) h,
      record {
        sent = sent;
        most = most;
        few = leb-true (length given) inputs three.0;
        once = one.0;
        short = fitted_short spelled 64000 given two.0;
        waiting = leb-true w 1 four.0;
      },
    ))

started_shown : (w code inputs : ℕ) (v : Spelled) → Shows w (SpelledInt (pos code) ∷ SpelledInt (pos inputs) ∷ v ∷ []) (Contents.started_in w code inputs (spelled.look v))
started_shown w code inputs SpelledUnit =
    provided_shows w (SpelledInt (pos code) ∷ SpelledInt (pos inputs) ∷ SpelledUnit ∷ []) (w == 0) (Contents.Started code inputs) (λ e. (refl, eqb-true w 0 e))
started_shown w code inputs (SpelledFlag b) = tt
started_shown w code inputs (SpelledInt z) = tt
started_shown w code inputs (SpelledText t) = tt
started_shown w code inputs (SpelledRef p) = tt
started_shown w code inputs (SpelledFault c) = tt
started_shown w code inputs (SpelledInts zs) = tt

flow_shown : (w code inputs : ℕ) (vs : List Spelled) → IsSent code → inputs ≤ 16 → Shows w (SpelledInt (pos code) ∷ SpelledInt (pos inputs) ∷ vs) (Contents.flow_in spelled w code inputs vs)
flow_shown w code inputs [] sent most = inputs_shown w code inputs [] (Some []) sent most refl
flow_shown w code inputs (v ∷ []) sent most = started_shown w code inputs v
flow_shown w code inputs (v ∷ u ∷ vs) sent most = inputs_shown w code inputs (v ∷ u ∷ vs) (Contents.given_in spelled (v ∷ u ∷ vs)) sent most (given_shown (v ∷ u ∷ vs))

flow_test : (w code inputs : ℕ) (vs : List Spelled) (b : Bool) → Contents.is_dataflow code inputs ≡ b → inputs ≤ 16
    → Shows w (SpelledInt (pos code) ∷ SpelledInt (pos inputs) ∷ vs) (if b then Contents.flow_in spelled w code inputs vs else None)
flow_test w code inputs vs true e most = flow_shown w code inputs vs (sent_is code inputs e) most
flow_test w code inputs vs false e most = tt

flow_counted : (w : ℕ) (x y : ℤ) (vs : List Spelled) (a b : Option ℕ) → Contents.count_in 65535 x ≡ a → Contents.count_in 16 y ≡ b
    → Shows w (SpelledInt x ∷ SpelledInt y ∷ vs) (Contents.dataflow_at spelled w a b vs)
flow_counted w x y vs None b e f = tt
flow_counted w x y vs (Some code) None e f = tt
flow_counted w x y vs (Some code) (Some inputs) e f =
    let one = count_is 65535 x code e in
    let two = count_is 16 y inputs f in
    let P : ℤ → Type 0 = λ z. Shows w (SpelledInt z ∷ SpelledInt y ∷ vs) (Contents.dataflow_at spelled w (Some code) (Some inputs) vs) in
    let Q : ℤ → Type 0 = λ z. Shows w (SpelledInt (pos code) ∷ SpelledInt z ∷ vs) (Contents.dataflow_at spelled w (Some code) (Some inputs) vs) in
    subst P (sym one.0) (subst Q (sym two.0) (flow_test w code inputs vs (Contents.is_dataflow code inputs) refl two.1))

flow_two : (w : ℕ) (v u : Spelled) (vs : List Spelled) → Shows w (v ∷ u ∷ vs) (Contents.dataflow_in spelled w (spelled.look v) (spelled.look u) vs)
flow_two w (SpelledInt x) (SpelledInt y) vs = flow_counted w x y vs (Contents.count_in 65535 x) (Contents.count_in 16 y) refl refl
flow_two w (SpelledInt x) SpelledUnit vs = tt
flow_two w (SpelledInt x) (SpelledFlag b) vs = tt
flow_two w (SpelledInt x) (SpelledText t) vs = tt
flow_two w (SpelledInt x) (SpelledRef p) vs = tt
flow_two w (SpelledInt x) (SpelledFault c) vs = tt
flow_two w (SpelledInt x) (SpelledInts zs) vs = tt
flow_two w SpelledUnit u vs = tt
flow_two w (SpelledFlag b) u vs = tt
flow_two w (SpelledText t) u vs = tt
flow_two w (SpelledRef p) u vs = tt
flow_two w (SpelledFault c) u vs = tt
flow_two w (SpelledInts zs) u vs = tt

pub dataflow_values : (w : ℕ) (vs : List Spelled) → Shows w vs (Contents.of_two spelled (Contents.dataflow_in spelled w) vs)
dataflow_values w [] = tt
dataflow_values w (v ∷ []) = tt
dataflow_values w (v ∷ u ∷ vs) = flow_two w v u vs
