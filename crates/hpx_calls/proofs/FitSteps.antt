-- Calls leave contents that fit their kind.
use Rattle.std.specs.Prelude.{ℕ, zero, suc, ℤ, pos, negsuc, Bool, true, false, nat_le, nat_lt, List, [], ◌∷◌, ◌++◌, ◌+◌, ◌-◌, ◌+ℤ◌, ◌<◌, ◌≤◌, ◌≡◌, ◌≢◌, ◌==◌, ◌&&◌, ◌⊎◌, Option, Some, None, is_some, codes, length, refl, if◌then◌else◌}
use Rattle.std.proofs.Common.{ap, arith, lit≤, inl, inr, length-append, length-drop}
use Rattle.std.specs.List.{AllByRecursion, list_all}
use Rattle.std.specs.Str.{bytes_eq}
use Rattle.std.proofs.lemmas.Bool.{cond_both, and_parts, and_from, leb-false, ltb-true, eqb-false}
use Rattle.hpx_calls.specs.Values.{Value, Int, Ints, Look, plain, size, is_small, is_number_or_text}
use Rattle.hpx_calls.specs.Requests.{Request, Move, Where, Set, New, Register, Resolve, Unregister, Keys, Count, Add, Query, Reset, Step, Get, Put, PutAt, Close, Down, Wait, Arrive, Other, is_key}
use Rattle.hpx_calls.specs.Contents.{Pair, Given, Content, Table, Maker, Size, Number, Row, Promise, Dataflow, Started, Channel, Latch, Barrier, Unreadable, precedes, given_size, input_of, are_fitted, are_inputs, count_in}
use Rattle.hpx_calls.specs.Effects.{Effect, Silent, Answers, Waits, Frees, Starts, Hands, Moves, Makes, Called}
use Rattle.hpx_calls.specs.Tables.{found, added, removed, registers, resolves, unregisters, on_table, makes, makes_bare, makes_at, makes_counted, makes_row, with_one, on_maker, on_size, fits, on_number, stepped, on_row, is_first, sets, gets, on_promise, fitted, gives, puts_free, puts, starts, on_dataflow, puts_late, on_started, sends, receives, closes, on_channel, downs, on_latch, on_barrier, on_content, is_movable, on_object, awaits, called}
use Rattle.hpx_calls.specs.Histories.{still}
use Rattle.hpx_calls.proofs.Orders.{rises_added, rises_removed}
use Rattle.hpx_calls.proofs.Slots.{room_left, still_once}
use Rattle.hpx_calls.proofs.Fitted.{fitted_more, fitted_fits}
use Rattle.hpx_calls.proofs.Fits.{IsReference, FitsTable, FitsFlow, FitsStarted, FitsChannel, FitsLatch, Fits}

-- how many wait after a call
abbrev pub left_waiting : {V : Type 0} → ℕ → Bool → Effect V → ℕ
left_waiting w b Waits = if b then w + 1 else w
left_waiting w b (Frees count v own) = w - count
left_waiting w b (Hands code args own) = w - 1
left_waiting w b _ = w

pub length-still : {V W : Type 0} (e : Effect V) (ws : List W) (o : Option W) → length (still e ws o) ≡ left_waiting (length ws) (is_some o) e
length-still Silent ws o = refl
length-still (Answers v) ws o = refl
length-still Waits ws None = refl
length-still Waits ws (Some w) = length-append ws (w ∷ [])
length-still (Frees count v own) ws o = length-drop count ws
length-still (Starts code args) ws o = refl
length-still (Hands code args own) ws o = length-drop 1 ws
length-still (Moves to) ws o = refl
length-still (Makes x) ws o = refl

-- a key that is one, and a reference under it
abbrev pub IsAsked : {R : Type 0} → Request (Value R) → Type 0
IsAsked (Register key to) = (is_key key ≡ true) × IsReference to
IsAsked _ = Unit {0}

more_length : (V : Type 0) (vs : List V) (v : V) → length (vs ++ v ∷ []) ≡ length vs + 1
more_length V vs v = length-append vs (v ∷ [])

module _ (R : Type 0) (n kind w : ℕ) (b : Bool) where
  abbrev pub Leaves : Called (Value R) → Type 0
  Leaves c = Fits n kind (left_waiting w b c.effect) c.content

  leaves_if : (t : Bool) (x y : Called (Value R)) → (t ≡ true → Leaves x) → (t ≡ false → Leaves y) → Leaves (if t then x else y)
  leaves_if true x y p q = p refl
  leaves_if false x y p q = q refl

  -- ---- tables

  keys_added : (key : List ℕ) (to : Value R) (xs : List (Pair (Value R))) → is_key key ≡ true → list_all (λ (x : Pair (Value R)). is_key x.key) xs ≡ true
      → list_all (λ (x : Pair (Value R)). is_key x.key) (added key to xs) ≡ true
  keys_added key to [] e h = and_from (is_key key) true e refl
  keys_added key to (x ∷ xs) e h =
      let parts = and_parts (is_key x.key) (list_all (λ (y : Pair (Value R)). is_key y.key) xs) h in
      cond_both (precedes key x.key) _ _ (λ ys. list_all (λ (y : Pair (Value R)). is_key y.key) ys ≡ true) (λ f. and_from (is_key key) _ e h)
      (λ f. and_from (is_key x.key) _ parts.0 (keys_added key to xs e parts.1))

  refs_added : (key : List ℕ) (to : Value R) (xs : List (Pair (Value R))) → IsReference to → AllByRecursion (λ x. IsReference x.to) xs → AllByRecursion (λ x. IsReference x.to) (added key to xs)
  refs_added key to [] e h = (e, tt)
  refs_added key to (x ∷ xs) e h =
      cond_both (precedes key x.key) _ _ (AllByRecursion (λ y. IsReference y.to)) (λ f. (e, h)) (λ f. (h.0, refs_added key to xs e h.1))

  length_added : (key : List ℕ) (to : Value R) (xs : List (Pair (Value R))) → length (added key to xs) ≡ length xs + 1
  length_added key to [] = refl
  length_added key to (x ∷ xs) =
      cond_both (precedes key x.key) _ _ (λ ys. length ys ≡ length (x ∷ xs) + 1) (λ e. omega arith) (λ e. let rest = length_added key to xs in omega arith)

  keys_removed : (key : List ℕ) (xs : List (Pair (Value R))) → list_all (λ (x : Pair (Value R)). is_key x.key) xs ≡ true → list_all (λ (x : Pair (Value R)). is_key x.key) (removed key xs) ≡ true
  keys_removed key [] h = refl
  keys_removed key (x ∷ xs) h =
      let parts = and_parts (is_key x.key) (list_all (λ (y : Pair (Value R)). is_key y.key) xs) h in
      cond_both (bytes_eq key x.key) _ _ (λ ys. list_all (λ (y : Pair (Value R)). is_key y.key) ys ≡ true) (λ f. parts.1) (λ f. and_from (is_key x.key) _ parts.0 (keys_removed key xs parts.1))

  refs_removed : (key : List ℕ) (xs : List (Pair (Value R))) → AllByRecursion (λ x. IsReference x.to) xs → AllByRecursion (λ x. IsReference x.to) (removed key xs)
  refs_removed key [] h = tt
  refs_removed key (x ∷ xs) h = cond_both (bytes_eq key x.key) _ _ (AllByRecursion (λ y. IsReference y.to)) (λ f. h.1) (λ f. (h.0, refs_removed key xs h.1))

  length_removed : (key : List ℕ) (xs : List (Pair (Value R))) → length (removed key xs) ≤ length xs
  length_removed key [] = lit≤ tt
  length_removed key (x ∷ xs) = cond_both (bytes_eq key x.key) _ _ (λ ys. length ys ≤ length (x ∷ xs)) (λ e. omega arith) (λ e. let rest = length_removed key xs in omega arith)

  first_key : (key : List ℕ) → is_key key ≡ true → precedes [] key ≡ true
  first_key [] e = absurd (cc)
  first_key (x ∷ xs) e = refl

  registers_leaves : (xs : List (Pair (Value R))) (key : List ℕ) (to : Value R) (o : Option (Value R)) → FitsTable kind w xs → is_key key ≡ true → IsReference to → found key xs ≡ o
      → Leaves (registers (plain R) xs key to o)
  registers_leaves xs key to (Some old) h e is f = h
  registers_leaves xs key to None h e is f =
      leaves_if (length xs == 100) _ _ (λ g. h) (λ g.
      record {
        kinds = h.kinds;
        waiting = h.waiting;
        few = let room = eqb-false (length xs) 100 g in let long = length_added key to xs in let few = h.few in room_for (length xs) _ few room long;
        keys = keys_added key to xs e h.keys;
        order = rises_added [] key to xs h.order (first_key key e) f;
        refs = refs_added key to xs is h.refs;
      })
    where
      room_for : (k m : ℕ) → k ≤ 100 → k ≢ 100 → m ≡ k + 1 → m ≤ 100
      room_for k m p q r = omega arith

  resolves_leaves : (xs : List (Pair (Value R))) (o : Option (Value R)) → FitsTable kind w xs → Leaves (resolves (plain R) xs o)
  resolves_leaves xs None h = h
  resolves_leaves xs (Some to) h = h

  unregisters_leaves : (xs : List (Pair (Value R))) (key : List ℕ) (o : Option (Value R)) → FitsTable kind w xs → Leaves (unregisters (plain R) xs key o)
  unregisters_leaves xs key None h = h
  unregisters_leaves xs key (Some to) h = record {
    kinds = h.kinds;
    waiting = h.waiting;
    few = let less = length_removed key xs in let few = h.few in omega arith;
    keys = keys_removed key xs h.keys;
    order = rises_removed [] key xs h.order;
    refs = refs_removed key xs h.refs;
  }

  table_leaves : (xs : List (Pair (Value R))) (r : Request (Value R)) → FitsTable kind w xs → IsAsked r → Leaves (on_table (plain R) xs r)
  table_leaves xs (Register key to) h asked = registers_leaves xs key to (found key xs) h asked.0 asked.1 refl
  table_leaves xs (Resolve key) h asked = resolves_leaves xs (found key xs) h
  table_leaves xs (Unregister key) h asked = unregisters_leaves xs key (found key xs) h
  table_leaves xs Keys h asked = h
  table_leaves xs _ h asked = h

  -- ---- components, localities, accumulators and partitions

  bare_leaves : (x : Content (Value R)) (vs : List (Value R)) → (kind ≡ 3) × (w ≡ 0) → Leaves (makes_bare (plain R) x vs)
  bare_leaves x [] h = h
  bare_leaves x (v ∷ vs) h = h

  at_leaves : (f : ℕ → Content (Value R)) (o : Option ℕ) → (kind ≡ 3) × (w ≡ 0) → Leaves (makes_at (plain R) f o)
  at_leaves f None h = h
  at_leaves f (Some m) h = leaves_if (nat_le 1 m) _ _ (λ e. h) (λ e. h)

  look_leaves : (most : ℕ) (f : ℕ → Content (Value R)) (l : Look) → (kind ≡ 3) × (w ≡ 0) → Leaves (makes_counted (plain R) most f l)
  look_leaves most f (Int z) h = at_leaves f (count_in most z) h
  look_leaves most f _ h = h

  row_leaves : (l : Look) → (kind ≡ 3) × (w ≡ 0) → Leaves (makes_row (plain R) l)
  row_leaves (Ints zs) h = leaves_if (nat_le 1 (length zs) && nat_le (length zs) 1024) _ _ (λ e. h) (λ e. h)
  row_leaves _ h = h

  one_leaves : (f : Look → Called (Value R)) (vs : List (Value R)) → (kind ≡ 3) × (w ≡ 0) → ((l : Look) → Leaves (f l)) → Leaves (with_one (plain R) f vs)
  one_leaves f [] h g = h
  one_leaves f (v ∷ []) h g = g ((plain R).look v)
  one_leaves f (v ∷ u ∷ vs) h g = h

  makes_leaves : (name : List ℕ) (vs : List (Value R)) → (kind ≡ 3) × (w ≡ 0) → Leaves (makes (plain R) name vs)
  makes_leaves name vs h =
      leaves_if (bytes_eq name (codes "accumulator")) _ _ (λ e. bare_leaves (Number (pos 0)) vs h) (λ e.
      leaves_if (bytes_eq name (codes "partition")) _ _ (λ e. one_leaves (makes_row (plain R)) vs h (λ l. row_leaves l h)) (λ e.
      leaves_if (bytes_eq name (codes "promise")) _ _ (λ e. bare_leaves (Promise None) vs h) (λ e.
      leaves_if (bytes_eq name (codes "channel")) _ _ (λ e. bare_leaves (Channel false []) vs h) (λ e.
      leaves_if (bytes_eq name (codes "latch")) _ _ (λ e. one_leaves (makes_counted (plain R) 1000000 Latch) vs h (λ l. look_leaves 1000000 Latch l h)) (λ e.
      leaves_if (bytes_eq name (codes "barrier")) _ _ (λ e. one_leaves (makes_counted (plain R) 100 Barrier) vs h (λ l. look_leaves 100 Barrier l h)) (λ e. h))))))

  maker_leaves : (r : Request (Value R)) → (kind ≡ 3) × (w ≡ 0) → Leaves (on_maker (plain R) r)
  maker_leaves (New name vs) h = makes_leaves name vs h
  maker_leaves _ h = h

  size_leaves : (m : ℕ) (r : Request (Value R)) → (kind ≡ 4) × (w ≡ 0) × (m ≡ n) → Leaves (on_size (plain R) m r)
  size_leaves m Count h = h
  size_leaves m _ h = h

  number_leaves : (z : ℤ) (r : Request (Value R)) → (kind ≡ 16) × (w ≡ 0) → Leaves (on_number (plain R) z r)
  number_leaves z (Add y) h = leaves_if (fits (z +ℤ y)) _ _ (λ e. h) (λ e. h)
  number_leaves z Query h = h
  number_leaves z Reset h = h
  number_leaves z _ h = h

  numbers_leaves : (zs : List ℤ) (r : Request (Value R)) → (kind ≡ 17) × (w ≡ 0) × (1 ≤ length zs) × (length zs ≤ 1024) → Leaves (on_row (plain R) zs r)
  numbers_leaves zs (Step left right) h =
      let long = length_stepped left zs right in let some = h.2 in let few = h.3 in (h.0, h.1, omega arith, omega arith)
    where
      length_stepped : (left : ℤ) (ys : List ℤ) (right : ℤ) → length (stepped left ys right) ≡ length ys
      length_stepped left [] right = refl
      length_stepped left (y ∷ []) right = refl
      length_stepped left (y ∷ x ∷ ys) right = ap suc (length_stepped y (x ∷ ys) right)
  numbers_leaves zs _ h = h

  -- ---- promises

  sets_leaves : (o : Option (Value R)) (v : Value R) → Fits n kind w (Promise o) → Leaves (sets (plain R) w o v)
  sets_leaves None v h = (h.0, omega arith)
  sets_leaves (Some old) v h = h

  waits_more : (w most : ℕ) → w ≤ most → w ≢ most → (if b then w + 1 else w) ≤ most
  waits_more w most h e = by_bool b
    where
      by_bool : (t : Bool) → (if t then w + 1 else w) ≤ most
      by_bool true = omega arith
      by_bool false = h

  gets_leaves : (o : Option (Value R)) → Fits n kind w (Promise o) → Leaves (gets (plain R) w o)
  gets_leaves None h = leaves_if (w == 7) _ _ (λ e. h) (λ e. (h.0, waits_more w 7 h.1 (eqb-false w 7 e)))
  gets_leaves (Some v) h = h

  promise_leaves : (o : Option (Value R)) (r : Request (Value R)) → Fits n kind w (Promise o) → Leaves (on_promise (plain R) w o r)
  promise_leaves o (Set slot v) h = leaves_if (is_first slot) _ _ (λ e. sets_leaves o v h) (λ e. h)
  promise_leaves o (Put v) h = leaves_if (is_number_or_text ((plain R).look v)) _ _ (λ e. sets_leaves o v h) (λ e. h)
  promise_leaves o Get h = gets_leaves o h
  promise_leaves o _ h = h

  -- ---- dataflows

  gives_leaves : (code inputs : ℕ) (ys : List (Given (Value R))) → kind ≡ 33 → (is_starting : FitsStarted kind 0 code inputs) → are_inputs inputs ys ≡ true
      → are_fitted (plain R) (Some 64000) ys ≡ true → length ys ≤ inputs → w ≤ 1 → Leaves (gives (plain R) w code inputs ys)
  gives_leaves code inputs ys e f once short few waiting =
      leaves_if ((length ys == inputs) && nat_le 1 w) _ _
      (λ g. record { kinds = e; starts = f.starts; codes = f.codes; most = f.most; waiting = omega arith })
      (λ g. record {
        kinds = e;
        starts = f.starts;
        codes = f.codes;
        most = f.most;
        once = once;
        short = short;
        few = few;
        waiting = waiting;
        lacks = by_test (length ys == inputs) refl g;
      })
    where
      by_test : (t : Bool) → (length ys == inputs) ≡ t → (t && nat_le 1 w) ≡ false → (w ≡ 0) ⊎ (length ys < inputs)
      by_test true g i = let less = leb-false 1 w i in inl (omega arith)
      by_test false g i = let other = eqb-false (length ys) inputs g in inr (omega arith)

  started_of : (code inputs : ℕ) (xs : List (Given (Value R))) → FitsFlow kind w code inputs xs → FitsStarted kind 0 code inputs
  started_of code inputs xs h = record { kinds = h.kinds; starts = h.starts; codes = h.codes; most = h.most; waiting = refl }

  free_leaves : (code inputs : ℕ) (xs : List (Given (Value R))) (slot : ℕ) (v : Value R) (o : Option (Value R)) → FitsFlow kind w code inputs xs → slot < inputs → input_of slot xs ≡ o
      → Leaves (puts_free (plain R) w code inputs xs slot v o)
  free_leaves code inputs xs slot v (Some old) h low e = h
  free_leaves code inputs xs slot v None h low e =
      let x : Given (Value R) = record { slot = slot; value = fitted (plain R) xs v } in
      let room = room_left inputs slot xs h.once low e in
      let long = more_length (Given (Value R)) xs x in
      let short = fitted_more (plain R) 64000 xs x (64000 - given_size (plain R) xs - size ((plain R).look x.value)) h.short (fitted_fits (plain R) xs v refl) in
      gives_leaves code inputs (xs ++ x ∷ []) h.kinds (started_of code inputs xs h) (still_once inputs xs x h.once low e) short (omega arith) h.waiting

  puts_leaves : (code inputs : ℕ) (xs : List (Given (Value R))) (z : ℤ) (v : Value R) → FitsFlow kind w code inputs xs → Leaves (puts (plain R) w code inputs xs z v)
  puts_leaves code inputs xs (negsuc m) v h = h
  puts_leaves code inputs xs (pos slot) v h =
      leaves_if (nat_lt slot inputs) _ _ (λ e. free_leaves code inputs xs slot v (input_of slot xs) h (ltb-true slot inputs e) refl) (λ e. h)

  starts_leaves : (code inputs : ℕ) (xs : List (Given (Value R))) → FitsFlow kind w code inputs xs → Leaves (starts (plain R) w code inputs xs)
  starts_leaves code inputs xs h =
      leaves_if (nat_le 1 w) _ _ (λ e. h) (λ e.
      let none = leb-false 1 w e in
      leaves_if (length xs == inputs) _ _
      (λ f. record { kinds = h.kinds; starts = h.starts; codes = h.codes; most = h.most; waiting = omega arith })
      (λ f.
      let other = eqb-false (length xs) inputs f in
      let few = h.few in
      record {
        kinds = h.kinds;
        starts = h.starts;
        codes = h.codes;
        most = h.most;
        once = h.once;
        short = h.short;
        few = h.few;
        waiting = waits_more w 1 h.waiting (at_none w none);
        lacks = inr (omega arith);
      }))
    where
      at_none : (m : ℕ) → m < 1 → m ≢ 1
      at_none m low e = omega arith

  dataflow_leaves : (code inputs : ℕ) (xs : List (Given (Value R))) (r : Request (Value R)) → FitsFlow kind w code inputs xs → Leaves (on_dataflow (plain R) w code inputs xs r)
  dataflow_leaves code inputs xs (Set z v) h = puts_leaves code inputs xs z v h
  dataflow_leaves code inputs xs (PutAt z v) h = puts_leaves code inputs xs z v h
  dataflow_leaves code inputs xs Get h = starts_leaves code inputs xs h
  dataflow_leaves code inputs xs _ h = h

  late_leaves : (code inputs : ℕ) (z : ℤ) → FitsStarted kind w code inputs → Leaves (puts_late (plain R) code inputs z)
  late_leaves code inputs (pos slot) h = h
  late_leaves code inputs (negsuc m) h = h

  started_leaves : (code inputs : ℕ) (r : Request (Value R)) → FitsStarted kind w code inputs → Leaves (on_started (plain R) code inputs r)
  started_leaves code inputs (Set z v) h = late_leaves code inputs z h
  started_leaves code inputs (PutAt z v) h = late_leaves code inputs z h
  started_leaves code inputs Get h = h
  started_leaves code inputs _ h = h

  -- ---- channels

  smalls_more : (vs : List (Value R)) (v : Value R) → list_all (λ (u : Value R). is_small ((plain R).look u)) vs ≡ true → is_small ((plain R).look v) ≡ true
      → list_all (λ (u : Value R). is_small ((plain R).look u)) (vs ++ v ∷ []) ≡ true
  smalls_more [] v h e = and_from (is_small ((plain R).look v)) true e refl
  smalls_more (u ∷ vs) v h e =
      let parts = and_parts (is_small ((plain R).look u)) _ h in and_from (is_small ((plain R).look u)) _ parts.0 (smalls_more vs v parts.1 e)

  receives_leaves : (closed : Bool) (kept : List (Value R)) → FitsChannel kind w closed kept → Leaves (receives (plain R) w closed kept)
  receives_leaves closed (v ∷ kept) h =
      let few = h.few in
      record {
        kinds = h.kinds;
        waiting = h.waiting;
        few = omega arith;
        small = (and_parts (is_small ((plain R).look v)) _ h.small).1;
        either = none_waits h.either;
      }
    where
      none_waits : (w ≡ 0) ⊎ ((closed ≡ false) × (length (v ∷ kept) ≡ 0)) → (w ≡ 0) ⊎ ((closed ≡ false) × (length kept ≡ 0))
      none_waits (inl e) = inl e
      none_waits (inr e) = let none = e.1 in absurd (omega arith)
  receives_leaves true [] h = h
  receives_leaves false [] h =
      leaves_if (w == 100) _ _ (λ e. h)
      (λ e. record { kinds = h.kinds; waiting = waits_more w 100 h.waiting (eqb-false w 100 e); few = h.few; small = h.small; either = inr (refl, refl) })

  closes_leaves : (closed : Bool) (kept : List (Value R)) → FitsChannel kind w closed kept → Leaves (closes (plain R) w closed kept)
  closes_leaves true kept h = h
  closes_leaves false kept h = record { kinds = h.kinds; waiting = omega arith; few = h.few; small = h.small; either = inl (omega arith) }

  -- ---- latches and barriers

  downs_leaves : (left : ℕ) → FitsLatch kind w left → Leaves (downs (plain R) w left)
  downs_leaves left h =
      let most = h.most in
      leaves_if (left == 0) _ _ (λ e. h) (λ e.
      let some = eqb-false left 0 e in
      leaves_if (left == 1) _ _ (λ f. record { kinds = h.kinds; waiting = omega arith; most = lit≤ tt; either = inl (omega arith) })
      (λ f. let more = eqb-false left 1 f in record { kinds = h.kinds; waiting = h.waiting; most = omega arith; either = inr (two left some more) }))
    where
      two : (left : ℕ) → left ≢ 0 → left ≢ 1 → 1 ≤ left - 1
      two left p q = omega arith

  latch_leaves : (left : ℕ) (r : Request (Value R)) → FitsLatch kind w left → Leaves (on_latch (plain R) w left r)
  latch_leaves left Down h = downs_leaves left h
  latch_leaves left Wait h =
      leaves_if (left == 0) _ _ (λ e. h) (λ e.
      let some = eqb-false left 0 e in
      leaves_if (w == 100) _ _ (λ f. h) (λ f. record { kinds = h.kinds; waiting = waits_more w 100 h.waiting (eqb-false w 100 f); most = h.most; either = inr (one left some) }))
    where
      one : (left : ℕ) → left ≢ 0 → 1 ≤ left
      one left p = omega arith
  latch_leaves left _ h = h

  barrier_leaves : (m : ℕ) (r : Request (Value R)) → (kind ≡ 36) × (w < m) × (m ≤ 100) → Leaves (on_barrier (plain R) w m r)
  barrier_leaves m Arrive h =
      let low = h.1 in
      leaves_if (w + 1 == m) _ _ (λ e. (h.0, omega arith, h.2)) (λ e. (h.0, room w m low (eqb-false (w + 1) m e), h.2))
    where
      room : (w m : ℕ) → w < m → w + 1 ≢ m → (if b then w + 1 else w) < m
      room w m p q = by_bool b
        where
          by_bool : (t : Bool) → (if t then w + 1 else w) < m
          by_bool true = omega arith
          by_bool false = p
  barrier_leaves m _ h = h

sends_leaves : (R : Type 0) (n kind w : ℕ) (b closed : Bool) (kept : List (Value R)) (v : Value R) → FitsChannel kind w closed kept → is_small ((plain R).look v) ≡ true
    → Leaves R n kind w b (sends (plain R) w closed kept v)
sends_leaves R n kind w b true kept v h e = h
sends_leaves R n kind zero b false kept v h e =
    leaves_if R n kind zero b (length kept == 1000) _ _ (λ f. h) (λ f.
    let room = eqb-false (length kept) 1000 f in
    let few = h.few in
    let long = more_length (Value R) kept v in
    record { kinds = h.kinds; waiting = h.waiting; few = room_for (length kept) _ few room long; small = smalls_more R n kind zero b kept v h.small e; either = inl refl })
  where
    room_for : (k m : ℕ) → k ≤ 1000 → k ≢ 1000 → m ≡ k + 1 → m ≤ 1000
    room_for k m p q r = omega arith
sends_leaves R n kind (suc w) b false kept v h e =
    let waiting = h.waiting in record { kinds = h.kinds; waiting = omega arith; few = h.few; small = h.small; either = inr (refl, none h.either) }
  where
    none : (suc w ≡ 0) ⊎ ((false ≡ false) × (length kept ≡ 0)) → length kept ≡ 0
    none (inl e) = absurd (omega arith)
    none (inr e) = e.1

channel_leaves : (R : Type 0) (n kind w : ℕ) (b closed : Bool) (kept : List (Value R)) (r : Request (Value R)) → FitsChannel kind w closed kept → Leaves R n kind w b (on_channel (plain R) w closed kept r)
channel_leaves R n kind w b closed kept (Set slot v) h =
    leaves_if R n kind w b (is_first slot) _ _
    (λ e. leaves_if R n kind w b (is_small ((plain R).look v)) _ _ (λ f. sends_leaves R n kind w b closed kept v h f) (λ f. h)) (λ e. h)
channel_leaves R n kind w b closed kept (Put v) h = leaves_if R n kind w b (is_small ((plain R).look v)) _ _ (λ f. sends_leaves R n kind w b closed kept v h f) (λ f. h)
channel_leaves R n kind w b closed kept Get h = receives_leaves R n kind w b closed kept h
channel_leaves R n kind w b closed kept Close h = closes_leaves R n kind w b closed kept h
channel_leaves R n kind w b closed kept _ h = h

content_leaves : (R : Type 0) (n kind w : ℕ) (b : Bool) (x : Content (Value R)) (r : Request (Value R)) → Fits n kind w x → IsAsked r → Leaves R n kind w b (on_content (plain R) w x r)
content_leaves R n kind w b (Table xs) r h asked = table_leaves R n kind w b xs r h asked
content_leaves R n kind w b Maker r h asked = maker_leaves R n kind w b r h
content_leaves R n kind w b (Size m) r h asked = size_leaves R n kind w b m r h
content_leaves R n kind w b (Number z) r h asked = number_leaves R n kind w b z r h
content_leaves R n kind w b (Row zs) r h asked = numbers_leaves R n kind w b zs r h
content_leaves R n kind w b (Promise o) r h asked = promise_leaves R n kind w b o r h
content_leaves R n kind w b (Dataflow code inputs xs) r h asked = dataflow_leaves R n kind w b code inputs xs r h
content_leaves R n kind w b (Started code inputs) r h asked = started_leaves R n kind w b code inputs r h
content_leaves R n kind w b (Channel closed kept) r h asked = channel_leaves R n kind w b closed kept r h
content_leaves R n kind w b (Latch left) r h asked = latch_leaves R n kind w b left r h
content_leaves R n kind w b (Barrier m) r h asked = barrier_leaves R n kind w b m r h
content_leaves R n kind w b (Unreadable vs) r h asked = h

object_leaves : (R : Type 0) (n here kind w : ℕ) (b : Bool) (x : Content (Value R)) (r : Request (Value R)) → Fits n kind w x → IsAsked r → Leaves R n kind w b (on_object (plain R) here kind w x r)
object_leaves R n here kind w b x Where h asked = leaves_if R n kind w b (nat_le 16 kind) _ _ (λ e. h) (λ e. h)
object_leaves R n here kind w b x (Move to) h asked = leaves_if R n kind w b (is_movable kind) _ _ (λ e. h) (λ e. h)
object_leaves R n here kind w b x (Set slot v) h asked = content_leaves R n kind w b x (Set slot v) h asked
object_leaves R n here kind w b x (New name vs) h asked = content_leaves R n kind w b x (New name vs) h asked
object_leaves R n here kind w b x (Register key to) h asked = content_leaves R n kind w b x (Register key to) h asked
object_leaves R n here kind w b x (Resolve key) h asked = content_leaves R n kind w b x (Resolve key) h asked
object_leaves R n here kind w b x (Unregister key) h asked = content_leaves R n kind w b x (Unregister key) h asked
object_leaves R n here kind w b x Keys h asked = content_leaves R n kind w b x Keys h asked
object_leaves R n here kind w b x Count h asked = content_leaves R n kind w b x Count h asked
object_leaves R n here kind w b x (Add z) h asked = content_leaves R n kind w b x (Add z) h asked
object_leaves R n here kind w b x Query h asked = content_leaves R n kind w b x Query h asked
object_leaves R n here kind w b x Reset h asked = content_leaves R n kind w b x Reset h asked
object_leaves R n here kind w b x (Step left right) h asked = content_leaves R n kind w b x (Step left right) h asked
object_leaves R n here kind w b x Get h asked = content_leaves R n kind w b x Get h asked
object_leaves R n here kind w b x (Put v) h asked = content_leaves R n kind w b x (Put v) h asked
object_leaves R n here kind w b x (PutAt slot v) h asked = content_leaves R n kind w b x (PutAt slot v) h asked
object_leaves R n here kind w b x Close h asked = content_leaves R n kind w b x Close h asked
object_leaves R n here kind w b x Down h asked = content_leaves R n kind w b x Down h asked
object_leaves R n here kind w b x Wait h asked = content_leaves R n kind w b x Wait h asked
object_leaves R n here kind w b x Arrive h asked = content_leaves R n kind w b x Arrive h asked
object_leaves R n here kind w b x Other h asked = content_leaves R n kind w b x Other h asked

pub called_leaves : (R : Type 0) (n here kind w : ℕ) (b : Bool) (x : Content (Value R)) (r : Request (Value R)) → Fits n kind w x → IsAsked r
    → Fits n kind (left_waiting w b (called (plain R) here kind w b x r).effect) (called (plain R) here kind w b x r).content
called_leaves R n here kind w true x r h asked = object_leaves R n here kind w true x r h asked
called_leaves R n here kind w false x r h asked = leaves_if R n kind w false (awaits r) _ _ (λ e. h) (λ e. object_leaves R n here kind w false x r h asked)
