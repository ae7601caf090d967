-- Calls over values that are seen do what they do over places, seen.
use Rattle.std.specs.Prelude.{ℕ, zero, suc, ℤ, pos, negsuc, Bool, true, false, nat_le, nat_lt, List, [], ◌∷◌, ◌++◌, ◌+◌, ◌+ℤ◌, ◌≡◌, ◌==◌, ◌&&◌, Option, Some, None, codes, length, map, refl, if◌then◌else◌}
use Rattle.std.proofs.Common.{ap, sym, ◌∙◌}
use Rattle.std.specs.Str.{bytes_eq}
use Rattle.std.proofs.lemmas.List.{length-map, map-append}
use Rattle.hpx_value.specs.declared.value.Value.{Value as Spelled}
use Rattle.hpx_value.specs.declared.value.Value.TheVariants.{Fault as SpelledFault}
use Rattle.hpx_calls.specs.Values.{Value, Nothing, Int, Text, Ref, Fault, Ints, Look, plain, spelled, seen, size, is_small, is_number_or_text}
use Rattle.hpx_calls.specs.Requests.{Request, Move, Where, Set, New, Register, Resolve, Unregister, Keys, Count, Add, Query, Reset, Step, Get, Put, PutAt, Close, Down, Wait, Arrive, Other, is_key, asks_bare, asks_move, asks_one, asks_register, asks_step, asks_two, asks_many, request_of}
use Rattle.hpx_calls.specs.Contents.{Pair, Given, Content, Table, Maker, Size, Number, Row, Promise, Dataflow, Started, Channel, Latch, Barrier, Unreadable, precedes, given_size, input_of, count_in}
use Rattle.hpx_calls.specs.Effects.{Effect, Silent, Answers, Waits, Starts, Hands, Makes, Called}
use Rattle.hpx_calls.specs.Tables.{leaves, refuses, wrong, does, found, added, removed, listed, registers, resolves, unregisters, on_table, makes, makes_bare, makes_at, makes_counted, makes_row, with_one, on_maker, on_size, fits, on_number, on_row, is_first, sets, gets, on_promise, fitted, or_nothing, inputs_from, gives, puts_free, puts, starts, on_dataflow, puts_late, on_started, sends, sends_small, receives, closes, on_channel, on_latch, on_barrier, on_content, is_movable, on_object, awaits, called}
use Rattle.hpx_calls.proofs.Natural.{option_seen, pair_seen, pairs_seen, given_seen, givens_seen, content_seen, request_seen, effect_seen, called_seen, look_seen, length_pairs, length_givens, size_seen, option_if, input_seen}

module _ {R : Type 0} (see : ℕ → R) where
  called_if : (b : Bool) (x' y' : Called (Value R)) (x y : Called Spelled) → x' ≡ called_seen see x → y' ≡ called_seen see y → (if b then x' else y') ≡ called_seen see (if b then x else y)
  called_if true x' y' x y p q = p
  called_if false x' y' x y p q = q

  -- ---- tables

  found_seen : (key : List ℕ) (xs : List (Pair Spelled)) → found key (pairs_seen see xs) ≡ option_seen see (found key xs)
  found_seen key [] = refl
  found_seen key (x ∷ xs) =
      ap (λ o. if bytes_eq key x.key then Some (seen see x.to) else o) (found_seen key xs) ∙ option_if see (bytes_eq key x.key) x.to (found key xs)

  pairs_if : (b : Bool) (xs ys : List (Pair Spelled)) → (if b then pairs_seen see xs else pairs_seen see ys) ≡ pairs_seen see (if b then xs else ys)
  pairs_if true xs ys = refl
  pairs_if false xs ys = refl

  added_seen : (key : List ℕ) (to : Spelled) (xs : List (Pair Spelled)) → added key (seen see to) (pairs_seen see xs) ≡ pairs_seen see (added key to xs)
  added_seen key to [] = refl
  added_seen key to (x ∷ xs) =
      ap (λ ys. if precedes key x.key then record { key = key; to = seen see to } ∷ pair_seen see x ∷ pairs_seen see xs else pair_seen see x ∷ ys) (added_seen key to xs)
      ∙ pairs_if (precedes key x.key) (record { key = key; to = to } ∷ x ∷ xs) (x ∷ added key to xs)

  removed_seen : (key : List ℕ) (xs : List (Pair Spelled)) → removed key (pairs_seen see xs) ≡ pairs_seen see (removed key xs)
  removed_seen key [] = refl
  removed_seen key (x ∷ xs) =
      ap (λ ys. if bytes_eq key x.key then pairs_seen see xs else pair_seen see x ∷ ys) (removed_seen key xs) ∙ pairs_if (bytes_eq key x.key) xs (x ∷ removed key xs)

  listed_seen : (xs : List (Pair Spelled)) → listed (pairs_seen see xs) ≡ listed xs
  listed_seen [] = refl
  listed_seen (x ∷ []) = refl
  listed_seen (x ∷ y ∷ xs) = ap (λ text. x.key ++ 32 ∷ text) (listed_seen (y ∷ xs))

  registers_seen : (xs : List (Pair Spelled)) (key : List ℕ) (to : Spelled) (o : Option Spelled)
      → registers (plain R) (pairs_seen see xs) key (seen see to) (option_seen see o) ≡ called_seen see (registers spelled xs key to o)
  registers_seen xs key to (Some old) = refl
  registers_seen xs key to None =
      ap (λ m. if m == 100 then refuses (plain R) (Table (pairs_seen see xs)) 10 else does (plain R) (Table (added key (seen see to) (pairs_seen see xs)))) (length_pairs see xs)
      ∙ called_if (length xs == 100) _ _ _ _ refl (ap (λ ys. does (plain R) (Table ys)) (added_seen key to xs))

  resolves_seen : (xs : List (Pair Spelled)) (o : Option Spelled) → resolves (plain R) (pairs_seen see xs) (option_seen see o) ≡ called_seen see (resolves spelled xs o)
  resolves_seen xs None = refl
  resolves_seen xs (Some to) = refl

  unregisters_seen : (xs : List (Pair Spelled)) (key : List ℕ) (o : Option Spelled)
      → unregisters (plain R) (pairs_seen see xs) key (option_seen see o) ≡ called_seen see (unregisters spelled xs key o)
  unregisters_seen xs key None = refl
  unregisters_seen xs key (Some to) = ap (λ ys. does (plain R) (Table ys)) (removed_seen key xs)

  on_table_seen : (xs : List (Pair Spelled)) (r : Request Spelled) → on_table (plain R) (pairs_seen see xs) (request_seen see r) ≡ called_seen see (on_table spelled xs r)
  on_table_seen xs (Register key to) = ap (registers (plain R) (pairs_seen see xs) key (seen see to)) (found_seen key xs) ∙ registers_seen xs key to (found key xs)
  on_table_seen xs (Resolve key) = ap (resolves (plain R) (pairs_seen see xs)) (found_seen key xs) ∙ resolves_seen xs (found key xs)
  on_table_seen xs (Unregister key) = ap (unregisters (plain R) (pairs_seen see xs) key) (found_seen key xs) ∙ unregisters_seen xs key (found key xs)
  on_table_seen xs Keys = ap (λ text. leaves (Table (pairs_seen see xs)) (Answers (Text text))) (listed_seen xs)
  on_table_seen xs _ = refl

  -- ---- components

  bare_seen : (x : Content Spelled) (vs : List Spelled) → makes_bare (plain R) (content_seen see x) (map (seen see) vs) ≡ called_seen see (makes_bare spelled x vs)
  bare_seen x [] = refl
  bare_seen x (v ∷ vs) = refl

  at_seen : (f : ℕ → Content (Value R)) (g : ℕ → Content Spelled) (o : Option ℕ) → ((n : ℕ) → f n ≡ content_seen see (g n)) → makes_at (plain R) f o ≡ called_seen see (makes_at spelled g o)
  at_seen f g None h = refl
  at_seen f g (Some n) h = called_if (nat_le 1 n) _ _ _ _ (ap (λ x. leaves Maker (Makes x)) (h n)) refl

  counted_seen : (most : ℕ) (f : ℕ → Content (Value R)) (g : ℕ → Content Spelled) (l : Look) → ((n : ℕ) → f n ≡ content_seen see (g n))
      → makes_counted (plain R) most f l ≡ called_seen see (makes_counted spelled most g l)
  counted_seen most f g (Int z) h = at_seen f g (count_in most z) h
  counted_seen most f g _ h = refl

  row_seen : (l : Look) → makes_row (plain R) l ≡ called_seen see (makes_row spelled l)
  row_seen (Ints zs) = called_if (nat_le 1 (length zs) && nat_le (length zs) 1024) _ _ _ _ refl refl
  row_seen _ = refl

  one_seen : (f : Look → Called (Value R)) (g : Look → Called Spelled) (vs : List Spelled) → ((l : Look) → f l ≡ called_seen see (g l))
      → with_one (plain R) f (map (seen see) vs) ≡ called_seen see (with_one spelled g vs)
  one_seen f g [] h = refl
  one_seen f g (v ∷ []) h = ap f (look_seen see v) ∙ h (spelled.look v)
  one_seen f g (v ∷ u ∷ vs) h = refl

  makes_seen : (name : List ℕ) (vs : List Spelled) → makes (plain R) name (map (seen see) vs) ≡ called_seen see (makes spelled name vs)
  makes_seen name vs =
      called_if (bytes_eq name (codes "accumulator")) _ _ _ _ (bare_seen (Number (pos 0)) vs)
      (called_if (bytes_eq name (codes "partition")) _ _ _ _ (one_seen (makes_row (plain R)) (makes_row spelled) vs row_seen)
      (called_if (bytes_eq name (codes "promise")) _ _ _ _ (bare_seen (Promise None) vs)
      (called_if (bytes_eq name (codes "channel")) _ _ _ _ (bare_seen (Channel false []) vs)
      (called_if (bytes_eq name (codes "latch")) _ _ _ _ (one_seen (makes_counted (plain R) 1000000 Latch) (makes_counted spelled 1000000 Latch) vs (λ l. counted_seen 1000000 Latch Latch l (λ n. refl)))
      (called_if (bytes_eq name (codes "barrier")) _ _ _ _ (one_seen (makes_counted (plain R) 100 Barrier) (makes_counted spelled 100 Barrier) vs (λ l. counted_seen 100 Barrier Barrier l (λ n. refl))) refl)))))

  on_maker_seen : (r : Request Spelled) → on_maker (plain R) (request_seen see r) ≡ called_seen see (on_maker spelled r)
  on_maker_seen (New name vs) = makes_seen name vs
  on_maker_seen _ = refl

  on_size_seen : (n : ℕ) (r : Request Spelled) → on_size (plain R) n (request_seen see r) ≡ called_seen see (on_size spelled n r)
  on_size_seen n Count = refl
  on_size_seen n _ = refl

  -- ---- numbers

  on_number_seen : (v : ℤ) (r : Request Spelled) → on_number (plain R) v (request_seen see r) ≡ called_seen see (on_number spelled v r)
  on_number_seen v (Add z) = called_if (fits (v +ℤ z)) _ _ _ _ refl refl
  on_number_seen v _ = refl

  on_row_seen : (zs : List ℤ) (r : Request Spelled) → on_row (plain R) zs (request_seen see r) ≡ called_seen see (on_row spelled zs r)
  on_row_seen zs (Step left right) = refl
  on_row_seen zs _ = refl

  -- ---- promises

  sets_seen : (w : ℕ) (o : Option Spelled) (v : Spelled) → sets (plain R) w (option_seen see o) (seen see v) ≡ called_seen see (sets spelled w o v)
  sets_seen w None v = refl
  sets_seen w (Some old) v = refl

  gets_seen : (w : ℕ) (o : Option Spelled) → gets (plain R) w (option_seen see o) ≡ called_seen see (gets spelled w o)
  gets_seen w None = called_if (w == 7) _ _ _ _ refl refl
  gets_seen w (Some v) = refl

  promise_seen : (o : Option Spelled) (e : Effect Spelled) → leaves (Promise (option_seen see o)) (effect_seen see e) ≡ called_seen see (leaves (Promise o) e)
  promise_seen o e = refl

  on_promise_seen : (w : ℕ) (o : Option Spelled) (r : Request Spelled) → on_promise (plain R) w (option_seen see o) (request_seen see r) ≡ called_seen see (on_promise spelled w o r)
  on_promise_seen w o (Set slot v) = called_if (is_first slot) _ _ _ _ (sets_seen w o v) refl
  on_promise_seen w o (Put v) =
      ap (λ l. if is_number_or_text l then sets (plain R) w (option_seen see o) (seen see v) else wrong (plain R) (Promise (option_seen see o))) (look_seen see v)
      ∙ called_if (is_number_or_text (spelled.look v)) _ _ _ _ (sets_seen w o v) refl
  on_promise_seen w o Get = gets_seen w o
  on_promise_seen w o _ = refl

  -- ---- dataflows

  value_if : (b : Bool) (v u : Spelled) → (if b then seen see v else seen see u) ≡ seen see (if b then v else u)
  value_if true v u = refl
  value_if false v u = refl

  fitted_seen : (xs : List (Given Spelled)) (v : Spelled) → fitted (plain R) (givens_seen see xs) (seen see v) ≡ seen see (fitted spelled xs v)
  fitted_seen xs v =
      ap (λ m. if nat_le (m + size ((plain R).look (seen see v))) 64000 then seen see v else Fault 10) (size_seen see xs)
      ∙ ap (λ l. if nat_le (given_size spelled xs + size l) 64000 then seen see v else Fault 10) (look_seen see v)
      ∙ value_if (nat_le (given_size spelled xs + size (spelled.look v)) 64000) v (SpelledFault 10)

  more_seen : (xs : List (Given Spelled)) (slot : ℕ) (v : Spelled) → givens_seen see xs ++ record { slot = slot; value = seen see v } ∷ [] ≡ givens_seen see (xs ++ record { slot = slot; value = v } ∷ [])
  more_seen [] slot v = refl
  more_seen (x ∷ xs) slot v = ap (λ ys. given_seen see x ∷ ys) (more_seen xs slot v)

  nothing_seen : (o : Option Spelled) → or_nothing (plain R) (option_seen see o) ≡ seen see (or_nothing spelled o)
  nothing_seen None = refl
  nothing_seen (Some v) = refl

  inputs_from_seen : (xs : List (Given Spelled)) (slot n : ℕ) → inputs_from (plain R) (givens_seen see xs) slot n ≡ map (seen see) (inputs_from spelled xs slot n)
  inputs_from_seen xs slot zero = refl
  inputs_from_seen xs slot (suc n) =
      ap (λ o. or_nothing (plain R) o ∷ inputs_from (plain R) (givens_seen see xs) (slot + 1) n) (input_seen see slot xs)
      ∙ ap (λ v. v ∷ inputs_from (plain R) (givens_seen see xs) (slot + 1) n) (nothing_seen (input_of slot xs))
      ∙ ap (λ vs. seen see (or_nothing spelled (input_of slot xs)) ∷ vs) (inputs_from_seen xs (slot + 1) n)

  gives_seen : (w code n : ℕ) (xs : List (Given Spelled)) → gives (plain R) w code n (givens_seen see xs) ≡ called_seen see (gives spelled w code n xs)
  gives_seen w code n xs =
      ap (λ m. if (m == n) && nat_le 1 w then leaves (Started code n) (Hands code (inputs_from (plain R) (givens_seen see xs) 0 n) Nothing) else does (plain R) (Dataflow code n (givens_seen see xs))) (length_givens see xs)
      ∙ called_if ((length xs == n) && nat_le 1 w) _ _ _ _ (ap (λ vs. leaves (Started code n) (Hands code vs Nothing)) (inputs_from_seen xs 0 n)) refl

  free_seen : (w code n : ℕ) (xs : List (Given Spelled)) (slot : ℕ) (v : Spelled) (o : Option Spelled)
      → puts_free (plain R) w code n (givens_seen see xs) slot (seen see v) (option_seen see o) ≡ called_seen see (puts_free spelled w code n xs slot v o)
  free_seen w code n xs slot v (Some old) = refl
  free_seen w code n xs slot v None =
      ap (λ u. gives (plain R) w code n (givens_seen see xs ++ record { slot = slot; value = u } ∷ [])) (fitted_seen xs v)
      ∙ ap (gives (plain R) w code n) (more_seen xs slot (fitted spelled xs v)) ∙ gives_seen w code n (xs ++ record { slot = slot; value = fitted spelled xs v } ∷ [])

  puts_seen : (w code n : ℕ) (xs : List (Given Spelled)) (z : ℤ) (v : Spelled) → puts (plain R) w code n (givens_seen see xs) z (seen see v) ≡ called_seen see (puts spelled w code n xs z v)
  puts_seen w code n xs (negsuc m) v = refl
  puts_seen w code n xs (pos slot) v =
      ap (λ o. if nat_lt slot n then puts_free (plain R) w code n (givens_seen see xs) slot (seen see v) o else refuses (plain R) (Dataflow code n (givens_seen see xs)) 7) (input_seen see slot xs)
      ∙ called_if (nat_lt slot n) _ _ _ _ (free_seen w code n xs slot v (input_of slot xs)) refl

  starts_seen : (w code n : ℕ) (xs : List (Given Spelled)) → starts (plain R) w code n (givens_seen see xs) ≡ called_seen see (starts spelled w code n xs)
  starts_seen w code n xs =
      ap (λ m. if nat_le 1 w then refuses (plain R) (Dataflow code n (givens_seen see xs)) 9 else if m == n then leaves (Started code n) (Starts code (inputs_from (plain R) (givens_seen see xs) 0 n)) else leaves (Dataflow code n (givens_seen see xs)) Waits) (length_givens see xs)
      ∙ called_if (nat_le 1 w) _ _ _ _ refl (called_if (length xs == n) _ _ _ _ (ap (λ vs. leaves (Started code n) (Starts code vs)) (inputs_from_seen xs 0 n)) refl)

  on_dataflow_seen : (w code n : ℕ) (xs : List (Given Spelled)) (r : Request Spelled)
      → on_dataflow (plain R) w code n (givens_seen see xs) (request_seen see r) ≡ called_seen see (on_dataflow spelled w code n xs r)
  on_dataflow_seen w code n xs (Set z v) = puts_seen w code n xs z v
  on_dataflow_seen w code n xs (PutAt z v) = puts_seen w code n xs z v
  on_dataflow_seen w code n xs Get = starts_seen w code n xs
  on_dataflow_seen w code n xs _ = refl

  late_seen : (code n : ℕ) (z : ℤ) → puts_late (plain R) code n z ≡ called_seen see (puts_late spelled code n z)
  late_seen code n (pos slot) = refl
  late_seen code n (negsuc m) = refl

  on_started_seen : (code n : ℕ) (r : Request Spelled) → on_started (plain R) code n (request_seen see r) ≡ called_seen see (on_started spelled code n r)
  on_started_seen code n (Set z v) = late_seen code n z
  on_started_seen code n (PutAt z v) = late_seen code n z
  on_started_seen code n _ = refl

  -- ---- channels

  sends_seen : (w : ℕ) (closed : Bool) (vs : List Spelled) (v : Spelled) → sends (plain R) w closed (map (seen see) vs) (seen see v) ≡ called_seen see (sends spelled w closed vs v)
  sends_seen w true vs v = refl
  sends_seen zero false vs v =
      ap (λ m. if m == 1000 then refuses (plain R) (Channel false (map (seen see) vs)) 10 else does (plain R) (Channel false (map (seen see) vs ++ seen see v ∷ []))) (length-map vs (seen see))
      ∙ called_if (length vs == 1000) _ _ _ _ refl (ap (λ us. does (plain R) (Channel false us)) (sym (map-append (seen see) vs (v ∷ []))))
  sends_seen (suc w) false vs v = refl

  small_seen : (w : ℕ) (closed : Bool) (vs : List Spelled) (v : Spelled) → sends_small (plain R) w closed (map (seen see) vs) (seen see v) ≡ called_seen see (sends_small spelled w closed vs v)
  small_seen w closed vs v =
      ap (λ l. if is_small l then sends (plain R) w closed (map (seen see) vs) (seen see v) else wrong (plain R) (Channel closed (map (seen see) vs))) (look_seen see v)
      ∙ called_if (is_small (spelled.look v)) _ _ _ _ (sends_seen w closed vs v) refl

  receives_seen : (w : ℕ) (closed : Bool) (vs : List Spelled) → receives (plain R) w closed (map (seen see) vs) ≡ called_seen see (receives spelled w closed vs)
  receives_seen w closed (v ∷ vs) = refl
  receives_seen w true [] = refl
  receives_seen w false [] = called_if (w == 100) _ _ _ _ refl refl

  closes_seen : (w : ℕ) (closed : Bool) (vs : List Spelled) → closes (plain R) w closed (map (seen see) vs) ≡ called_seen see (closes spelled w closed vs)
  closes_seen w true vs = refl
  closes_seen w false vs = refl

  on_channel_seen : (w : ℕ) (closed : Bool) (vs : List Spelled) (r : Request Spelled)
      → on_channel (plain R) w closed (map (seen see) vs) (request_seen see r) ≡ called_seen see (on_channel spelled w closed vs r)
  on_channel_seen w closed vs (Set slot v) = called_if (is_first slot) _ _ _ _ (small_seen w closed vs v) refl
  on_channel_seen w closed vs (Put v) = small_seen w closed vs v
  on_channel_seen w closed vs Get = receives_seen w closed vs
  on_channel_seen w closed vs Close = closes_seen w closed vs
  on_channel_seen w closed vs _ = refl

  -- ---- latches and barriers

  on_latch_seen : (w left : ℕ) (r : Request Spelled) → on_latch (plain R) w left (request_seen see r) ≡ called_seen see (on_latch spelled w left r)
  on_latch_seen w left Down = called_if (left == 0) _ _ _ _ refl (called_if (left == 1) _ _ _ _ refl refl)
  on_latch_seen w left Wait = called_if (left == 0) _ _ _ _ refl (called_if (w == 100) _ _ _ _ refl refl)
  on_latch_seen w left _ = refl

  on_barrier_seen : (w n : ℕ) (r : Request Spelled) → on_barrier (plain R) w n (request_seen see r) ≡ called_seen see (on_barrier spelled w n r)
  on_barrier_seen w n Arrive = called_if (w + 1 == n) _ _ _ _ refl refl
  on_barrier_seen w n _ = refl

  -- ---- every content

  on_content_seen : (w : ℕ) (x : Content Spelled) (r : Request Spelled) → on_content (plain R) w (content_seen see x) (request_seen see r) ≡ called_seen see (on_content spelled w x r)
  on_content_seen w (Table pairs) r = on_table_seen pairs r
  on_content_seen w Maker r = on_maker_seen r
  on_content_seen w (Size n) r = on_size_seen n r
  on_content_seen w (Number z) r = on_number_seen z r
  on_content_seen w (Row numbers) r = on_row_seen numbers r
  on_content_seen w (Promise value) r = on_promise_seen w value r
  on_content_seen w (Dataflow code inputs given) r = on_dataflow_seen w code inputs given r
  on_content_seen w (Started code inputs) r = on_started_seen code inputs r
  on_content_seen w (Channel closed kept) r = on_channel_seen w closed kept r
  on_content_seen w (Latch left) r = on_latch_seen w left r
  on_content_seen w (Barrier n) r = on_barrier_seen w n r
  on_content_seen w (Unreadable values) r = refl

  on_object_seen : (here kind w : ℕ) (x : Content Spelled) (r : Request Spelled)
      → on_object (plain R) here kind w (content_seen see x) (request_seen see r) ≡ called_seen see (on_object spelled here kind w x r)
  on_object_seen here kind w x Where = called_if (nat_le 16 kind) _ _ _ _ refl refl
  on_object_seen here kind w x (Move to) = called_if (is_movable kind) _ _ _ _ refl refl
  on_object_seen here kind w x (Set slot v) = on_content_seen w x (Set slot v)
  on_object_seen here kind w x (New name vs) = on_content_seen w x (New name vs)
  on_object_seen here kind w x (Register key to) = on_content_seen w x (Register key to)
  on_object_seen here kind w x (Resolve key) = on_content_seen w x (Resolve key)
  on_object_seen here kind w x (Unregister key) = on_content_seen w x (Unregister key)
  on_object_seen here kind w x Keys = on_content_seen w x Keys
  on_object_seen here kind w x Count = on_content_seen w x Count
  on_object_seen here kind w x (Add z) = on_content_seen w x (Add z)
  on_object_seen here kind w x Query = on_content_seen w x Query
  on_object_seen here kind w x Reset = on_content_seen w x Reset
  on_object_seen here kind w x (Step left right) = on_content_seen w x (Step left right)
  on_object_seen here kind w x Get = on_content_seen w x Get
  on_object_seen here kind w x (Put v) = on_content_seen w x (Put v)
  on_object_seen here kind w x (PutAt slot v) = on_content_seen w x (PutAt slot v)
  on_object_seen here kind w x Close = on_content_seen w x Close
  on_object_seen here kind w x Down = on_content_seen w x Down
  on_object_seen here kind w x Wait = on_content_seen w x Wait
  on_object_seen here kind w x Arrive = on_content_seen w x Arrive
  on_object_seen here kind w x Other = on_content_seen w x Other

  awaits_seen : (r : Request Spelled) → awaits (request_seen see r) ≡ awaits r
  awaits_seen Get = refl
  awaits_seen Wait = refl
  awaits_seen Arrive = refl
  awaits_seen _ = refl

  pub called_is_seen : (here kind w : ℕ) (b : Bool) (x : Content Spelled) (r : Request Spelled)
      → called (plain R) here kind w b (content_seen see x) (request_seen see r) ≡ called_seen see (called spelled here kind w b x r)
  called_is_seen here kind w true x r = on_object_seen here kind w x r
  called_is_seen here kind w false x r =
      ap (λ (b : Bool). if b then leaves (content_seen see x) Silent else on_object (plain R) here kind w (content_seen see x) (request_seen see r)) (awaits_seen r)
      ∙ called_if (awaits r) _ _ _ _ refl (on_object_seen here kind w x r)

  -- ---- what is asked

  request_if : (b : Bool) (x' y' : Request (Value R)) (x y : Request Spelled) → x' ≡ request_seen see x → y' ≡ request_seen see y → (if b then x' else y') ≡ request_seen see (if b then x else y)
  request_if true x' y' x y p q = p
  request_if false x' y' x y p q = q

  asks_bare_seen : (code : ℕ) → asks_bare code ≡ request_seen see (asks_bare code)
  asks_bare_seen code =
      request_if (code == 2) _ _ _ _ refl (request_if (code == 9) _ _ _ _ refl (request_if (code == 10) _ _ _ _ refl (request_if (code == 17) _ _ _ _ refl
      (request_if (code == 18) _ _ _ _ refl (request_if (code == 32) _ _ _ _ refl (request_if (code == 34) _ _ _ _ refl (request_if (code == 35) _ _ _ _ refl
      (request_if (code == 36) _ _ _ _ refl (request_if (code == 37) _ _ _ _ refl refl)))))))))

  asks_move_seen : (z : ℤ) → asks_move z ≡ request_seen see (asks_move z)
  asks_move_seen (pos to) = request_if (nat_le to 63) _ _ _ _ refl refl
  asks_move_seen (negsuc m) = refl

  asks_one_seen : (code : ℕ) (l : Look) → asks_one code l ≡ request_seen see (asks_one code l)
  asks_one_seen code (Int z) = request_if (code == 1) _ _ _ _ (asks_move_seen z) (request_if (code == 16) _ _ _ _ refl refl)
  asks_one_seen code (Text t) = request_if (code == 5) _ _ _ _ refl (request_if (code == 7) _ _ _ _ refl (request_if (code == 8) _ _ _ _ refl refl))
  asks_one_seen code _ = refl

  asks_register_seen : (key : List ℕ) (v : Spelled) (l : Look) → asks_register key (seen see v) l ≡ request_seen see (asks_register key v l)
  asks_register_seen key v (Ref r) = request_if (is_key key) _ _ _ _ refl refl
  asks_register_seen key v _ = refl

  asks_step_seen : (z : ℤ) (l : Look) → asks_step z l ≡ request_seen see (asks_step z l)
  asks_step_seen z (Int y) = refl
  asks_step_seen z _ = refl

  asks_two_seen : (code : ℕ) (b : Bool) (l : Look) (v : Spelled) → asks_two (plain R) code b l (seen see v) ≡ request_seen see (asks_two spelled code b l v)
  asks_two_seen code b (Int z) v =
      request_if (code == 3) _ _ _ _ (request_if b _ _ _ _ refl refl)
      (request_if (code == 19) _ _ _ _ (ap (asks_step z) (look_seen see v) ∙ asks_step_seen z (spelled.look v)) (request_if (code == 33) _ _ _ _ refl refl))
  asks_two_seen code b (Text t) v =
      request_if (code == 5) _ _ _ _ refl (request_if (code == 6) _ _ _ _ (ap (asks_register t (seen see v)) (look_seen see v) ∙ asks_register_seen t v (spelled.look v)) refl)
  asks_two_seen code b _ v = refl

  asks_many_seen : (code : ℕ) (l : Look) (vs : List Spelled) → asks_many code l (map (seen see) vs) ≡ request_seen see (asks_many code l vs)
  asks_many_seen code (Text t) vs = request_if (code == 5) _ _ _ _ refl refl
  asks_many_seen code _ vs = refl

  pub request_is_seen : (code : ℕ) (b : Bool) (vs : List Spelled) → request_of (plain R) code b (map (seen see) vs) ≡ request_seen see (request_of spelled code b vs)
  request_is_seen code b [] = asks_bare_seen code
  request_is_seen code b (v ∷ []) =
      request_if (code == 33) _ _ _ _ refl (ap (asks_one code) (look_seen see v) ∙ asks_one_seen code (spelled.look v))
  request_is_seen code b (v ∷ w ∷ []) =
      ap (λ l. asks_two (plain R) code b l (seen see w)) (look_seen see v) ∙ asks_two_seen code b (spelled.look v) w
  request_is_seen code b (v ∷ w ∷ x ∷ vs) =
      ap (λ l. asks_many code l (map (seen see) (w ∷ x ∷ vs))) (look_seen see v) ∙ asks_many_seen code (spelled.look v) (w ∷ x ∷ vs)
