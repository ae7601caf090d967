-- The tables do not look at what values refer to: seen in their stead, they do the same.
use Rattle.std.specs.Prelude.{ℕ, suc, pos, negsuc, Bool, true, false, nat_le, nat_lt, List, [], ◌∷◌, ◌+◌, ◌≡◌, ◌==◌, ◌&&◌, ◌||◌, Option, Some, None, length, map, refl, if◌then◌else◌}
use Rattle.std.proofs.Common.{ap, ◌∙◌}
use Rattle.std.specs.List.{list_all}
use Rattle.std.proofs.lemmas.List.{length-map}
use Rattle.hpx_value.specs.declared.value.Value.{Value as Spelled}
use Rattle.hpx_value.specs.declared.value.Value.TheVariants.{Unit as SpelledUnit, Flag as SpelledFlag, Int as SpelledInt, Text as SpelledText, Ref as SpelledRef, Fault as SpelledFault, Ints as SpelledInts}
use Rattle.hpx_calls.specs.Values.{Value, Nothing, Flag, Int, Text, Ref, Ints, Look, plain, spelled, seen, size, is_small}
use Rattle.hpx_calls.specs.Requests.{Request, Move, Where, Set, New, Register, Resolve, Unregister, Keys, Count, Add, Query, Reset, Step, Get, Put, PutAt, Close, Down, Wait, Arrive, Other, is_key}
use Rattle.hpx_calls.specs.Contents.{Pair, Given, Content, Table, Maker, Size, Number, Row, Promise, Dataflow, Started, Channel, Latch, Barrier, Unreadable, layout, pairs_out, given_out, precedes, rises_from, rises, is_table, given_size, input_of, is_none, room_after, are_fitted, are_inputs, is_given, is_channel, is_latch, is_dataflow, provided, both, pair_by, pair_of, pairs_in, count_in, given_at, given_by, given_of, given_in, table_in, size_in, number_in, row_in, latch_at, latch_in, barrier_at, barrier_in, channel_in, inputs_in, started_in, flow_in, dataflow_at, dataflow_in, of_one, of_first, of_two, promise_in, maker_in, resting_in, control_in, or_unreadable, content_of}
use Rattle.hpx_calls.specs.Effects.{Effect, Silent, Answers, Waits, Frees, Starts, Hands, Moves, Makes, Called}

module _ {R : Type 0} (see : ℕ → R) where
  -- ---- values, contents, requests and effects, seen

  abbrev pub option_seen : Option Spelled → Option (Value R)
  option_seen None = None
  option_seen (Some v) = Some (seen see v)

  abbrev pub pair_seen : Pair Spelled → Pair (Value R)
  pair_seen x = record { key = x.key; to = seen see x.to }

  abbrev pub pairs_seen : List (Pair Spelled) → List (Pair (Value R))
  pairs_seen [] = []
  pairs_seen (x ∷ xs) = pair_seen x ∷ pairs_seen xs

  abbrev pub given_seen : Given Spelled → Given (Value R)
  given_seen x = record { slot = x.slot; value = seen see x.value }

  abbrev pub givens_seen : List (Given Spelled) → List (Given (Value R))
  givens_seen [] = []
  givens_seen (x ∷ xs) = given_seen x ∷ givens_seen xs

  abbrev pub content_seen : Content Spelled → Content (Value R)
  content_seen (Table pairs) = Table (pairs_seen pairs)
  content_seen Maker = Maker
  content_seen (Size n) = Size n
  content_seen (Number z) = Number z
  content_seen (Row numbers) = Row numbers
  content_seen (Promise value) = Promise (option_seen value)
  content_seen (Dataflow code inputs given) = Dataflow code inputs (givens_seen given)
  content_seen (Started code inputs) = Started code inputs
  content_seen (Channel closed kept) = Channel closed (map (seen see) kept)
  content_seen (Latch left) = Latch left
  content_seen (Barrier n) = Barrier n
  content_seen (Unreadable values) = Unreadable (map (seen see) values)

  abbrev pub request_seen : Request Spelled → Request (Value R)
  request_seen (Move to) = Move to
  request_seen Where = Where
  request_seen (Set slot v) = Set slot (seen see v)
  request_seen (New name vs) = New name (map (seen see) vs)
  request_seen (Register key to) = Register key (seen see to)
  request_seen (Resolve key) = Resolve key
  request_seen (Unregister key) = Unregister key
  request_seen Keys = Keys
  request_seen Count = Count
  request_seen (Add z) = Add z
  request_seen Query = Query
  request_seen Reset = Reset
  request_seen (Step left right) = Step left right
  request_seen Get = Get
  request_seen (Put v) = Put (seen see v)
  request_seen (PutAt slot v) = PutAt slot (seen see v)
  request_seen Close = Close
  request_seen Down = Down
  request_seen Wait = Wait
  request_seen Arrive = Arrive
  request_seen Other = Other

  abbrev pub effect_seen : Effect Spelled → Effect (Value R)
  effect_seen Silent = Silent
  effect_seen (Answers v) = Answers (seen see v)
  effect_seen Waits = Waits
  effect_seen (Frees count v own) = Frees count (seen see v) (seen see own)
  effect_seen (Starts code args) = Starts code (map (seen see) args)
  effect_seen (Hands code args own) = Hands code (map (seen see) args) (seen see own)
  effect_seen (Moves to) = Moves to
  effect_seen (Makes x) = Makes (content_seen x)

  abbrev pub called_seen : Called Spelled → Called (Value R)
  called_seen c = record { content = content_seen c.content; effect = effect_seen c.effect }

  -- ---- how values look

  pub look_seen : (v : Spelled) → (plain R).look (seen see v) ≡ spelled.look v
  look_seen SpelledUnit = refl
  look_seen (SpelledFlag b) = refl
  look_seen (SpelledInt z) = refl
  look_seen (SpelledText t) = refl
  look_seen (SpelledRef p) = refl
  look_seen (SpelledFault c) = refl
  look_seen (SpelledInts zs) = refl

  -- ---- layouts

  pub pairs_laid : (xs : List (Pair Spelled)) → pairs_out (plain R) (pairs_seen xs) ≡ map (seen see) (pairs_out spelled xs)
  pairs_laid [] = refl
  pairs_laid (x ∷ xs) = ap (λ vs. Text x.key ∷ seen see x.to ∷ vs) (pairs_laid xs)

  pub given_laid : (xs : List (Given Spelled)) → given_out (plain R) (givens_seen xs) ≡ map (seen see) (given_out spelled xs)
  given_laid [] = refl
  given_laid (x ∷ xs) = ap (λ vs. Int (pos x.slot) ∷ seen see x.value ∷ vs) (given_laid xs)

  pub laid_seen : (x : Content Spelled) → layout (plain R) (content_seen x) ≡ map (seen see) (layout spelled x)
  laid_seen (Table pairs) = pairs_laid pairs
  laid_seen Maker = refl
  laid_seen (Size n) = refl
  laid_seen (Number z) = refl
  laid_seen (Row numbers) = refl
  laid_seen (Promise None) = refl
  laid_seen (Promise (Some v)) = refl
  laid_seen (Dataflow code inputs given) = ap (λ vs. Int (pos code) ∷ Int (pos inputs) ∷ vs) (given_laid given)
  laid_seen (Started code inputs) = refl
  laid_seen (Channel closed kept) = refl
  laid_seen (Latch left) = refl
  laid_seen (Barrier n) = refl
  laid_seen (Unreadable values) = refl

  -- ---- what values show

  abbrev pub maybe_seen : Option (Content Spelled) → Option (Content (Value R))
  maybe_seen None = None
  maybe_seen (Some x) = Some (content_seen x)

  pub provided_seen : (b : Bool) (x : Content Spelled) → provided b (content_seen x) ≡ maybe_seen (provided b x)
  provided_seen true x = refl
  provided_seen false x = refl

  pub maybe_if : (b : Bool) (x' y' : Option (Content (Value R))) (x y : Option (Content Spelled)) → x' ≡ maybe_seen x → y' ≡ maybe_seen y
      → (if b then x' else y') ≡ maybe_seen (if b then x else y)
  maybe_if true x' y' x y p q = p
  maybe_if false x' y' x y p q = q

  -- tables
  pub length_pairs : (xs : List (Pair Spelled)) → length (pairs_seen xs) ≡ length xs
  length_pairs [] = refl
  length_pairs (x ∷ xs) = ap suc (length_pairs xs)

  pub keyed_seen : (xs : List (Pair Spelled)) → list_all (λ (x : Pair (Value R)). is_key x.key) (pairs_seen xs) ≡ list_all (λ (x : Pair Spelled). is_key x.key) xs
  keyed_seen [] = refl
  keyed_seen (x ∷ xs) = ap (λ b. is_key x.key && b) (keyed_seen xs)

  pub rises_seen : (key : List ℕ) (xs : List (Pair Spelled)) → rises_from key (pairs_seen xs) ≡ rises_from key xs
  rises_seen key [] = refl
  rises_seen key (x ∷ xs) = ap (λ b. precedes key x.key && b) (rises_seen x.key xs)

  pub is_table_seen : (xs : List (Pair Spelled)) → is_table (pairs_seen xs) ≡ is_table xs
  is_table_seen xs =
      ap (λ m. nat_le m 100 && (list_all (λ (x : Pair (Value R)). is_key x.key) (pairs_seen xs) && rises (pairs_seen xs))) (length_pairs xs)
      ∙ ap (λ b. nat_le (length xs) 100 && (b && rises (pairs_seen xs))) (keyed_seen xs)
      ∙ ap (λ b. nat_le (length xs) 100 && (list_all (λ (x : Pair Spelled). is_key x.key) xs && b)) (rises_seen [] xs)

  abbrev pub maybe_pair : Option (Pair Spelled) → Option (Pair (Value R))
  maybe_pair None = None
  maybe_pair (Some x) = Some (pair_seen x)

  abbrev pub maybe_pairs : Option (List (Pair Spelled)) → Option (List (Pair (Value R)))
  maybe_pairs None = None
  maybe_pairs (Some xs) = Some (pairs_seen xs)

  pub pair_by_seen : (a b : Look) (v : Spelled) → pair_by a b (seen see v) ≡ maybe_pair (pair_by a b v)
  pair_by_seen (Text key) (Ref r) v = refl
  pair_by_seen _ _ v = refl

  pub pair_of_seen : (v w : Spelled) → pair_of (plain R) (seen see v) (seen see w) ≡ maybe_pair (pair_of spelled v w)
  pair_of_seen v w =
      ap (λ l. pair_by l ((plain R).look (seen see w)) (seen see w)) (look_seen v) ∙ ap (λ l. pair_by (spelled.look v) l (seen see w)) (look_seen w)
      ∙ pair_by_seen (spelled.look v) (spelled.look w) w

  pub both_pairs : (o : Option (Pair Spelled)) (p : Option (List (Pair Spelled))) → both (maybe_pair o) (maybe_pairs p) ≡ maybe_pairs (both o p)
  both_pairs None p = refl
  both_pairs (Some x) None = refl
  both_pairs (Some x) (Some xs) = refl

  pub pairs_in_seen : (vs : List Spelled) → pairs_in (plain R) (map (seen see) vs) ≡ maybe_pairs (pairs_in spelled vs)
  pairs_in_seen [] = refl
  pairs_in_seen (v ∷ []) = refl
  pairs_in_seen (v ∷ w ∷ vs) =
      ap (λ o. both o (pairs_in (plain R) (map (seen see) vs))) (pair_of_seen v w) ∙ ap (both (maybe_pair (pair_of spelled v w))) (pairs_in_seen vs)
      ∙ both_pairs (pair_of spelled v w) (pairs_in spelled vs)

  pub table_in_seen : (o : Option (List (Pair Spelled))) → table_in (maybe_pairs o) ≡ maybe_seen (table_in o)
  table_in_seen None = refl
  table_in_seen (Some xs) = ap (λ b. provided b (Table (pairs_seen xs))) (is_table_seen xs) ∙ provided_seen (is_table xs) (Table xs)

  -- dataflows
  pub length_givens : (xs : List (Given Spelled)) → length (givens_seen xs) ≡ length xs
  length_givens [] = refl
  length_givens (x ∷ xs) = ap suc (length_givens xs)

  pub size_seen : (xs : List (Given Spelled)) → given_size (plain R) (givens_seen xs) ≡ given_size spelled xs
  size_seen [] = refl
  size_seen (x ∷ xs) = ap (λ l. size l + given_size (plain R) (givens_seen xs)) (look_seen x.value) ∙ ap (λ m. size (spelled.look x.value) + m) (size_seen xs)

  pub option_if : (b : Bool) (v : Spelled) (o : Option Spelled) → (if b then Some (seen see v) else option_seen o) ≡ option_seen (if b then Some v else o)
  option_if true v o = refl
  option_if false v o = refl

  pub input_seen : (slot : ℕ) (xs : List (Given Spelled)) → input_of slot (givens_seen xs) ≡ option_seen (input_of slot xs)
  input_seen slot [] = refl
  input_seen slot (x ∷ xs) =
      ap (λ o. if x.slot == slot then Some (seen see x.value) else o) (input_seen slot xs) ∙ option_if (x.slot == slot) x.value (input_of slot xs)

  pub none_seen : (o : Option Spelled) → is_none (option_seen o) ≡ is_none o
  none_seen None = refl
  none_seen (Some v) = refl

  pub inputs_seen : (n : ℕ) (xs : List (Given Spelled)) → are_inputs n (givens_seen xs) ≡ are_inputs n xs
  inputs_seen n [] = refl
  inputs_seen n (x ∷ xs) =
      ap (λ o. nat_lt x.slot n && (is_none o && are_inputs n (givens_seen xs))) (input_seen x.slot xs)
      ∙ ap (λ b. nat_lt x.slot n && (b && are_inputs n (givens_seen xs))) (none_seen (input_of x.slot xs))
      ∙ ap (λ b. nat_lt x.slot n && (is_none (input_of x.slot xs) && b)) (inputs_seen n xs)

  pub fitted_seen : (o : Option ℕ) (xs : List (Given Spelled)) → are_fitted (plain R) o (givens_seen xs) ≡ are_fitted spelled o xs
  fitted_seen None xs = refl
  fitted_seen (Some room) [] = refl
  fitted_seen (Some room) (x ∷ xs) =
      ap (λ l. are_fitted (plain R) (room_after room l) (givens_seen xs)) (look_seen x.value) ∙ fitted_seen (room_after room (spelled.look x.value)) xs

  pub is_given_seen : (w n : ℕ) (xs : List (Given Spelled)) → is_given (plain R) w n (givens_seen xs) ≡ is_given spelled w n xs
  is_given_seen w n xs =
      ap (λ m. are_inputs n (givens_seen xs) && (are_fitted (plain R) (Some 64000) (givens_seen xs) && (nat_le m n && (nat_le w 1 && ((w == 0) || nat_lt m n))))) (length_givens xs)
      ∙ ap (λ b. b && (are_fitted (plain R) (Some 64000) (givens_seen xs) && (nat_le (length xs) n && (nat_le w 1 && ((w == 0) || nat_lt (length xs) n))))) (inputs_seen n xs)
      ∙ ap (λ b. are_inputs n xs && (b && (nat_le (length xs) n && (nat_le w 1 && ((w == 0) || nat_lt (length xs) n))))) (fitted_seen (Some 64000) xs)

  abbrev pub maybe_given : Option (Given Spelled) → Option (Given (Value R))
  maybe_given None = None
  maybe_given (Some x) = Some (given_seen x)

  abbrev pub maybe_givens : Option (List (Given Spelled)) → Option (List (Given (Value R)))
  maybe_givens None = None
  maybe_givens (Some xs) = Some (givens_seen xs)

  pub given_at_seen : (o : Option ℕ) (v : Spelled) → given_at o (seen see v) ≡ maybe_given (given_at o v)
  given_at_seen None v = refl
  given_at_seen (Some slot) v = refl

  pub given_by_seen : (l : Look) (v : Spelled) → given_by l (seen see v) ≡ maybe_given (given_by l v)
  given_by_seen (Int z) v = given_at_seen (count_in 15 z) v
  given_by_seen _ v = refl

  pub given_of_seen : (v w : Spelled) → given_of (plain R) (seen see v) (seen see w) ≡ maybe_given (given_of spelled v w)
  given_of_seen v w = ap (λ l. given_by l (seen see w)) (look_seen v) ∙ given_by_seen (spelled.look v) w

  pub both_givens : (o : Option (Given Spelled)) (p : Option (List (Given Spelled))) → both (maybe_given o) (maybe_givens p) ≡ maybe_givens (both o p)
  both_givens None p = refl
  both_givens (Some x) None = refl
  both_givens (Some x) (Some xs) = refl

  pub given_in_seen : (vs : List Spelled) → given_in (plain R) (map (seen see) vs) ≡ maybe_givens (given_in spelled vs)
  given_in_seen [] = refl
  given_in_seen (v ∷ []) = refl
  given_in_seen (v ∷ w ∷ vs) =
      ap (λ o. both o (given_in (plain R) (map (seen see) vs))) (given_of_seen v w) ∙ ap (both (maybe_given (given_of spelled v w))) (given_in_seen vs)
      ∙ both_givens (given_of spelled v w) (given_in spelled vs)

  pub inputs_in_seen : (w code n : ℕ) (o : Option (List (Given Spelled))) → inputs_in (plain R) w code n (maybe_givens o) ≡ maybe_seen (inputs_in spelled w code n o)
  inputs_in_seen w code n None = refl
  inputs_in_seen w code n (Some xs) =
      ap (λ b. provided b (Dataflow code n (givens_seen xs))) (is_given_seen w n xs) ∙ provided_seen (is_given spelled w n xs) (Dataflow code n xs)

  pub started_seen : (w code n : ℕ) (l : Look) → started_in w code n l ≡ maybe_seen (started_in w code n l)
  started_seen w code n Nothing = provided_seen (w == 0) (Started code n)
  started_seen w code n _ = refl

  pub flow_in_seen : (w code n : ℕ) (vs : List Spelled) → flow_in (plain R) w code n (map (seen see) vs) ≡ maybe_seen (flow_in spelled w code n vs)
  flow_in_seen w code n [] = inputs_in_seen w code n (Some [])
  flow_in_seen w code n (v ∷ []) = ap (started_in w code n) (look_seen v) ∙ started_seen w code n (spelled.look v)
  flow_in_seen w code n (v ∷ u ∷ vs) =
      ap (inputs_in (plain R) w code n) (given_in_seen (v ∷ u ∷ vs)) ∙ inputs_in_seen w code n (given_in spelled (v ∷ u ∷ vs))

  pub flow_at_seen : (w : ℕ) (a b : Option ℕ) (vs : List Spelled) → dataflow_at (plain R) w a b (map (seen see) vs) ≡ maybe_seen (dataflow_at spelled w a b vs)
  flow_at_seen w (Some code) (Some n) vs = maybe_if (is_dataflow code n) _ _ _ _ (flow_in_seen w code n vs) refl
  flow_at_seen w (Some code) None vs = refl
  flow_at_seen w None b vs = refl

  pub dataflow_in_seen : (w : ℕ) (a b : Look) (vs : List Spelled) → dataflow_in (plain R) w a b (map (seen see) vs) ≡ maybe_seen (dataflow_in spelled w a b vs)
  dataflow_in_seen w (Int x) (Int y) vs = flow_at_seen w (count_in 65535 x) (count_in 16 y) vs
  dataflow_in_seen w _ _ vs = refl

  pub of_two_seen : (w : ℕ) (vs : List Spelled) → of_two (plain R) (dataflow_in (plain R) w) (map (seen see) vs) ≡ maybe_seen (of_two spelled (dataflow_in spelled w) vs)
  of_two_seen w [] = refl
  of_two_seen w (v ∷ []) = refl
  of_two_seen w (v ∷ u ∷ vs) =
      ap (λ l. dataflow_in (plain R) w l ((plain R).look (seen see u)) (map (seen see) vs)) (look_seen v)
      ∙ ap (λ l. dataflow_in (plain R) w (spelled.look v) l (map (seen see) vs)) (look_seen u) ∙ dataflow_in_seen w (spelled.look v) (spelled.look u) vs

  -- channels
  pub smalls_seen : (vs : List Spelled) → list_all (λ v. is_small ((plain R).look v)) (map (seen see) vs) ≡ list_all (λ v. is_small (spelled.look v)) vs
  smalls_seen [] = refl
  smalls_seen (v ∷ vs) =
      ap (λ l. is_small l && list_all (λ u. is_small ((plain R).look u)) (map (seen see) vs)) (look_seen v) ∙ ap (λ b. is_small (spelled.look v) && b) (smalls_seen vs)

  pub is_channel_seen : (w : ℕ) (closed : Bool) (vs : List Spelled) → is_channel (plain R) w closed (map (seen see) vs) ≡ is_channel spelled w closed vs
  is_channel_seen w closed vs =
      ap (λ m. nat_le w 100 && (nat_le m 1000 && (list_all (λ v. is_small ((plain R).look v)) (map (seen see) vs) && ((w == 0) || (if closed then false else m == 0))))) (length-map vs (seen see))
      ∙ ap (λ b. nat_le w 100 && (nat_le (length vs) 1000 && (b && ((w == 0) || (if closed then false else length vs == 0))))) (smalls_seen vs)

  pub channel_in_seen : (w : ℕ) (l : Look) (vs : List Spelled) → channel_in (plain R) w l (map (seen see) vs) ≡ maybe_seen (channel_in spelled w l vs)
  channel_in_seen w (Flag closed) vs =
      ap (λ b. provided b (Channel closed (map (seen see) vs))) (is_channel_seen w closed vs) ∙ provided_seen (is_channel spelled w closed vs) (Channel closed vs)
  channel_in_seen w _ vs = refl

  pub of_first_seen : (w : ℕ) (vs : List Spelled) → of_first (plain R) (channel_in (plain R) w) (map (seen see) vs) ≡ maybe_seen (of_first spelled (channel_in spelled w) vs)
  of_first_seen w [] = refl
  of_first_seen w (v ∷ vs) = ap (λ l. channel_in (plain R) w l (map (seen see) vs)) (look_seen v) ∙ channel_in_seen w (spelled.look v) vs

  -- numbers
  pub latch_at_seen : (w : ℕ) (o : Option ℕ) → latch_at w o ≡ maybe_seen (latch_at w o)
  latch_at_seen w None = refl
  latch_at_seen w (Some left) = provided_seen (is_latch w left) (Latch left)

  pub latch_in_seen : (w : ℕ) (l : Look) → latch_in w l ≡ maybe_seen (latch_in w l)
  latch_in_seen w (Int z) = latch_at_seen w (count_in 1000000 z)
  latch_in_seen w _ = refl

  pub barrier_at_seen : (w : ℕ) (o : Option ℕ) → barrier_at w o ≡ maybe_seen (barrier_at w o)
  barrier_at_seen w None = refl
  barrier_at_seen w (Some n) = provided_seen (nat_lt w n) (Barrier n)

  pub barrier_in_seen : (w : ℕ) (l : Look) → barrier_in w l ≡ maybe_seen (barrier_in w l)
  barrier_in_seen w (Int z) = barrier_at_seen w (count_in 100 z)
  barrier_in_seen w _ = refl

  pub size_in_seen : (n : ℕ) (l : Look) → size_in n l ≡ maybe_seen (size_in n l)
  size_in_seen n (Int (pos m)) = provided_seen (m == n) (Size m)
  size_in_seen n (Int (negsuc m)) = refl
  size_in_seen n _ = refl

  pub number_in_seen : (l : Look) → number_in l ≡ maybe_seen (number_in l)
  number_in_seen (Int z) = refl
  number_in_seen _ = refl

  pub row_in_seen : (l : Look) → row_in l ≡ maybe_seen (row_in l)
  row_in_seen (Ints zs) = provided_seen (nat_le 1 (length zs) && nat_le (length zs) 1024) (Row zs)
  row_in_seen _ = refl

  pub of_one_seen : (f : Look → Option (Content (Value R))) (g : Look → Option (Content Spelled)) (vs : List Spelled) → ((l : Look) → f l ≡ maybe_seen (g l))
      → of_one (plain R) f (map (seen see) vs) ≡ maybe_seen (of_one spelled g vs)
  of_one_seen f g [] h = refl
  of_one_seen f g (v ∷ []) h = ap f (look_seen v) ∙ h (spelled.look v)
  of_one_seen f g (v ∷ u ∷ vs) h = refl

  pub promise_in_seen : (w : ℕ) (vs : List Spelled) → promise_in w (map (seen see) vs) ≡ maybe_seen (promise_in w vs)
  promise_in_seen w [] = provided_seen (nat_le w 7) (Promise None)
  promise_in_seen w (v ∷ []) = provided_seen (w == 0) (Promise (Some v))
  promise_in_seen w (v ∷ u ∷ vs) = refl

  pub maker_in_seen : (vs : List Spelled) → maker_in (map (seen see) vs) ≡ maybe_seen (maker_in vs)
  maker_in_seen [] = refl
  maker_in_seen (v ∷ vs) = refl

  pub control_in_seen : (kind w : ℕ) (vs : List Spelled) → control_in (plain R) kind w (map (seen see) vs) ≡ maybe_seen (control_in spelled kind w vs)
  control_in_seen kind w vs =
      maybe_if (kind == 32) _ _ _ _ (promise_in_seen w vs) (maybe_if (kind == 33) _ _ _ _ (of_two_seen w vs) (maybe_if (kind == 34) _ _ _ _ (of_first_seen w vs)
      (maybe_if (kind == 35) _ _ _ _ (of_one_seen (latch_in w) (latch_in w) vs (latch_in_seen w))
      (maybe_if (kind == 36) _ _ _ _ (of_one_seen (barrier_in w) (barrier_in w) vs (barrier_in_seen w)) refl))))

  pub resting_in_seen : (n kind : ℕ) (vs : List Spelled) → resting_in (plain R) n kind (map (seen see) vs) ≡ maybe_seen (resting_in spelled n kind vs)
  resting_in_seen n kind vs =
      maybe_if ((kind == 2) || (kind == 5)) _ _ _ _ (ap table_in (pairs_in_seen vs) ∙ table_in_seen (pairs_in spelled vs)) (maybe_if (kind == 3) _ _ _ _ (maker_in_seen vs)
      (maybe_if (kind == 4) _ _ _ _ (of_one_seen (size_in n) (size_in n) vs (size_in_seen n)) (maybe_if (kind == 16) _ _ _ _ (of_one_seen number_in number_in vs number_in_seen)
      (maybe_if (kind == 17) _ _ _ _ (of_one_seen row_in row_in vs row_in_seen) refl))))

  pub or_seen : (vs : List Spelled) (o : Option (Content Spelled)) → or_unreadable (map (seen see) vs) (maybe_seen o) ≡ content_seen (or_unreadable vs o)
  or_seen vs None = refl
  or_seen vs (Some x) = refl

  pub content_of_seen : (n kind w : ℕ) (vs : List Spelled) → content_of (plain R) n kind w (map (seen see) vs) ≡ content_seen (content_of spelled n kind w vs)
  content_of_seen n kind w vs =
      ap (or_unreadable (map (seen see) vs)) (maybe_if (nat_le 32 kind) _ _ _ _ (control_in_seen kind w vs) (maybe_if (w == 0) _ _ _ _ (resting_in_seen n kind vs) refl))
      ∙ or_seen vs (if nat_le 32 kind then control_in spelled kind w vs else if w == 0 then resting_in spelled n kind vs else None)
