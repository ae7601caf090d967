-- Contents that fit their kind: laid out as values they are read again, and calls leave them so.
use Rattle.std.specs.Prelude.{ℕ, ℤ, pos, Bool, true, false, nat_le, nat_lt, List, [], ◌∷◌, ◌<◌, ◌≤◌, ◌≡◌, ◌==◌, ◌||◌, ◌⊎◌, Some, None, length, refl, if◌then◌else◌}
use Rattle.std.proofs.Common.{ap, sym, ◌∙◌, subst, arith, inl, inr}
use Rattle.std.specs.List.{AllByRecursion, list_all}
use Rattle.std.proofs.lemmas.Bool.{and_parts, and_from, le-leb, ltb-true, lt-ltb, eq-eqb}
use Rattle.hpx_calls.specs.Values.{Value, Nothing, Flag, Int, Text, Ref, Fault, Ints, plain, is_small}
use Rattle.hpx_calls.specs.Requests.{is_key}
use Rattle.hpx_calls.specs.Contents.{Pair, Given, Content, Table, Maker, Size, Number, Row, Promise, Dataflow, Started, Channel, Latch, Barrier, Unreadable, layout, pairs_out, given_out, rises, is_table, are_fitted, are_inputs, is_given, is_dataflow, provided, both, pairs_in, given_in, given_at, count_in, table_in, flow_in, inputs_in, dataflow_at, latch_at, barrier_at, content_of, or_unreadable}

-- a reference
abbrev pub IsReference : {R : Type 0} → Value R → Type 0
IsReference (Ref r) = Unit {0}
IsReference _ = ⊥

pub record FitsTable {R : Type 0} (kind w : ℕ) (xs : List (Pair (Value R))) : Type 0 where
  pub kinds : (kind ≡ 2) ⊎ (kind ≡ 5)
  pub waiting : w ≡ 0
  pub few : length xs ≤ 100
  pub keys : list_all (λ (x : Pair (Value R)). is_key x.key) xs ≡ true
  pub order : rises xs ≡ true
  pub refs : AllByRecursion (λ x. IsReference x.to) xs

pub record FitsFlow {R : Type 0} (kind w code inputs : ℕ) (xs : List (Given (Value R))) : Type 0 where
  pub kinds : kind ≡ 33
  pub starts : is_dataflow code inputs ≡ true
  pub codes : code ≤ 65535
  pub most : inputs ≤ 16
  pub once : are_inputs inputs xs ≡ true
  pub short : are_fitted (plain R) (Some 64000) xs ≡ true
  pub few : length xs ≤ inputs
  pub waiting : w ≤ 1
  pub lacks : (w ≡ 0) ⊎ (length xs < inputs)

pub record FitsStarted (kind w code inputs : ℕ) : Type 0 where
  pub kinds : kind ≡ 33
  pub starts : is_dataflow code inputs ≡ true
  pub codes : code ≤ 65535
  pub most : inputs ≤ 16
  pub waiting : w ≡ 0

pub record FitsChannel {R : Type 0} (kind w : ℕ) (closed : Bool) (kept : List (Value R)) : Type 0 where
  pub kinds : kind ≡ 34
  pub waiting : w ≤ 100
  pub few : length kept ≤ 1000
  pub small : list_all (λ (v : Value R). is_small ((plain R).look v)) kept ≡ true
  pub either : (w ≡ 0) ⊎ ((closed ≡ false) × (length kept ≡ 0))

pub record FitsLatch (kind w left : ℕ) : Type 0 where
  pub kinds : kind ≡ 35
  pub waiting : w ≤ 100
  pub most : left ≤ 1000000
  pub either : (w ≡ 0) ⊎ (1 ≤ left)

-- a content of a kind, at n localities, where so many wait
abbrev pub Fits : {R : Type 0} → ℕ → ℕ → ℕ → Content (Value R) → Type 0
Fits n kind w (Table xs) = FitsTable kind w xs
Fits n kind w Maker = (kind ≡ 3) × (w ≡ 0)
Fits n kind w (Size m) = (kind ≡ 4) × (w ≡ 0) × (m ≡ n)
Fits n kind w (Number z) = (kind ≡ 16) × (w ≡ 0)
Fits n kind w (Row zs) = (kind ≡ 17) × (w ≡ 0) × (1 ≤ length zs) × (length zs ≤ 1024)
Fits n kind w (Promise None) = (kind ≡ 32) × (w ≤ 7)
Fits n kind w (Promise (Some v)) = (kind ≡ 32) × (w ≡ 0)
Fits n kind w (Dataflow code inputs xs) = FitsFlow kind w code inputs xs
Fits n kind w (Started code inputs) = FitsStarted kind w code inputs
Fits n kind w (Channel closed kept) = FitsChannel kind w closed kept
Fits n kind w (Latch left) = FitsLatch kind w left
Fits n kind w (Barrier m) = (kind ≡ 36) × (w < m) × (m ≤ 100)
Fits {R} n kind w (Unreadable vs) = content_of (plain R) n kind w vs ≡ Unreadable vs

-- ---- read again

counted : (most m : ℕ) → m ≤ most → count_in most (pos m) ≡ Some m
counted most m h = ap (λ (b : Bool). if b then Some m else None) (le-leb m most h)

module _ (R : Type 0) (n : ℕ) where
  abbrev Reads : ℕ → ℕ → Content (Value R) → Type 0
  Reads kind w x = content_of (plain R) n kind w (layout (plain R) x) ≡ x

  pairs_again : (xs : List (Pair (Value R))) → AllByRecursion (λ x. IsReference x.to) xs → pairs_in (plain R) (pairs_out (plain R) xs) ≡ Some xs
  pairs_again [] h = refl
  pairs_again (x ∷ xs) h = by_value x.to h.0 (pairs_again xs h.1)
    where
      by_value : (v : Value R) → IsReference v → pairs_in (plain R) (pairs_out (plain R) xs) ≡ Some xs
          → pairs_in (plain R) (Text x.key ∷ v ∷ pairs_out (plain R) xs) ≡ Some (record { key = x.key; to = v } ∷ xs)
      by_value (Ref r) is e = ap (λ o. both (Some (record { key = x.key; to = Ref r })) o) e
      by_value Nothing is e = absurd is
      by_value (Flag b) is e = absurd is
      by_value (Int z) is e = absurd is
      by_value (Text t) is e = absurd is
      by_value (Fault c) is e = absurd is
      by_value (Ints zs) is e = absurd is

  is_table_true : (kind w : ℕ) (xs : List (Pair (Value R))) → FitsTable kind w xs → is_table xs ≡ true
  is_table_true kind w xs h = and_from _ _ (le-leb (length xs) 100 h.few) (and_from _ _ h.keys h.order)

  table_again : (kind w : ℕ) (xs : List (Pair (Value R))) → FitsTable kind w xs → Reads kind w (Table xs)
  table_again kind w xs h =
      let P : ℕ → Type 0 = λ m. Reads kind m (Table xs) in
      subst P (sym h.waiting) (by_kind h.kinds)
    where
      read : or_unreadable (pairs_out (plain R) xs) (table_in (pairs_in (plain R) (pairs_out (plain R) xs))) ≡ Table xs
      read =
          ap (λ o. or_unreadable (pairs_out (plain R) xs) (table_in o)) (pairs_again xs h.refs)
          ∙ ap (λ b. or_unreadable (pairs_out (plain R) xs) (provided b (Table xs))) (is_table_true kind w xs h)

      by_kind : (kind ≡ 2) ⊎ (kind ≡ 5) → Reads kind 0 (Table xs)
      by_kind (inl e) = let Q : ℕ → Type 0 = λ j. Reads j 0 (Table xs) in subst Q (sym e) read
      by_kind (inr e) = let Q : ℕ → Type 0 = λ j. Reads j 0 (Table xs) in subst Q (sym e) read

  latch_again : (kind w left : ℕ) → FitsLatch kind w left → Reads kind w (Latch left)
  latch_again kind w left h =
      let Q : ℕ → Type 0 = λ j. Reads j w (Latch left) in
      subst Q (sym h.kinds)
      (ap (λ o. or_unreadable (Int (pos left) ∷ []) (latch_at w o)) (counted 1000000 left h.most)
      ∙ ap (λ b. or_unreadable (Int (pos left) ∷ []) (provided b (Latch left))) (and_from _ _ (le-leb w 100 h.waiting) (some_left h.either)))
    where
      some_left : (w ≡ 0) ⊎ (1 ≤ left) → ((w == 0) || nat_le 1 left) ≡ true
      some_left (inl e) = ap (λ b. b || nat_le 1 left) (eq-eqb w 0 e)
      some_left (inr e) = by_test (w == 0) (le-leb 1 left e)
        where
          by_test : (b : Bool) → nat_le 1 left ≡ true → (b || nat_le 1 left) ≡ true
          by_test true f = refl
          by_test false f = f

  barrier_again : (kind w m : ℕ) → kind ≡ 36 → w < m → m ≤ 100 → Reads kind w (Barrier m)
  barrier_again kind w m e low most =
      let Q : ℕ → Type 0 = λ j. Reads j w (Barrier m) in
      subst Q (sym e)
      (ap (λ o. or_unreadable (Int (pos m) ∷ []) (barrier_at w o)) (counted 100 m most) ∙ ap (λ b. or_unreadable (Int (pos m) ∷ []) (provided b (Barrier m))) (lt-ltb w m low))

  channel_again : (kind w : ℕ) (closed : Bool) (kept : List (Value R)) → FitsChannel kind w closed kept → Reads kind w (Channel closed kept)
  channel_again kind w closed kept h =
      let Q : ℕ → Type 0 = λ j. Reads j w (Channel closed kept) in
      subst Q (sym h.kinds)
      (ap (λ b. or_unreadable (Flag closed ∷ kept) (provided b (Channel closed kept)))
      (and_from _ _ (le-leb w 100 h.waiting) (and_from _ _ (le-leb (length kept) 1000 h.few) (and_from _ _ h.small (none_or h.either)))))
    where
      none_or : (w ≡ 0) ⊎ ((closed ≡ false) × (length kept ≡ 0)) → ((w == 0) || (if closed then false else length kept == 0)) ≡ true
      none_or (inl e) = ap (λ b. b || (if closed then false else length kept == 0)) (eq-eqb w 0 e)
      none_or (inr e) = by_test (w == 0) (ap (λ (b : Bool). if b then false else length kept == 0) e.0 ∙ eq-eqb (length kept) 0 e.1)
        where
          by_test : (b : Bool) → (if closed then false else length kept == 0) ≡ true → (b || (if closed then false else length kept == 0)) ≡ true
          by_test true f = refl
          by_test false f = f

  low_slots : (inputs : ℕ) (xs : List (Given (Value R))) → inputs ≤ 16 → are_inputs inputs xs ≡ true → AllByRecursion (λ x. x.slot ≤ 15) xs
  low_slots inputs [] most e = tt
  low_slots inputs (x ∷ xs) most e =
      let one = and_parts (nat_lt x.slot inputs) _ e in
      let low = ltb-true x.slot inputs one.0 in
      (omega arith, low_slots inputs xs most (and_parts _ (are_inputs inputs xs) one.1).1)

  given_again : (xs : List (Given (Value R))) → AllByRecursion (λ x. x.slot ≤ 15) xs → given_in (plain R) (given_out (plain R) xs) ≡ Some xs
  given_again [] h = refl
  given_again (x ∷ xs) h =
      ap (λ o. both (given_at o x.value) (given_in (plain R) (given_out (plain R) xs))) (counted 15 x.slot h.0)
      ∙ ap (λ o. both (Some (record { slot = x.slot; value = x.value })) o) (given_again xs h.1)

  is_given_true : (kind w code inputs : ℕ) (xs : List (Given (Value R))) → FitsFlow kind w code inputs xs → is_given (plain R) w inputs xs ≡ true
  is_given_true kind w code inputs xs h =
      and_from _ _ h.once (and_from _ _ h.short (and_from _ _ (le-leb (length xs) inputs h.few)
      (and_from _ _ (le-leb w 1 h.waiting) (none_or h.lacks))))
    where
      none_or : (w ≡ 0) ⊎ (length xs < inputs) → ((w == 0) || nat_lt (length xs) inputs) ≡ true
      none_or (inl e) = ap (λ b. b || nat_lt (length xs) inputs) (eq-eqb w 0 e)
      none_or (inr e) = by_test (w == 0) (lt-ltb (length xs) inputs e)
        where
          by_test : (b : Bool) → nat_lt (length xs) inputs ≡ true → (b || nat_lt (length xs) inputs) ≡ true
          by_test true f = refl
          by_test false f = f

  flow_again : (w code inputs : ℕ) (xs : List (Given (Value R))) → given_in (plain R) (given_out (plain R) xs) ≡ Some xs → is_given (plain R) w inputs xs ≡ true
      → flow_in (plain R) w code inputs (given_out (plain R) xs) ≡ Some (Dataflow code inputs xs)
  flow_again w code inputs [] e f = ap (λ b. provided b (Dataflow code inputs [])) f
  flow_again w code inputs (x ∷ xs) e f = ap (inputs_in (plain R) w code inputs) e ∙ ap (λ b. provided b (Dataflow code inputs (x ∷ xs))) f

  dataflow_again : (kind w code inputs : ℕ) (xs : List (Given (Value R))) → FitsFlow kind w code inputs xs → Reads kind w (Dataflow code inputs xs)
  dataflow_again kind w code inputs xs h =
      let vs = given_out (plain R) xs in
      let all = layout (plain R) (Dataflow code inputs xs) in
      let Q : ℕ → Type 0 = λ j. Reads j w (Dataflow code inputs xs) in
      subst Q (sym h.kinds)
      (ap (λ o. or_unreadable all (dataflow_at (plain R) w o (count_in 16 (pos inputs)) vs)) (counted 65535 code h.codes)
      ∙ ap (λ o. or_unreadable all (dataflow_at (plain R) w (Some code) o vs)) (counted 16 inputs h.most)
      ∙ ap (λ (b : Bool). or_unreadable all (if b then flow_in (plain R) w code inputs vs else None)) h.starts
      ∙ ap (or_unreadable all) (flow_again w code inputs xs (given_again xs (low_slots inputs xs h.most h.once)) (is_given_true kind w code inputs xs h)))

  started_again : (kind w code inputs : ℕ) → FitsStarted kind w code inputs → Reads kind w (Started code inputs)
  started_again kind w code inputs h =
      let all = layout (plain R) (Started code inputs) in
      let Q : ℕ → Type 0 = λ j. Reads j w (Started code inputs) in
      subst Q (sym h.kinds)
      (ap (λ o. or_unreadable all (dataflow_at (plain R) w o (count_in 16 (pos inputs)) (Nothing ∷ []))) (counted 65535 code h.codes)
      ∙ ap (λ o. or_unreadable all (dataflow_at (plain R) w (Some code) o (Nothing ∷ []))) (counted 16 inputs h.most)
      ∙ ap (λ (b : Bool). or_unreadable all (if b then flow_in (plain R) w code inputs (Nothing ∷ []) else None)) h.starts
      ∙ ap (λ b. or_unreadable all (provided b (Started code inputs))) (eq-eqb w 0 h.waiting))

  row_again : (kind w : ℕ) (zs : List ℤ) → kind ≡ 17 → w ≡ 0 → 1 ≤ length zs → length zs ≤ 1024 → Reads kind w (Row zs)
  row_again kind w zs e none some few =
      let Q : ℕ → Type 0 = λ j. Reads j w (Row zs) in
      let P : ℕ → Type 0 = λ m. Reads 17 m (Row zs) in
      subst Q (sym e) (subst P (sym none)
      (ap (λ b. or_unreadable (Ints zs ∷ []) (provided b (Row zs))) (and_from _ _ (le-leb 1 (length zs) some) (le-leb (length zs) 1024 few))))

  pub reads_again : (kind w : ℕ) (x : Content (Value R)) → Fits n kind w x → Reads kind w x
  reads_again kind w (Table xs) h = table_again kind w xs h
  reads_again kind w Maker h =
      let Q : ℕ → Type 0 = λ j. Reads j w Maker in let P : ℕ → Type 0 = λ m. Reads 3 m Maker in subst Q (sym h.0) (subst P (sym h.1) refl)
  reads_again kind w (Size m) h =
      let Q : ℕ → Type 0 = λ j. Reads j w (Size m) in
      let P : ℕ → Type 0 = λ i. Reads 4 i (Size m) in
      subst Q (sym h.0) (subst P (sym h.1) (ap (λ b. or_unreadable (Int (pos m) ∷ []) (provided b (Size m))) (eq-eqb m n h.2)))
  reads_again kind w (Number z) h =
      let Q : ℕ → Type 0 = λ j. Reads j w (Number z) in let P : ℕ → Type 0 = λ m. Reads 16 m (Number z) in subst Q (sym h.0) (subst P (sym h.1) refl)
  reads_again kind w (Row zs) h = row_again kind w zs h.0 h.1 h.2 h.3
  reads_again kind w (Promise None) h =
      let Q : ℕ → Type 0 = λ j. Reads j w (Promise None) in subst Q (sym h.0) (ap (λ b. or_unreadable [] (provided b (Promise None))) (le-leb w 7 h.1))
  reads_again kind w (Promise (Some v)) h =
      let Q : ℕ → Type 0 = λ j. Reads j w (Promise (Some v)) in subst Q (sym h.0) (ap (λ b. or_unreadable (v ∷ []) (provided b (Promise (Some v)))) (eq-eqb w 0 h.1))
  reads_again kind w (Dataflow code inputs xs) h = dataflow_again kind w code inputs xs h
  reads_again kind w (Started code inputs) h = started_again kind w code inputs h
  reads_again kind w (Channel closed kept) h = channel_again kind w closed kept h
  reads_again kind w (Latch left) h = latch_again kind w left h
  reads_again kind w (Barrier m) h = barrier_again kind w m h.0 h.1 h.2
  reads_again kind w (Unreadable vs) h = h
