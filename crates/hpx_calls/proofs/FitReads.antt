-- A content that values show fits its kind.
use Rattle.std.specs.Prelude.{ℕ, ℤ, pos, negsuc, Bool, true, false, nat_le, nat_lt, List, [], ◌∷◌, ◌≤◌, ◌≡◌, ◌==◌, ◌&&◌, ◌||◌, ◌⊎◌, Option, Some, None, length, refl, if◌then◌else◌}
use Rattle.std.proofs.Common.{ap, subst, inl, inr}
use Rattle.std.specs.List.{AllByRecursion, list_all}
use Rattle.std.proofs.lemmas.Bool.{and_parts, leb-true, ltb-true, eqb-true}
use Rattle.hpx_calls.specs.Values.{Value, Nothing, Flag, Int, Text, Ref, Fault, Ints, Look, plain, is_small}
use Rattle.hpx_calls.specs.Requests.{is_key}
use Rattle.hpx_calls.specs.Contents.{Pair, Given, Content, Table, Size, Row, Promise, Dataflow, Started, Channel, Latch, Barrier, layout, is_table, are_fitted, are_inputs, is_given, is_channel, is_latch, is_dataflow, provided, both, pair_of, pairs_in, given_in, count_in, table_in, size_in, number_in, row_in, latch_at, latch_in, barrier_at, barrier_in, channel_in, inputs_in, started_in, flow_in, dataflow_at, dataflow_in, of_one, of_first, of_two, promise_in, maker_in, resting_in, control_in, or_unreadable, content_of}
use Rattle.hpx_calls.proofs.Shown.{count_is}
use Rattle.hpx_calls.proofs.Fits.{IsReference, Fits}

or_case : (a b : Bool) → (a || b) ≡ true → (a ≡ true) ⊎ (b ≡ true)
or_case true b e = inl refl
or_case false b e = inr e

zero_or : {P : Type 0} (w : ℕ) (b : Bool) → ((w == 0) || b) ≡ true → (b ≡ true → P) → (w ≡ 0) ⊎ P
zero_or {P} w b e f = by_case (or_case (w == 0) b e)
  where
    by_case : ((w == 0) ≡ true) ⊎ (b ≡ true) → (w ≡ 0) ⊎ P
    by_case (inl g) = inl (eqb-true w 0 g)
    by_case (inr g) = inr (f g)

-- the references of pairs that values show
abbrev AllRefs : {R : Type 0} → Option (List (Pair (Value R))) → Type 0
AllRefs None = Unit {0}
AllRefs (Some xs) = AllByRecursion (λ x. IsReference x.to) xs

abbrev OneRef : {R : Type 0} → Option (Pair (Value R)) → Type 0
OneRef None = Unit {0}
OneRef (Some x) = IsReference x.to

pair_ref : {R : Type 0} (v w : Value R) → OneRef (pair_of (plain R) v w)
pair_ref (Text t) (Ref r) = tt
pair_ref (Text t) Nothing = tt
pair_ref (Text t) (Flag b) = tt
pair_ref (Text t) (Int z) = tt
pair_ref (Text t) (Text u) = tt
pair_ref (Text t) (Fault c) = tt
pair_ref (Text t) (Ints zs) = tt
pair_ref Nothing w = tt
pair_ref (Flag b) w = tt
pair_ref (Int z) w = tt
pair_ref (Ref r) w = tt
pair_ref (Fault c) w = tt
pair_ref (Ints zs) w = tt

both_refs : {R : Type 0} (o : Option (Pair (Value R))) (p : Option (List (Pair (Value R)))) → OneRef o → AllRefs p → AllRefs (both o p)
both_refs None p h i = tt
both_refs (Some x) None h i = tt
both_refs (Some x) (Some xs) h i = (h, i)

pairs_refs : {R : Type 0} (vs : List (Value R)) → AllRefs (pairs_in (plain R) vs)
pairs_refs [] = tt
pairs_refs (v ∷ []) = tt
pairs_refs {R} (v ∷ w ∷ vs) = both_refs (pair_of (plain R) v w) (pairs_in (plain R) vs) (pair_ref v w) (pairs_refs vs)

module _ (R : Type 0) (n kind w : ℕ) where
  abbrev MayFit : Option (Content (Value R)) → Type 0
  MayFit None = Unit {0}
  MayFit (Some x) = Fits n kind w x

  may_provide : (b : Bool) (x : Content (Value R)) → (b ≡ true → Fits n kind w x) → MayFit (provided b x)
  may_provide true x h = h refl
  may_provide false x h = tt

  may_if : (b : Bool) (x y : Option (Content (Value R))) → (b ≡ true → MayFit x) → (b ≡ false → MayFit y) → MayFit (if b then x else y)
  may_if true x y p q = p refl
  may_if false x y p q = q refl

  promise_fits : kind ≡ 32 → (vs : List (Value R)) → MayFit (promise_in w vs)
  promise_fits k [] = may_provide (nat_le w 7) (Promise None) (λ e. (k, leb-true w 7 e))
  promise_fits k (v ∷ []) = may_provide (w == 0) (Promise (Some v)) (λ e. (k, eqb-true w 0 e))
  promise_fits k (v ∷ u ∷ vs) = tt

  one_fits : (f : Look → Option (Content (Value R))) (vs : List (Value R)) → ((l : Look) → MayFit (f l)) → MayFit (of_one (plain R) f vs)
  one_fits f [] h = tt
  one_fits f (v ∷ []) h = h ((plain R).look v)
  one_fits f (v ∷ u ∷ vs) h = tt

  latch_counted : kind ≡ 35 → (z : ℤ) (o : Option ℕ) → count_in 1000000 z ≡ o → MayFit (latch_at w o)
  latch_counted k z None e = tt
  latch_counted k z (Some left) e =
      may_provide (is_latch w left) (Latch left) (λ f.
      let parts = and_parts (nat_le w 100) _ f in
      record { kinds = k; waiting = leb-true w 100 parts.0; most = (count_is 1000000 z left e).1; either = zero_or w (nat_le 1 left) parts.1 (leb-true 1 left) })

  latch_fits : kind ≡ 35 → (l : Look) → MayFit (latch_in w l)
  latch_fits k (Int z) = latch_counted k z (count_in 1000000 z) refl
  latch_fits k _ = tt

  barrier_counted : kind ≡ 36 → (z : ℤ) (o : Option ℕ) → count_in 100 z ≡ o → MayFit (barrier_at w o)
  barrier_counted k z None e = tt
  barrier_counted k z (Some m) e = may_provide (nat_lt w m) (Barrier m) (λ f. (k, ltb-true w m f, (count_is 100 z m e).1))

  barrier_fits : kind ≡ 36 → (l : Look) → MayFit (barrier_in w l)
  barrier_fits k (Int z) = barrier_counted k z (count_in 100 z) refl
  barrier_fits k _ = tt

  channel_look : kind ≡ 34 → (l : Look) (vs : List (Value R)) → MayFit (channel_in (plain R) w l vs)
  channel_look k (Flag closed) vs =
      may_provide (is_channel (plain R) w closed vs) (Channel closed vs) (λ e.
      let one = and_parts (nat_le w 100) _ e in
      let two = and_parts (nat_le (length vs) 1000) _ one.1 in
      let three = and_parts (list_all (λ (v : Value R). is_small ((plain R).look v)) vs) _ two.1 in
      record {
        kinds = k;
        waiting = leb-true w 100 one.0;
        few = leb-true (length vs) 1000 two.0;
        small = three.0;
        either = zero_or w (if closed then false else length vs == 0) three.1 (open_none closed vs);
      })
    where
      open_none : (c : Bool) (vs : List (Value R)) → (if c then false else length vs == 0) ≡ true → (c ≡ false) × (length vs ≡ 0)
      open_none true vs e = absurd (cc)
      open_none false vs e = (refl, eqb-true (length vs) 0 e)
  channel_look k _ vs = tt

  channel_fits : kind ≡ 34 → (vs : List (Value R)) → MayFit (of_first (plain R) (channel_in (plain R) w) vs)
  channel_fits k [] = tt
  channel_fits k (v ∷ vs) = channel_look k ((plain R).look v) vs

  started_look : kind ≡ 33 → (code inputs : ℕ) (l : Look) → is_dataflow code inputs ≡ true → code ≤ 65535 → inputs ≤ 16 → MayFit (started_in w code inputs l)
  started_look k code inputs Nothing e low most =
      may_provide (w == 0) (Started code inputs) (λ f. record { kinds = k; starts = e; codes = low; most = most; waiting = eqb-true w 0 f })
  started_look k code inputs _ e low most = tt

  inputs_fits : kind ≡ 33 → (code inputs : ℕ) (o : Option (List (Given (Value R)))) → is_dataflow code inputs ≡ true → code ≤ 65535 → inputs ≤ 16 → MayFit (inputs_in (plain R) w code inputs o)
  inputs_fits k code inputs None e low most = tt
  inputs_fits k code inputs (Some xs) e low most =
      may_provide (is_given (plain R) w inputs xs) (Dataflow code inputs xs) (λ f.
      let one = and_parts (are_inputs inputs xs) _ f in
      let two = and_parts (are_fitted (plain R) (Some 64000) xs) _ one.1 in
      let three = and_parts (nat_le (length xs) inputs) _ two.1 in
      let four = and_parts (nat_le w 1) _ three.1 in
      record {
        kinds = k;
        starts = e;
        codes = low;
        most = most;
        once = one.0;
        short = two.0;
        few = leb-true (length xs) inputs three.0;
        waiting = leb-true w 1 four.0;
        lacks = zero_or w (nat_lt (length xs) inputs) four.1 (ltb-true (length xs) inputs);
      })

  flow_fits : kind ≡ 33 → (code inputs : ℕ) (vs : List (Value R)) → is_dataflow code inputs ≡ true → code ≤ 65535 → inputs ≤ 16 → MayFit (flow_in (plain R) w code inputs vs)
  flow_fits k code inputs [] e low most = inputs_fits k code inputs (Some []) e low most
  flow_fits k code inputs (v ∷ []) e low most = started_look k code inputs ((plain R).look v) e low most
  flow_fits k code inputs (v ∷ u ∷ vs) e low most = inputs_fits k code inputs (given_in (plain R) (v ∷ u ∷ vs)) e low most

  flow_counted : kind ≡ 33 → (x y : ℤ) (vs : List (Value R)) (a b : Option ℕ) → count_in 65535 x ≡ a → count_in 16 y ≡ b → MayFit (dataflow_at (plain R) w a b vs)
  flow_counted k x y vs None b e f = tt
  flow_counted k x y vs (Some code) None e f = tt
  flow_counted k x y vs (Some code) (Some inputs) e f =
      may_if (is_dataflow code inputs) _ _ (λ g. flow_fits k code inputs vs g (count_is 65535 x code e).1 (count_is 16 y inputs f).1) (λ g. tt)

  flow_look : kind ≡ 33 → (a b : Look) (vs : List (Value R)) → MayFit (dataflow_in (plain R) w a b vs)
  flow_look k (Int x) (Int y) vs = flow_counted k x y vs (count_in 65535 x) (count_in 16 y) refl refl
  flow_look k _ _ vs = tt

  dataflow_fits : kind ≡ 33 → (vs : List (Value R)) → MayFit (of_two (plain R) (dataflow_in (plain R) w) vs)
  dataflow_fits k [] = tt
  dataflow_fits k (v ∷ []) = tt
  dataflow_fits k (v ∷ u ∷ vs) = flow_look k ((plain R).look v) ((plain R).look u) vs

  table_fits : (kind ≡ 2) ⊎ (kind ≡ 5) → w ≡ 0 → (o : Option (List (Pair (Value R)))) → AllRefs o → MayFit (table_in o)
  table_fits k none None h = tt
  table_fits k none (Some xs) h =
      may_provide (is_table xs) (Table xs) (λ e.
      let one = and_parts (nat_le (length xs) 100) _ e in
      let two = and_parts (list_all (λ (x : Pair (Value R)). is_key x.key) xs) _ one.1 in
      record { kinds = k; waiting = none; few = leb-true (length xs) 100 one.0; keys = two.0; order = two.1; refs = h })

  maker_fits : kind ≡ 3 → w ≡ 0 → (vs : List (Value R)) → MayFit (maker_in vs)
  maker_fits k none [] = (k, none)
  maker_fits k none (v ∷ vs) = tt

  size_fits : kind ≡ 4 → w ≡ 0 → (l : Look) → MayFit (size_in n l)
  size_fits k none (Int (pos m)) = may_provide (m == n) (Size m) (λ e. (k, none, eqb-true m n e))
  size_fits k none (Int (negsuc m)) = tt
  size_fits k none _ = tt

  number_fits : kind ≡ 16 → w ≡ 0 → (l : Look) → MayFit (number_in l)
  number_fits k none (Int z) = (k, none)
  number_fits k none _ = tt

  row_fits : kind ≡ 17 → w ≡ 0 → (l : Look) → MayFit (row_in l)
  row_fits k none (Ints zs) =
      may_provide (nat_le 1 (length zs) && nat_le (length zs) 1024) (Row zs) (λ e.
      let parts = and_parts (nat_le 1 (length zs)) (nat_le (length zs) 1024) e in (k, none, leb-true 1 (length zs) parts.0, leb-true (length zs) 1024 parts.1))
  row_fits k none _ = tt

  control_fits : (vs : List (Value R)) → MayFit (control_in (plain R) kind w vs)
  control_fits vs =
      may_if (kind == 32) _ _ (λ e. promise_fits (eqb-true kind 32 e) vs) (λ e.
      may_if (kind == 33) _ _ (λ e. dataflow_fits (eqb-true kind 33 e) vs) (λ e.
      may_if (kind == 34) _ _ (λ e. channel_fits (eqb-true kind 34 e) vs) (λ e.
      may_if (kind == 35) _ _ (λ e. one_fits (latch_in w) vs (latch_fits (eqb-true kind 35 e))) (λ e.
      may_if (kind == 36) _ _ (λ e. one_fits (barrier_in w) vs (barrier_fits (eqb-true kind 36 e))) (λ e. tt)))))

  table_kind : ((kind == 2) || (kind == 5)) ≡ true → (kind ≡ 2) ⊎ (kind ≡ 5)
  table_kind e = by_case (or_case (kind == 2) (kind == 5) e)
    where
      by_case : ((kind == 2) ≡ true) ⊎ ((kind == 5) ≡ true) → (kind ≡ 2) ⊎ (kind ≡ 5)
      by_case (inl f) = inl (eqb-true kind 2 f)
      by_case (inr f) = inr (eqb-true kind 5 f)

  resting_fits : w ≡ 0 → (vs : List (Value R)) → MayFit (resting_in (plain R) n kind vs)
  resting_fits none vs =
      may_if ((kind == 2) || (kind == 5)) _ _ (λ e. table_fits (table_kind e) none (pairs_in (plain R) vs) (pairs_refs vs)) (λ e.
      may_if (kind == 3) _ _ (λ e. maker_fits (eqb-true kind 3 e) none vs) (λ e.
      may_if (kind == 4) _ _ (λ e. one_fits (size_in n) vs (size_fits (eqb-true kind 4 e) none)) (λ e.
      may_if (kind == 16) _ _ (λ e. one_fits number_in vs (number_fits (eqb-true kind 16 e) none)) (λ e.
      may_if (kind == 17) _ _ (λ e. one_fits row_in vs (row_fits (eqb-true kind 17 e) none)) (λ e. tt)))))

  abbrev read : List (Value R) → Option (Content (Value R))
  read vs = if nat_le 32 kind then control_in (plain R) kind w vs else if w == 0 then resting_in (plain R) n kind vs else None

  read_fits : (vs : List (Value R)) → MayFit (read vs)
  read_fits vs =
      may_if (nat_le 32 kind) _ _ (λ e. control_fits vs) (λ e. may_if (w == 0) _ _ (λ f. resting_fits (eqb-true w 0 f) vs) (λ f. tt))

  pub content_fits : (vs : List (Value R)) → Fits n kind w (content_of (plain R) n kind w vs)
  content_fits vs = by_read (read vs) refl (read_fits vs)
    where
      by_read : (o : Option (Content (Value R))) → read vs ≡ o → MayFit o → Fits n kind w (or_unreadable vs o)
      by_read None e h = ap (or_unreadable vs) e
      by_read (Some x) e h = h

  -- what shows its content fits
  pub readable_fits : (x : Content (Value R)) → content_of (plain R) n kind w (layout (plain R) x) ≡ x → Fits n kind w x
  readable_fits x e = let P : Content (Value R) → Type 0 = Fits n kind w in subst P e (content_fits (layout (plain R) x))
