-- Actions on tables, components and localities keep the laws.
use Rattle.std.specs.Prelude.{ℕ, suc, ℤ, pos, Bool, false, nat_le, List, [], ◌∷◌, ◌++◌, ◌+◌, ◌*◌, ◌<◌, ◌≤◌, ◌≡◌, ◌≢◌, ◌==◌, ◌&&◌, Option, Some, None, codes, length, refl}
use Rattle.std.proofs.Common.{ap, sym, ◌∙◌, subst, arith, lit≤, length-append}
use Rattle.std.specs.List.{AllByRecursion, count_by}
use Rattle.std.specs.Str.{bytes_eq}
use Rattle.std.proofs.lemmas.Bool.{cond_both, eqb-false, leb-true, and_parts}
use Rattle.std.proofs.lemmas.List.Sums.{count_by-le-length}
use Rattle.hpx_value.specs.Values.{refs_in}
use Rattle.hpx_value.specs.declared.value.Value.{Value as Spelled}
use Rattle.hpx_value.specs.declared.value.Value.TheVariants.{Unit as SpelledUnit, Flag as SpelledFlag, Int as SpelledInt, Text as SpelledText, Ref as SpelledRef, Fault as SpelledFault, Ints as SpelledInts}
use Rattle.hpx_value.specs.declared.value.Cont.{Cont}
use Rattle.hpx_value.specs.declared.value.State.{State}
use Rattle.hpx_value.specs.declared.value.Act.{Act}
use Rattle.hpx_value.specs.Shapes.{IsValue, IsState, IsCount, values_size}
use Rattle.hpx_value.proofs.Kept as HandLemmas
use Rattle.hpx_calls.specs.Values.{spelled}
use Rattle.hpx_calls.specs.Requests.{Request, Register, Resolve, Unregister, Keys, New, Count}
use Rattle.hpx_calls.specs.Contents.{Pair, Content, Table, Maker, Size, Number, Row, Promise, Channel, Latch, Barrier, layout, pairs_out, precedes, count_in}
use Rattle.hpx_calls.specs.Effects.{Answers, Makes}
use Rattle.hpx_calls.specs.Tables.{leaves, found, added, removed, listed, registers, resolves, unregisters, on_table, makes, makes_bare, makes_at, makes_counted, makes_row, with_one, on_maker, on_size}
use Rattle.hpx_calls.specs.Outcomes.{numbers, own_reply, make_of, made_place, has_cont}
use Rattle.hpx_calls.proofs.Keeps.{answers_all, count-append, once_counted, length-numbers, all_append}
use Rattle.hpx_calls.proofs.Shown.{IsRef, IsPair, IsTable}
use Rattle.hpx_calls.proofs.Asked.{IsPlaced, IsFair}
use Rattle.hpx_calls.proofs.Controls.{IsCall, IsGood, good_if, stay_good, refused_good}
use Rattle.hpx_calls.proofs.Full.{told_refs, IsMade, full_keeps}

-- ---- the Refs of one value among others

pub refs_front : (v : Spelled) (vs : List Spelled) → refs_in (v ∷ vs) ≡ refs_in (v ∷ []) ++ refs_in vs
refs_front SpelledUnit vs = refl
refs_front (SpelledFlag b) vs = refl
refs_front (SpelledInt z) vs = refl
refs_front (SpelledText t) vs = refl
refs_front (SpelledRef p) vs = refl
refs_front (SpelledFault c) vs = refl
refs_front (SpelledInts zs) vs = refl

pub count_front : (q : ℕ → Bool) (v : Spelled) (vs : List Spelled) → count_by q (refs_in (v ∷ vs)) ≡ count_by q (refs_in (v ∷ [])) + count_by q (refs_in vs)
count_front q v vs = ap (count_by q) (refs_front v vs) ∙ count-append q (refs_in (v ∷ [])) (refs_in vs)

pub one_ref : (v : Spelled) → length (refs_in (v ∷ [])) ≤ 1
one_ref SpelledUnit = lit≤ tt
one_ref (SpelledFlag b) = lit≤ tt
one_ref (SpelledInt z) = lit≤ tt
one_ref (SpelledText t) = lit≤ tt
one_ref (SpelledRef p) = lit≤ tt
one_ref (SpelledFault c) = lit≤ tt
one_ref (SpelledInts zs) = lit≤ tt

-- ---- pairs within the hand

-- a short key, and a reference below a bound
abbrev pub IsRefBelow : ℕ → Spelled → Type 0
IsRefBelow limit (SpelledRef p) = p < limit
IsRefBelow limit _ = ⊥

abbrev pub IsPairBelow : ℕ → Pair Spelled → Type 0
IsPairBelow limit x = (length x.key ≤ 32) × IsRefBelow limit x.to

pairs_below : (limit : ℕ) (xs : List (Pair Spelled)) → AllByRecursion IsPair xs → AllByRecursion (λ p. p < limit) (refs_in (pairs_out spelled xs)) → AllByRecursion (IsPairBelow limit) xs
pairs_below limit [] h low = tt
pairs_below limit (x ∷ xs) h low = by_value x.to refl h low (pairs_below limit xs h.1)
  where
    by_value : (v : Spelled) → x.to ≡ v → AllByRecursion IsPair (x ∷ xs) → AllByRecursion (λ p. p < limit) (refs_in (pairs_out spelled (x ∷ xs)))
        → (AllByRecursion (λ p. p < limit) (refs_in (pairs_out spelled xs)) → AllByRecursion (IsPairBelow limit) xs) → AllByRecursion (IsPairBelow limit) (x ∷ xs)
    by_value (SpelledRef p) e h low rest =
        let P : Spelled → Type 0 = λ u. AllByRecursion (λ r. r < limit) (refs_in (u ∷ pairs_out spelled xs)) in
        let Q : Spelled → Type 0 = IsRefBelow limit in
        let here : AllByRecursion (λ r. r < limit) (refs_in (SpelledRef p ∷ pairs_out spelled xs)) = subst P e low in
        ((h.0.0, subst Q (sym e) here.0), rest here.1)
    by_value SpelledUnit e h low rest = let is : IsRef SpelledUnit = let P : Spelled → Type 0 = IsRef in subst P e h.0.1 in absurd is
    by_value (SpelledFlag b) e h low rest = let is : IsRef (SpelledFlag b) = let P : Spelled → Type 0 = IsRef in subst P e h.0.1 in absurd is
    by_value (SpelledInt z) e h low rest = let is : IsRef (SpelledInt z) = let P : Spelled → Type 0 = IsRef in subst P e h.0.1 in absurd is
    by_value (SpelledText t) e h low rest = let is : IsRef (SpelledText t) = let P : Spelled → Type 0 = IsRef in subst P e h.0.1 in absurd is
    by_value (SpelledFault c) e h low rest = let is : IsRef (SpelledFault c) = let P : Spelled → Type 0 = IsRef in subst P e h.0.1 in absurd is
    by_value (SpelledInts zs) e h low rest = let is : IsRef (SpelledInts zs) = let P : Spelled → Type 0 = IsRef in subst P e h.0.1 in absurd is

-- what such pairs take in a state
pub record ArePairs (limit : ℕ) (xs : List (Pair Spelled)) : Type 0 where
  pub low : AllByRecursion (λ p. p < limit) (refs_in (pairs_out spelled xs))
  pub refs : length (refs_in (pairs_out spelled xs)) ≡ length xs
  pub values : AllByRecursion IsValue (pairs_out spelled xs)
  pub long : length (pairs_out spelled xs) ≡ 2 * length xs
  pub size : values_size (pairs_out spelled xs) ≤ 52 * length xs

are_pairs : (limit : ℕ) (xs : List (Pair Spelled)) → AllByRecursion (IsPairBelow limit) xs → ArePairs limit xs
are_pairs limit [] h = record { low = tt; refs = refl; values = tt; long = refl; size = lit≤ tt }
are_pairs limit (x ∷ xs) h = by_value x.to h.0.1 (are_pairs limit xs h.1) h.0.0
  where
    by_value : (v : Spelled) → IsRefBelow limit v → ArePairs limit xs → length x.key ≤ 32 → ArePairs limit (record { key = x.key; to = v } ∷ xs)
    by_value (SpelledRef p) below rest short =
        let refs = rest.refs in
        let long = rest.long in
        let size = rest.size in
        record { low = (below, rest.low); refs = ap suc refs; values = (omega arith, (tt, rest.values)); long = omega arith; size = omega arith }
    by_value SpelledUnit below rest short = absurd below
    by_value (SpelledFlag b) below rest short = absurd below
    by_value (SpelledInt z) below rest short = absurd below
    by_value (SpelledText t) below rest short = absurd below
    by_value (SpelledFault c) below rest short = absurd below
    by_value (SpelledInts zs) below rest short = absurd below

added_below : (limit : ℕ) (key : List ℕ) (to : Spelled) (xs : List (Pair Spelled)) → length key ≤ 32 → IsRefBelow limit to → AllByRecursion (IsPairBelow limit) xs
    → AllByRecursion (IsPairBelow limit) (added key to xs)
added_below limit key to [] short below h = ((short, below), tt)
added_below limit key to (x ∷ xs) short below h =
    cond_both (precedes key x.key) _ _ (AllByRecursion (IsPairBelow limit)) (λ e. ((short, below), h)) (λ e. (h.0, added_below limit key to xs short below h.1))

length_added : (key : List ℕ) (to : Spelled) (xs : List (Pair Spelled)) → length (added key to xs) ≡ length xs + 1
length_added key to [] = refl
length_added key to (x ∷ xs) =
    cond_both (precedes key x.key) _ _ (λ ys. length ys ≡ length (x ∷ xs) + 1) (λ e. omega arith) (λ e. let rest = length_added key to xs in omega arith)

count_added : (q : ℕ → Bool) (key : List ℕ) (to : Spelled) (xs : List (Pair Spelled))
    → count_by q (refs_in (pairs_out spelled (added key to xs))) ≡ count_by q (refs_in (to ∷ [])) + count_by q (refs_in (pairs_out spelled xs))
count_added q key to [] = count_front q to []
count_added q key to (x ∷ xs) =
    cond_both (precedes key x.key) _ _ (λ ys. count_by q (refs_in (pairs_out spelled ys)) ≡ count_by q (refs_in (to ∷ [])) + count_by q (refs_in (pairs_out spelled (x ∷ xs))))
    (λ e. count_front q to (pairs_out spelled (x ∷ xs)))
    (λ e.
    let rest = count_added q key to xs in
    let one = count_front q x.to (pairs_out spelled (added key to xs)) in
    let two = count_front q x.to (pairs_out spelled xs) in
    omega arith)

removed_below : (limit : ℕ) (key : List ℕ) (xs : List (Pair Spelled)) → AllByRecursion (IsPairBelow limit) xs → AllByRecursion (IsPairBelow limit) (removed key xs)
removed_below limit key [] h = tt
removed_below limit key (x ∷ xs) h =
    cond_both (bytes_eq key x.key) _ _ (AllByRecursion (IsPairBelow limit)) (λ e. h.1) (λ e. (h.0, removed_below limit key xs h.1))

length_removed : (key : List ℕ) (xs : List (Pair Spelled)) → length (removed key xs) ≤ length xs
length_removed key [] = lit≤ tt
length_removed key (x ∷ xs) =
    cond_both (bytes_eq key x.key) _ _ (λ ys. length ys ≤ length (x ∷ xs)) (λ e. omega arith) (λ e. let rest = length_removed key xs in omega arith)

count_removed : (q : ℕ → Bool) (key : List ℕ) (xs : List (Pair Spelled))
    → count_by q (refs_in (pairs_out spelled (removed key xs))) ≤ count_by q (refs_in (pairs_out spelled xs))
count_removed q key [] = lit≤ tt
count_removed q key (x ∷ xs) =
    cond_both (bytes_eq key x.key) _ _ (λ ys. count_by q (refs_in (pairs_out spelled ys)) ≤ count_by q (refs_in (pairs_out spelled (x ∷ xs))))
    (λ e. let one = count_front q x.to (pairs_out spelled xs) in omega arith)
    (λ e.
    let rest = count_removed q key xs in
    let one = count_front q x.to (pairs_out spelled (removed key xs)) in
    let two = count_front q x.to (pairs_out spelled xs) in
    omega arith)

-- ---- answers of tables

-- an answer without Refs over a new table
table_good : (n kind here : ℕ) (s : State) (a : Act) (xs : List (Pair Spelled)) (v : Spelled) → here < n → IsCall kind s a → length s.conts ≡ 0
    → AllByRecursion (IsPairBelow (length s.ids + length a.ids)) xs → length xs ≤ 100 → ((place : ℕ) → count_by (λ p. p == place) (refs_in (pairs_out spelled xs)) ≤ 2)
    → IsValue v → AllByRecursion (λ p. p < length s.ids + length a.ids) (refs_in (v ∷ [])) → IsGood n kind here s a (leaves (Table xs) (Answers v))
table_good n kind here s a xs v low h none pairs few twice good below =
    let is = are_pairs (length s.ids + length a.ids) xs pairs in
    let limit : length s.ids + length a.ids + 0 ≡ length s.ids + length a.ids = omega arith in
    let P : ℕ → Type 0 = λ m. AllByRecursion (λ p. p < m) (refs_in (pairs_out spelled xs)) in
    let refs = is.refs in
    let long = is.long in
    let size = is.size in
    let conts = length-numbers 0 (length s.conts) in
    full_keeps n kind here s a (pairs_out spelled xs) (numbers 0 (length s.conts)) [] [] (own_reply s a.cont v) low h (omega arith) (answers_all s a v)
    (record {
      low = subst P (sym limit) is.low;
      sent_low = tt;
      told_low = told_below a.cont;
      twice = twice;
      sent_twice = λ place. lit≤ tt;
      told_once = told_one a.cont;
      values = record { few = omega arith; each = is.values };
      few = omega arith;
      sent_few = lit≤ tt;
      starts = lit≤ tt;
      args = tt;
      replies = told_good a.cont;
    })
    (omega arith) (omega arith) (lit≤ tt) tt tt
  where
    told_below : (c : Option Cont) → AllByRecursion (λ p. p < length s.ids + length a.ids + 0) (told_refs (own_reply s c v))
    told_below None = tt
    told_below (Some c) =
        let limit : length s.ids + length a.ids + 0 ≡ length s.ids + length a.ids = omega arith in
        let P : ℕ → Type 0 = λ m. AllByRecursion (λ p. p < m) (refs_in (v ∷ [])) in
        all_append (λ p. p < length s.ids + length a.ids + 0) (refs_in (v ∷ [])) [] (subst P (sym limit) below) tt

    told_one : (c : Option Cont) → length (told_refs (own_reply s c v)) ≤ 1
    told_one None = lit≤ tt
    told_one (Some c) = let one = one_ref v in let both = length-append (refs_in (v ∷ [])) [] in omega arith

    told_good : (c : Option Cont) → AllByRecursion (λ r. IsValue r.value) (own_reply s c v)
    told_good None = tt
    told_good (Some c) = (good, tt)

-- ---- calls of tables

placed_ref : (m limit : ℕ) (v : Spelled) → IsPlaced m limit v → IsRef v → IsRefBelow limit v
placed_ref m limit (SpelledRef p) h is = h.1
placed_ref m limit SpelledUnit h is = absurd is
placed_ref m limit (SpelledFlag b) h is = absurd is
placed_ref m limit (SpelledInt z) h is = absurd is
placed_ref m limit (SpelledText t) h is = absurd is
placed_ref m limit (SpelledFault c) h is = absurd is
placed_ref m limit (SpelledInts zs) h is = absurd is

found_below : (limit : ℕ) (key : List ℕ) (xs : List (Pair Spelled)) (to : Spelled) → AllByRecursion (IsPairBelow limit) xs → found key xs ≡ Some to → IsRefBelow limit to
found_below limit key [] to h e = absurd (cc)
found_below limit key (x ∷ xs) to h e =
    cond_both (bytes_eq key x.key) _ _ (λ o. o ≡ Some to → IsRefBelow limit to)
    (λ t f. let same : x.to ≡ to = cc in let P : Spelled → Type 0 = IsRefBelow limit in subst P same h.0.1) (λ t f. found_below limit key xs to h.1 f) e

ref_answer : (limit : ℕ) (v : Spelled) → IsRefBelow limit v → IsValue v × AllByRecursion (λ p. p < limit) (refs_in (v ∷ []))
ref_answer limit (SpelledRef p) h = (tt, (h, tt))
ref_answer limit SpelledUnit h = absurd h
ref_answer limit (SpelledFlag b) h = absurd h
ref_answer limit (SpelledInt z) h = absurd h
ref_answer limit (SpelledText t) h = absurd h
ref_answer limit (SpelledFault c) h = absurd h
ref_answer limit (SpelledInts zs) h = absurd h

listed_short : (limit : ℕ) (xs : List (Pair Spelled)) → AllByRecursion (IsPairBelow limit) xs → length (listed xs) ≤ 33 * length xs
listed_short limit [] h = lit≤ tt
listed_short limit (x ∷ []) h = let short = h.0.0 in omega arith
listed_short limit (x ∷ y ∷ xs) h =
    let short = h.0.0 in
    let rest = listed_short limit (y ∷ xs) h.1 in
    let both = length-append x.key (32 ∷ listed (y ∷ xs)) in
    omega arith

-- a table that a state shows
pub record IsTableHere (s : State) (a : Act) (xs : List (Pair Spelled)) : Type 0 where
  pub shown : layout spelled (Table xs) ≡ s.values
  pub none : length s.conts ≡ 0
  pub few : length xs ≤ 100
  pub below : AllByRecursion (IsPairBelow (length s.ids)) xs
  pub hand : AllByRecursion (IsPairBelow (length s.ids + length a.ids)) xs
  pub once : (place : ℕ) → count_by (λ p. p == place) (refs_in (pairs_out spelled xs)) ≤ 1

below_more : (m limit : ℕ) (xs : List (Pair Spelled)) → m ≤ limit → AllByRecursion (IsPairBelow m) xs → AllByRecursion (IsPairBelow limit) xs
below_more m limit [] low h = tt
below_more m limit (x ∷ xs) low h = ((h.0.0, one x.to h.0.1), below_more m limit xs low h.1)
  where
    one : (v : Spelled) → IsRefBelow m v → IsRefBelow limit v
    one (SpelledRef p) h = omega arith
    one SpelledUnit h = absurd h
    one (SpelledFlag b) h = absurd h
    one (SpelledInt z) h = absurd h
    one (SpelledText t) h = absurd h
    one (SpelledFault c) h = absurd h
    one (SpelledInts zs) h = absurd h

table_here : (s : State) (a : Act) (xs : List (Pair Spelled)) → IsState s → layout spelled (Table xs) ≡ s.values → IsTable (length s.conts) xs → IsTableHere s a xs
table_here s a xs h e bound =
    let refs = ap refs_in e in
    let many : length s.ids ≡ length (refs_in s.values) + length s.conts = h.ids in
    let low : AllByRecursion (λ p. p < length s.ids) (refs_in s.values) = HandLemmas.counted_below (length s.ids) 0 (refs_in s.values) h.refs (omega arith) in
    let P : List ℕ → Type 0 = AllByRecursion (λ p. p < length s.ids) in
    let below = pairs_below (length s.ids) xs bound.each (subst P (sym refs) low) in
    record {
      shown = e;
      none = bound.waiting;
      few = bound.few;
      below = below;
      hand = below_more (length s.ids) (length s.ids + length a.ids) xs (omega arith) below;
      once = λ place. let Q : List ℕ → Type 0 = λ ps. count_by (λ p. p == place) ps ≤ 1 in subst Q (sym refs) (once_counted place 0 (refs_in s.values) h.refs);
    }

registers_good : (n kind here : ℕ) (s : State) (a : Act) (xs : List (Pair Spelled)) (key : List ℕ) (to : Spelled) (o : Option Spelled) → here < n → IsCall kind s a → IsTableHere s a xs
    → length key ≤ 32 → IsRefBelow (length s.ids + length a.ids) to → IsGood n kind here s a (registers spelled xs key to o)
registers_good n kind here s a xs key to (Some old) low h t short below = refused_good n kind here s a (Table xs) 2 h t.shown (lit≤ tt) (lit≤ tt)
registers_good n kind here s a xs key to None low h t short below =
    good_if n kind here s a (length xs == 100) _ _ (λ f. refused_good n kind here s a (Table xs) 10 h t.shown (lit≤ tt) (lit≤ tt)) (λ f.
    let room = eqb-false (length xs) 100 f in
    let few = t.few in
    let long = length_added key to xs in
    table_good n kind here s a (added key to xs) SpelledUnit low h t.none (added_below (length s.ids + length a.ids) key to xs short below t.hand)
    (room_left (length xs) (length (added key to xs)) few room long)
    (λ place. let all = count_added (λ p. p == place) key to xs in let one = count_by-le-length (λ p. p == place) (refs_in (to ∷ [])) in let most = one_ref to in let once = t.once place in omega arith) tt tt)
  where
    room_left : (k m : ℕ) → k ≤ 100 → k ≢ 100 → m ≡ k + 1 → m ≤ 100
    room_left k m p q r = omega arith

resolves_good : (n kind here : ℕ) (s : State) (a : Act) (xs : List (Pair Spelled)) (key : List ℕ) (o : Option Spelled) → here < n → IsCall kind s a → IsTableHere s a xs
    → found key xs ≡ o → IsGood n kind here s a (resolves spelled xs o)
resolves_good n kind here s a xs key None low h t e = refused_good n kind here s a (Table xs) 3 h t.shown (lit≤ tt) (lit≤ tt)
resolves_good n kind here s a xs key (Some to) low h t e =
    let answer = ref_answer (length s.ids + length a.ids) to (found_below (length s.ids + length a.ids) key xs to t.hand e) in
    table_good n kind here s a xs to low h t.none t.hand t.few (λ place. let once = t.once place in omega arith) answer.0 answer.1

unregisters_good : (n kind here : ℕ) (s : State) (a : Act) (xs : List (Pair Spelled)) (key : List ℕ) (o : Option Spelled) → here < n → IsCall kind s a → IsTableHere s a xs
    → IsGood n kind here s a (unregisters spelled xs key o)
unregisters_good n kind here s a xs key None low h t = refused_good n kind here s a (Table xs) 3 h t.shown (lit≤ tt) (lit≤ tt)
unregisters_good n kind here s a xs key (Some to) low h t =
    let few = t.few in
    let long = length_removed key xs in
    table_good n kind here s a (removed key xs) SpelledUnit low h t.none (removed_below (length s.ids + length a.ids) key xs t.hand) (omega arith)
    (λ place. let all = count_removed (λ p. p == place) key xs in let once = t.once place in omega arith) tt tt

keyed_good : (n kind here : ℕ) (s : State) (a : Act) (xs : List (Pair Spelled)) (r : Request Spelled) → here < n → IsCall kind s a → IsTableHere s a xs
    → IsFair (IsPlaced (length s.ids) (length s.ids + length a.ids)) (has_cont a.cont) r → IsGood n kind here s a (on_table spelled xs r)
keyed_good n kind here s a xs (Register key to) low h t fair =
    registers_good n kind here s a xs key to (found key xs) low h t fair.0 (placed_ref (length s.ids) (length s.ids + length a.ids) to fair.1 fair.2)
keyed_good n kind here s a xs (Resolve key) low h t fair = resolves_good n kind here s a xs key (found key xs) low h t refl
keyed_good n kind here s a xs (Unregister key) low h t fair = unregisters_good n kind here s a xs key (found key xs) low h t
keyed_good n kind here s a xs Keys low h t fair =
    let few = t.few in
    let short = listed_short (length s.ids) xs t.below in
    stay_good n kind here s a (Table xs) (SpelledText (listed xs)) h t.shown (omega arith) refl
keyed_good n kind here s a xs _ low h t fair = refused_good n kind here s a (Table xs) 11 h t.shown (lit≤ tt) (lit≤ tt)

pub served_table : (n kind here : ℕ) (s : State) (a : Act) (xs : List (Pair Spelled)) (r : Request Spelled) → here < n → IsCall kind s a → layout spelled (Table xs) ≡ s.values
    → IsTable (length s.conts) xs → IsFair (IsPlaced (length s.ids) (length s.ids + length a.ids)) (has_cont a.cont) r → IsGood n kind here s a (on_table spelled xs r)
served_table n kind here s a xs r low h e bound fair = keyed_good n kind here s a xs r low h (table_here s a xs h.state e bound) fair

-- ---- components

-- a content that can be made
pub record IsBorn (x : Content Spelled) : Type 0 where
  pub made : IsMade (make_of x)

born_good : (n kind here : ℕ) (s : State) (a : Act) (x : Content Spelled) → here < n → IsCall kind s a → length s.conts ≡ 0 → IsBorn x → IsGood n kind here s a (leaves Maker (Makes x))
born_good n kind here s a x low h none born =
    let own = h.act.ids in
    let conts = length-numbers 0 (length s.conts) in
    full_keeps n kind here s a [] (numbers 0 (length s.conts)) (make_of x ∷ []) [] (own_reply s a.cont (SpelledRef (made_place s a))) low h (omega arith) (answers_all s a (SpelledRef (made_place s a)))
    (record {
      low = tt;
      sent_low = tt;
      told_low = told_below a.cont;
      twice = λ place. lit≤ tt;
      sent_twice = λ place. lit≤ tt;
      told_once = told_one a.cont;
      values = record { few = lit≤ tt; each = tt };
      few = lit≤ tt;
      sent_few = lit≤ tt;
      starts = lit≤ tt;
      args = tt;
      replies = told_good a.cont;
    })
    (omega arith) (omega arith) (lit≤ tt) (born.made, tt) tt
  where
    told_below : (c : Option Cont) → AllByRecursion (λ p. p < length s.ids + length a.ids + 1) (told_refs (own_reply s c (SpelledRef (made_place s a))))
    told_below None = tt
    told_below (Some c) = (omega arith, tt)

    told_one : (c : Option Cont) → length (told_refs (own_reply s c (SpelledRef (made_place s a)))) ≤ 1
    told_one None = lit≤ tt
    told_one (Some c) = lit≤ tt

    told_good : (c : Option Cont) → AllByRecursion (λ r. IsValue r.value) (own_reply s c (SpelledRef (made_place s a)))
    told_good None = tt
    told_good (Some c) = (tt, tt)

one_value : (v : Spelled) → IsValue v → refs_in (v ∷ []) ≡ [] → values_size (v ∷ []) ≤ 64000 → IsState (record { drawn = 0; values = v ∷ []; conts = []; ids = [] })
one_value v good plain short =
    let P : List ℕ → Type 0 = IsCount 0 in
    let none : length (refs_in (v ∷ [])) ≡ 0 = ap length plain in
    record {
      values = record { few = lit≤ tt; each = (good, tt) };
      refs = subst P (sym plain) tt;
      conts = tt;
      ids = omega arith;
      few = lit≤ tt;
      short = omega arith;
    }

no_values : IsState (record { drawn = 0; values = []; conts = []; ids = [] })
no_values = record { values = record { few = lit≤ tt; each = tt }; refs = tt; conts = tt; ids = refl; few = lit≤ tt; short = lit≤ tt }

number_born : (z : ℤ) → IsBorn (Number z)
number_born z = record { made = ((lit≤ tt, lit≤ tt), refl, one_value (SpelledInt z) tt refl (lit≤ tt)) }

promise_born : IsBorn (Promise None)
promise_born = record { made = ((lit≤ tt, lit≤ tt), refl, no_values) }

channel_born : IsBorn (Channel false [])
channel_born = record { made = ((lit≤ tt, lit≤ tt), refl, one_value (SpelledFlag false) tt refl (lit≤ tt)) }

latch_born : (n : ℕ) → IsBorn (Latch n)
latch_born n = record { made = ((lit≤ tt, lit≤ tt), refl, one_value (SpelledInt (pos n)) tt refl (lit≤ tt)) }

barrier_born : (n : ℕ) → IsBorn (Barrier n)
barrier_born n = record { made = ((lit≤ tt, lit≤ tt), refl, one_value (SpelledInt (pos n)) tt refl (lit≤ tt)) }

row_born : (zs : List ℤ) → length zs ≤ 1024 → IsBorn (Row zs)
row_born zs few = record { made = ((lit≤ tt, lit≤ tt), refl, one_value (SpelledInts zs) (omega arith) refl (omega arith)) }

bare_good : (n kind here : ℕ) (s : State) (a : Act) (x : Content Spelled) (vs : List Spelled) → here < n → IsCall kind s a → [] ≡ s.values → length s.conts ≡ 0
    → IsBorn x → IsGood n kind here s a (makes_bare spelled x vs)
bare_good n kind here s a x [] low h e none born = born_good n kind here s a x low h none born
bare_good n kind here s a x (v ∷ vs) low h e none born = refused_good n kind here s a Maker 11 h e (lit≤ tt) (lit≤ tt)

at_good : (n kind here : ℕ) (s : State) (a : Act) (f : ℕ → Content Spelled) (o : Option ℕ) → here < n → IsCall kind s a → [] ≡ s.values → length s.conts ≡ 0
    → ((m : ℕ) → IsBorn (f m)) → IsGood n kind here s a (makes_at spelled f o)
at_good n kind here s a f None low h e none born = refused_good n kind here s a Maker 11 h e (lit≤ tt) (lit≤ tt)
at_good n kind here s a f (Some m) low h e none born =
    good_if n kind here s a (nat_le 1 m) _ _ (λ g. born_good n kind here s a (f m) low h none (born m)) (λ g. refused_good n kind here s a Maker 11 h e (lit≤ tt) (lit≤ tt))

counted_good : (n kind here : ℕ) (s : State) (a : Act) (most : ℕ) (f : ℕ → Content Spelled) (vs : List Spelled) → here < n → IsCall kind s a → [] ≡ s.values → length s.conts ≡ 0
    → ((m : ℕ) → IsBorn (f m)) → IsGood n kind here s a (with_one spelled (makes_counted spelled most f) vs)
counted_good n kind here s a most f [] low h e none born = refused_good n kind here s a Maker 11 h e (lit≤ tt) (lit≤ tt)
counted_good n kind here s a most f (SpelledInt z ∷ []) low h e none born = at_good n kind here s a f (count_in most z) low h e none born
counted_good n kind here s a most f (SpelledUnit ∷ []) low h e none born = refused_good n kind here s a Maker 11 h e (lit≤ tt) (lit≤ tt)
counted_good n kind here s a most f (SpelledFlag b ∷ []) low h e none born = refused_good n kind here s a Maker 11 h e (lit≤ tt) (lit≤ tt)
counted_good n kind here s a most f (SpelledText t ∷ []) low h e none born = refused_good n kind here s a Maker 11 h e (lit≤ tt) (lit≤ tt)
counted_good n kind here s a most f (SpelledRef p ∷ []) low h e none born = refused_good n kind here s a Maker 11 h e (lit≤ tt) (lit≤ tt)
counted_good n kind here s a most f (SpelledFault c ∷ []) low h e none born = refused_good n kind here s a Maker 11 h e (lit≤ tt) (lit≤ tt)
counted_good n kind here s a most f (SpelledInts zs ∷ []) low h e none born = refused_good n kind here s a Maker 11 h e (lit≤ tt) (lit≤ tt)
counted_good n kind here s a most f (v ∷ u ∷ vs) low h e none born = refused_good n kind here s a Maker 11 h e (lit≤ tt) (lit≤ tt)

row_good : (n kind here : ℕ) (s : State) (a : Act) (vs : List Spelled) → here < n → IsCall kind s a → [] ≡ s.values → length s.conts ≡ 0
    → IsGood n kind here s a (with_one spelled (makes_row spelled) vs)
row_good n kind here s a [] low h e none = refused_good n kind here s a Maker 11 h e (lit≤ tt) (lit≤ tt)
row_good n kind here s a (SpelledInts zs ∷ []) low h e none =
    good_if n kind here s a (nat_le 1 (length zs) && nat_le (length zs) 1024) _ _
    (λ f. born_good n kind here s a (Row zs) low h none (row_born zs (leb-true (length zs) 1024 (and_parts (nat_le 1 (length zs)) _ f).1)))
    (λ f. refused_good n kind here s a Maker 11 h e (lit≤ tt) (lit≤ tt))
row_good n kind here s a (SpelledUnit ∷ []) low h e none = refused_good n kind here s a Maker 11 h e (lit≤ tt) (lit≤ tt)
row_good n kind here s a (SpelledFlag b ∷ []) low h e none = refused_good n kind here s a Maker 11 h e (lit≤ tt) (lit≤ tt)
row_good n kind here s a (SpelledInt z ∷ []) low h e none = refused_good n kind here s a Maker 11 h e (lit≤ tt) (lit≤ tt)
row_good n kind here s a (SpelledText t ∷ []) low h e none = refused_good n kind here s a Maker 11 h e (lit≤ tt) (lit≤ tt)
row_good n kind here s a (SpelledRef p ∷ []) low h e none = refused_good n kind here s a Maker 11 h e (lit≤ tt) (lit≤ tt)
row_good n kind here s a (SpelledFault c ∷ []) low h e none = refused_good n kind here s a Maker 11 h e (lit≤ tt) (lit≤ tt)
row_good n kind here s a (v ∷ u ∷ vs) low h e none = refused_good n kind here s a Maker 11 h e (lit≤ tt) (lit≤ tt)

makes_good : (n kind here : ℕ) (s : State) (a : Act) (name : List ℕ) (vs : List Spelled) → here < n → IsCall kind s a → [] ≡ s.values → length s.conts ≡ 0
    → IsGood n kind here s a (makes spelled name vs)
makes_good n kind here s a name vs low h e none =
    good_if n kind here s a (bytes_eq name (codes "accumulator")) _ _ (λ f. bare_good n kind here s a (Number (pos 0)) vs low h e none (number_born (pos 0))) (λ f.
    good_if n kind here s a (bytes_eq name (codes "partition")) _ _ (λ g. row_good n kind here s a vs low h e none) (λ g.
    good_if n kind here s a (bytes_eq name (codes "promise")) _ _ (λ i. bare_good n kind here s a (Promise None) vs low h e none promise_born) (λ i.
    good_if n kind here s a (bytes_eq name (codes "channel")) _ _ (λ j. bare_good n kind here s a (Channel false []) vs low h e none channel_born) (λ j.
    good_if n kind here s a (bytes_eq name (codes "latch")) _ _ (λ k. counted_good n kind here s a 1000000 Latch vs low h e none latch_born) (λ k.
    good_if n kind here s a (bytes_eq name (codes "barrier")) _ _ (λ l. counted_good n kind here s a 100 Barrier vs low h e none barrier_born)
    (λ l. refused_good n kind here s a Maker 4 h e (lit≤ tt) (lit≤ tt)))))))

pub maker_good : (n kind here : ℕ) (s : State) (a : Act) (r : Request Spelled) → here < n → IsCall kind s a → [] ≡ s.values → length s.conts ≡ 0
    → IsGood n kind here s a (on_maker spelled r)
maker_good n kind here s a (New name vs) low h e none = makes_good n kind here s a name vs low h e none
maker_good n kind here s a _ low h e none = refused_good n kind here s a Maker 11 h e (lit≤ tt) (lit≤ tt)

-- ---- localities

pub size_good : (n kind here : ℕ) (s : State) (a : Act) (m : ℕ) (r : Request Spelled) → IsCall kind s a → SpelledInt (pos m) ∷ [] ≡ s.values → IsGood n kind here s a (on_size spelled m r)
size_good n kind here s a m Count h e = stay_good n kind here s a (Size m) (SpelledInt (pos m)) h e tt refl
size_good n kind here s a m _ h e = refused_good n kind here s a (Size m) 11 h e (lit≤ tt) (lit≤ tt)
