-- How texts share a front, and how the counters of localities are listed.
use Rattle.std.proofs.Common.{◌≡◌, ℕ, suc, ◌+◌, ◌<◌, ◌≤◌, Bool, true, false, ◌&&◌, cond, List, [], ◌∷◌, ◌++◌, length, drop, get_or, refl, sym, ◌∙◌, arith, add-one, zero-add, ap, subst, zero, max, map, take, Option, Some, None, inl, inr}
use Rattle.std.proofs.lemmas.Bool.{cases_lt, cond-true, cond-false, eq-eqb, ne_eqb}
use Rattle.std.proofs.lemmas.List.{drop_more, drop_all, drop-drop, append-nil, append_assoc, map_push, map_more, map-append, take-append-drop}
use Rattle.std.specs.Str.{bytes_eq}
use Rattle.hpx_counters.specs.declared.counter.Counter.{Counter}
use Rattle.hpx_counters.specs.declared.counter.Counted.{Counted}
use Rattle.hpx_counters.specs.Counters.{name_of, counter_at, shared, counters_below, counters_at, counter_in, longest_front}

whole_step : (b : Bool) (s n t u : ℕ) → (s ≡ n → t ≡ n + u) → cond b (suc s) 0 ≡ suc n → cond b (suc t) 0 ≡ suc n + u
whole_step true s n t u f h = omega (arith, f (omega arith))
whole_step false s n t u f h = absurd (omega arith)

-- a text that begins with a piece shares it, and then what goes on
pub shared_whole : (xs piece more : List ℕ) → shared xs piece ≡ length piece → shared xs (piece ++ more) ≡ length piece + shared (drop (length piece) xs) more
shared_whole xs [] more h = sym (zero-add (shared xs more))
shared_whole [] (y ∷ ys) more h = absurd (omega arith)
shared_whole (x ∷ xs) (y ∷ ys) more h = whole_step _ _ _ _ _ (shared_whole xs ys more) h

part_step : (b : Bool) (s n t : ℕ) → (s < n → t ≡ s) → cond b (suc s) 0 < suc n → cond b (suc t) 0 ≡ cond b (suc s) 0
part_step true s n t f h = omega (arith, f (omega arith))
part_step false s n t f h = refl

-- a text that leaves a piece within it shares no more with what goes on
pub shared_part : (xs piece more : List ℕ) → shared xs piece < length piece → shared xs (piece ++ more) ≡ shared xs piece
shared_part xs [] more h = absurd (omega arith)
shared_part [] (y ∷ ys) more h = refl
shared_part (x ∷ xs) (y ∷ ys) more h = part_step _ _ _ _ (shared_part xs ys more) h

same_step : (b t u : Bool) (s n : ℕ) → (s ≡ n → t ≡ u) → cond b (suc s) 0 ≡ suc n → (b && t) ≡ u
same_step true t u s n f h = f (omega arith)
same_step false t u s n f h = absurd (omega arith)

-- such a text is the whole where the rest is the rest
pub same_whole : (xs piece more : List ℕ) → shared xs piece ≡ length piece → bytes_eq xs (piece ++ more) ≡ bytes_eq (drop (length piece) xs) more
same_whole xs [] more h = refl
same_whole [] (y ∷ ys) more h = absurd (omega arith)
same_whole (x ∷ xs) (y ∷ ys) more h = same_step _ _ _ _ _ (same_whole xs ys more) h

other_step : (b t : Bool) (s n : ℕ) → (s < n → t ≡ false) → cond b (suc s) 0 < suc n → (b && t) ≡ false
other_step true t s n f h = f (omega arith)
other_step false t s n f h = refl

-- a text that leaves a piece is not the whole
pub same_part : (xs piece more : List ℕ) → shared xs piece < length piece → bytes_eq xs (piece ++ more) ≡ false
same_part xs [] more h = absurd (omega arith)
same_part [] (y ∷ ys) more h = refl
same_part (x ∷ xs) (y ∷ ys) more h = other_step _ _ _ _ (same_part xs ys more) h

-- the same of a text from a place on, where so many bytes are shared with a piece
pub from_whole : (text rest piece : List ℕ) (from n : ℕ) → rest ≡ drop from text → n ≡ shared rest piece → n ≡ length piece →
    (more : List ℕ) → from + shared (drop from text) (piece ++ more) ≡ from + n + shared (drop (from + n) text) more
from_whole text rest piece from n r e h more =
    let counts : shared (drop from text) piece ≡ length piece = subst (λ xs. shared xs piece ≡ length piece) r (sym e ∙ h) in
    let behind : drop (length piece) (drop from text) ≡ drop (from + n) text = drop-drop (length piece) from text ∙ ap (λ k. drop (from + k) text) (sym h) in
    omega (arith, shared_whole (drop from text) piece more counts, ap (λ xs. shared xs more) behind)

pub from_part : (text rest piece : List ℕ) (from n : ℕ) → rest ≡ drop from text → n ≡ shared rest piece → n < length piece →
    (more : List ℕ) → from + shared (drop from text) (piece ++ more) ≡ from + n
from_part text rest piece from n r e h more =
    let counts : shared (drop from text) piece ≡ n = subst (λ xs. shared xs piece ≡ n) r (sym e) in
    omega (arith, shared_part (drop from text) piece more (omega arith))

pub stands_from : (text rest piece : List ℕ) (from n : ℕ) → rest ≡ drop from text → n ≡ shared rest piece → n ≡ length piece →
    (more : List ℕ) → bytes_eq (drop from text) (piece ++ more) ≡ bytes_eq (drop (from + n) text) more
stands_from text rest piece from n r e h more =
    let counts : shared (drop from text) piece ≡ length piece = subst (λ xs. shared xs piece ≡ length piece) r (sym e ∙ h) in
    let behind : drop (length piece) (drop from text) ≡ drop (from + n) text = drop-drop (length piece) from text ∙ ap (λ k. drop (from + k) text) (sym h) in
    same_whole (drop from text) piece more counts ∙ ap (λ xs. bytes_eq xs more) behind

pub other_from : (text rest piece : List ℕ) (from n : ℕ) → rest ≡ drop from text → n ≡ shared rest piece → n < length piece →
    (more : List ℕ) → bytes_eq (drop from text) (piece ++ more) ≡ false
other_from text rest piece from n r e h more =
    let counts : shared (drop from text) piece ≡ n = subst (λ xs. shared xs piece ≡ n) r (sym e) in
    same_part (drop from text) piece more (omega arith)

-- nothing is shared with nothing
pub shared_empty : (xs : List ℕ) → shared xs [] ≡ 0
shared_empty [] = refl
shared_empty (x ∷ xs) = refl

-- two texts that go on with one byte share it
pub shared_more : (xs ys : List ℕ) (n : ℕ) → n < length xs → n < length ys → get_or xs n 0 ≡ get_or ys n 0 →
    shared (drop n xs) (drop n ys) ≡ suc (shared (drop (n + 1) xs) (drop (n + 1) ys))
shared_more xs ys n h k e =
    rw (drop_more xs n 0 h, drop_more ys n 0 k) (cond-true _ _ _ (eq-eqb _ _ e))

-- two texts that go on with different bytes share nothing more
pub shared_no_more : (xs ys : List ℕ) (n : ℕ) → n < length xs → n < length ys → (get_or xs n 0 ≡ get_or ys n 0 → ⊥) →
    shared (drop n xs) (drop n ys) ≡ 0
shared_no_more xs ys n h k e =
    rw (drop_more xs n 0 h, drop_more ys n 0 k) (cond-false _ _ _ (ne_eqb _ _ e))

-- nor where one of them is over
pub shared_at_end : (xs ys : List ℕ) (n : ℕ) → length ys ≤ n → shared (drop n xs) (drop n ys) ≡ 0
shared_at_end xs ys n h = rw (drop_all n ys h) (shared_empty (drop n xs))

-- the counters of one locality more
pub counters_below-more : (n : ℕ) → counters_below (n + 1) ≡ counters_below n ++ counters_at n
unfolding counters_below
counters_below-more n = rw add-one refl

some_step : {X : Type 0} (b : Bool) (x y : X) (o r : Option X) → (o ≡ Some y → r ≡ Some y) → cond b (Some x) o ≡ Some y → cond b (Some x) r ≡ Some y
some_step true x y o r f h = h
some_step false x y o r f h = f h

-- what is found among the first is found among all
pub counter_in-first : (text : List ℕ) (c : Counter) (xs ys : List Counter) → counter_in text xs ≡ Some c → counter_in text (xs ++ ys) ≡ Some c
counter_in-first text c [] ys h = absurd (cc)
counter_in-first text c (x ∷ xs) ys h = some_step _ x c _ _ (counter_in-first text c xs ys) h

none_step : {X : Type 0} (b : Bool) (x : X) (o r s : Option X) → (o ≡ None → r ≡ s) → cond b (Some x) o ≡ None → cond b (Some x) r ≡ s
none_step true x o r s f h = absurd (cc)
none_step false x o r s f h = f h

-- where nothing is found among the first, the others decide
pub counter_in-later : (text : List ℕ) (xs ys : List Counter) → counter_in text xs ≡ None → counter_in text (xs ++ ys) ≡ counter_in text ys
counter_in-later text [] ys h = refl
counter_in-later text (x ∷ xs) ys h = none_step _ x _ _ _ (counter_in-later text xs ys) h

-- the longest front among all is the longer one of two
pub longest_front-append : (text : List ℕ) (xs ys : List Counter) → longest_front text (xs ++ ys) ≡ max (longest_front text xs) (longest_front text ys)
longest_front-append text [] ys = omega arith
longest_front-append text (x ∷ xs) ys = omega (arith, longest_front-append text xs ys)

-- a counter that is found at a locality, and at none below it, is found
pub counter_in-below : (text : List ℕ) (c : Counter) (l n : ℕ) → l < n → counter_in text (counters_below l) ≡ None → counter_in text (counters_at l) ≡ Some c →
    counter_in text (counters_below n) ≡ Some c
unfolding counters_below
counter_in-below text c l zero h none some = absurd (omega arith)
counter_in-below text c l (suc n) h none some =
    elim (cases_lt l n) [
      | inl less ↦ counter_in-first text c (counters_below n) (counters_at n) (counter_in-below text c l n less none some)
      | inr more ↦
          let here : l ≡ n = omega arith in
          counter_in-later text (counters_below n) (counters_at n) (subst (λ k. counter_in text (counters_below k) ≡ None) here none)
          ∙ subst (λ k. counter_in text (counters_at k) ≡ Some c) here some
    ]

-- none below a number of localities
pub counter_in-none : (text : List ℕ) (n : ℕ) → counter_in text (counters_below n) ≡ None → counter_in text (counters_at n) ≡ None →
    counter_in text (counters_below (n + 1)) ≡ None
counter_in-none text n none here = rw counters_below-more (counter_in-later text (counters_below n) (counters_at n) none ∙ here)

pub longest_front-more : (text : List ℕ) (n : ℕ) → longest_front text (counters_below (n + 1)) ≡ max (longest_front text (counters_below n)) (longest_front text (counters_at n))
longest_front-more text n = rw counters_below-more (longest_front-append text (counters_below n) (counters_at n))

-- one counter more at a locality: its name is added
pub names_more : (k : ℕ) (xs : List Counted) (i : ℕ) (d : Counted) (before names after : List (List ℕ)) (name : List ℕ) → i < length xs →
    names ≡ before ++ map name_of (map (counter_at k) (take i xs)) → after ≡ names ++ name ∷ [] → name ≡ name_of (counter_at k (get_or xs i d)) →
    after ≡ before ++ map name_of (map (counter_at k) (take (i + 1) xs))
names_more k xs i d before names after name h inv add is =
    add ∙ ap (λ ns. ns ++ name ∷ []) inv ∙ append_assoc before (map name_of (map (counter_at k) (take i xs))) (name ∷ [])
    ∙ ap (λ ns. before ++ ns) (ap (λ n. map name_of (map (counter_at k) (take i xs)) ++ n ∷ []) is
    ∙ sym (map_push name_of (map (counter_at k) (take i xs)) (counter_at k (get_or xs i d)))
    ∙ ap (map name_of) (sym (map_more (counter_at k) xs i d h)))

-- one counter more at a locality, which a text doesn't name
pub none_more : (text : List ℕ) (k : ℕ) (xs : List Counted) (i : ℕ) (d : Counted) (found : Bool) → i < length xs →
    counter_in text (map (counter_at k) (take i xs)) ≡ None → found ≡ bytes_eq text (name_of (counter_at k (get_or xs i d))) → found ≡ false →
    counter_in text (map (counter_at k) (take (i + 1) xs)) ≡ None
none_more text k xs i d found h none is other =
    rw (map_more (counter_at k) xs i d h)
    (counter_in-later text (map (counter_at k) (take i xs)) (counter_at k (get_or xs i d) ∷ []) none ∙ cond-false _ _ _ (sym is ∙ other))

-- and one that it names
pub some_more : (text : List ℕ) (k : ℕ) (xs : List Counted) (i : ℕ) (d : Counted) (found : Bool) → i < length xs →
    counter_in text (map (counter_at k) (take i xs)) ≡ None → found ≡ bytes_eq text (name_of (counter_at k (get_or xs i d))) → found ≡ true →
    counter_in text (map (counter_at k) xs) ≡ Some (counter_at k (get_or xs i d))
some_more text k xs i d found h none is same =
    let parts : map (counter_at k) xs ≡ map (counter_at k) (take i xs) ++ (counter_at k (get_or xs i d) ∷ map (counter_at k) (drop (i + 1) xs)) =
    ap (map (counter_at k)) (sym (take-append-drop i xs)) ∙ map-append (counter_at k) (take i xs) (drop i xs)
    ∙ ap (λ ys. map (counter_at k) (take i xs) ++ map (counter_at k) ys) (drop_more xs i d h) in
    rw parts (counter_in-later text (map (counter_at k) (take i xs)) _ none ∙ cond-true _ _ _ (sym is ∙ same))

-- the longest front with one counter more
pub front_more : (text : List ℕ) (k : ℕ) (xs : List Counted) (i : ℕ) (d : Counted) (longest front next : ℕ) → i < length xs →
    longest ≡ longest_front text (map (counter_at k) (take i xs)) → front ≡ shared text (name_of (counter_at k (get_or xs i d))) → next ≡ max front longest →
    next ≡ longest_front text (map (counter_at k) (take (i + 1) xs))
front_more text k xs i d longest front next h inv is gives =
    rw (map_more (counter_at k) xs i d h)
    (omega (arith, longest_front-append text (map (counter_at k) (take i xs)) (counter_at k (get_or xs i d) ∷ [])))

-- the names of one locality more
pub all_names_more : (n : ℕ) (names after : List (List ℕ)) → names ≡ map name_of (counters_below n) → after ≡ names ++ map name_of (counters_at n) →
    after ≡ map name_of (counters_below (n + 1))
all_names_more n names after inv add =
    add ∙ ap (λ ns. ns ++ map name_of (counters_at n)) inv ∙ sym (map-append name_of (counters_below n) (counters_at n))
    ∙ ap (map name_of) (sym (counters_below-more n))

-- ---- a name piece by piece: its head, its digits and its tail

pub same_by_pieces : (text head digits tail h d t : List ℕ) (second third : ℕ) (rest : List ℕ → Bool) → h ≡ head → d ≡ digits → t ≡ tail →
    ((more : List ℕ) → bytes_eq text (h ++ more) ≡ bytes_eq (drop second text) more) →
    ((more : List ℕ) → bytes_eq (drop second text) (d ++ more) ≡ bytes_eq (drop third text) more) →
    ((more : List ℕ) → bytes_eq (drop third text) (t ++ more) ≡ rest more) →
    bytes_eq text (head ++ (digits ++ tail)) ≡ rest []
same_by_pieces text head digits tail h d t second third rest he de te f g k =
    ap (λ x. bytes_eq text (x ++ (digits ++ tail))) (sym he) ∙ f (digits ++ tail)
    ∙ ap (λ x. bytes_eq (drop second text) (x ++ tail)) (sym de) ∙ g tail
    ∙ ap (bytes_eq (drop third text)) (sym te ∙ sym (append-nil t)) ∙ k []

pub shared_by_pieces : (text head digits tail h d t : List ℕ) (second third : ℕ) (rest : List ℕ → ℕ) → h ≡ head → d ≡ digits → t ≡ tail →
    ((more : List ℕ) → 0 + shared text (h ++ more) ≡ second + shared (drop second text) more) →
    ((more : List ℕ) → second + shared (drop second text) (d ++ more) ≡ third + shared (drop third text) more) →
    ((more : List ℕ) → third + shared (drop third text) (t ++ more) ≡ rest more) →
    shared text (head ++ (digits ++ tail)) ≡ rest []
shared_by_pieces text head digits tail h d t second third rest he de te f g k =
    ap (λ x. shared text (x ++ (digits ++ tail))) (sym he) ∙ sym (zero-add (shared text (h ++ (digits ++ tail)))) ∙ f (digits ++ tail)
    ∙ ap (λ x. second + shared (drop second text) (x ++ tail)) (sym de) ∙ g tail
    ∙ ap (λ x. third + shared (drop third text) x) (sym te ∙ sym (append-nil t)) ∙ k []

-- a text that is over
pub same_at_end : (text : List ℕ) (n : ℕ) → n ≡ length text → bytes_eq (drop n text) [] ≡ true
same_at_end text n h = rw (drop_all n text (omega arith)) refl

-- a text that goes on
pub other_at_end : (text : List ℕ) (n : ℕ) → n ≤ length text → (n ≡ length text → ⊥) → bytes_eq (drop n text) [] ≡ false
other_at_end text n h e = rw (drop_more text n 0 (omega arith)) refl
