-- An outcome that keeps the state as it was, and answers, keeps the laws.
use Rattle.std.proofs.Common.{ℕ, zero, suc, pos, Bool, true, false, nat_lt, List, [], ◌∷◌, ◌++◌, ◌≡◌, ◌≢◌, ◌+◌, ◌<◌, ◌≤◌, ◌==◌, Option, Some, None, length, map, refl, sym, ap, ◌∙◌, subst, arith, lit≤, length-append, zero-add, add-one}
use Rattle.std.specs.Prelude.{flat_map}
use Rattle.std.specs.List.{AllByRecursion, count_by, slice_index_or}
use Rattle.std.proofs.lemmas.Bool.{eqb-true, eqb-false, ne_eqb, lt-ltb, le-ltb}
use Rattle.std.proofs.lemmas.List.{length-map, append-nil}
use Rattle.std.proofs.lemmas.List.Sums.{sum_by-append, count_by-le-length}
use Rattle.hpx_value.specs.Ids.{Id}
use Rattle.hpx_value.specs.Values.{Value, Nothing, Flag, Int, Text, Ref, Fault, Ints, Cont, State, Act, refs_in, bare_state}
use Rattle.hpx_value.specs.Shapes.{IsValue, IsMessage, IsState, IsAct, IsCount, places_of, listed}
use Rattle.hpx_value.specs.Hands.{Slot, session, id_at, slot_at, own_slot, hand_ids, hand_slots, hand_slot, renumbered, conts_from, slots_kept, state_after, answer, replied, Outcome, Target, Place, Root, SendCont, NoCont, Own, Made, Here, Sending}
use Rattle.hpx_value.specs.Kept.{numbers, kept, answers, stays}
use Rattle.hpx_value.specs.Mentions.{mentions, reply_mentions, cont_place, hand_size, target_roots, handed_roots, root_mentions}
use Rattle.hpx_value.specs.Laws.{UsesEachOnce, answered, uses, NamesItsHand, IsMovable, IsManaged, MovesBelow, TellsThePlace, KeepsLaws}
use Rattle.hpx_value.proofs.Uses.{one_if, count-cons, used_below}

-- ---- lists of numbers in order

pub same_values : (n : ℕ) (vs : List Value) → IsCount n (refs_in vs) → renumbered n vs ≡ vs
same_values n [] h = refl
same_values n (Ref place ∷ vs) h = rw (h.0) (ap (λ rest. Ref n ∷ rest) (same_values (n + 1) vs h.1))
same_values n (Nothing ∷ vs) h = ap (λ rest. Nothing ∷ rest) (same_values n vs h)
same_values n (Flag b ∷ vs) h = ap (λ rest. Flag b ∷ rest) (same_values n vs h)
same_values n (Int z ∷ vs) h = ap (λ rest. Int z ∷ rest) (same_values n vs h)
same_values n (Text bytes ∷ vs) h = ap (λ rest. Text bytes ∷ rest) (same_values n vs h)
same_values n (Fault code ∷ vs) h = ap (λ rest. Fault code ∷ rest) (same_values n vs h)
same_values n (Ints numbers ∷ vs) h = ap (λ rest. Ints numbers ∷ rest) (same_values n vs h)

pub counted_below : (m n : ℕ) (ps : List ℕ) → IsCount n ps → n + length ps ≤ m → AllByRecursion (λ p. p < m) ps
counted_below m n [] h low = tt
counted_below m n (p ∷ ps) h low = (omega (arith, h.0), counted_below m (n + 1) ps h.1 (omega arith))

pub length-numbers : {X : Type 0} (n : ℕ) (xs : List X) → length (numbers n xs) ≡ length xs
length-numbers n [] = refl
length-numbers n (x ∷ xs) = ap suc (length-numbers (n + 1) xs)

-- only the length matters
numbers_by_length : {X Y : Type 0} (n : ℕ) (xs : List X) (ys : List Y) → length xs ≡ length ys → numbers n xs ≡ numbers n ys
numbers_by_length n [] [] e = refl
numbers_by_length n (x ∷ xs) (y ∷ ys) e = ap (λ rest. n ∷ rest) (numbers_by_length (n + 1) xs ys (omega arith))
numbers_by_length n [] (y ∷ ys) e = absurd (omega arith)
numbers_by_length n (x ∷ xs) [] e = absurd (omega arith)

counted_numbers : (n : ℕ) (ps : List ℕ) → IsCount n ps → ps ≡ numbers n ps
counted_numbers n [] h = refl
counted_numbers n (p ∷ ps) h = rw (h.0) (ap (λ rest. n ∷ rest) (counted_numbers (n + 1) ps h.1))

counted_append : (n : ℕ) (ps qs : List ℕ) → IsCount n ps → IsCount (n + length ps) qs → IsCount n (ps ++ qs)
counted_append n [] qs h i = let P : ℕ → Type 0 = λ m. IsCount m qs in let e : n + 0 ≡ n = omega arith in subst P e i
counted_append n (p ∷ ps) qs h i =
    let P : ℕ → Type 0 = λ m. IsCount m qs in
    let e : n + length (p ∷ ps) ≡ n + 1 + length ps = omega arith in
    (h.0, counted_append (n + 1) ps qs h.1 (subst P e i))

pub numbers-append : {X : Type 0} (n : ℕ) (xs : List X) (x : X) → numbers n (xs ++ x ∷ []) ≡ numbers n xs ++ (n + length xs) ∷ []
numbers-append n [] x = ap (λ m. m ∷ []) (omega arith)
numbers-append n (y ∷ ys) x = ap (λ rest. n ∷ rest) (numbers-append (n + 1) ys x ∙ ap (λ m. numbers (n + 1) ys ++ m ∷ []) (omega arith))

-- ---- how often a number stands

count-numbers_below : {X : Type 0} (i n : ℕ) (xs : List X) → i < n → count_by (λ j. j == i) (numbers n xs) ≡ 0
count-numbers_below i n [] h = refl
count-numbers_below i n (x ∷ xs) h =
    let other : one_if (n == i) ≡ 0 = ap one_if (ne_eqb n i (omega arith)) in
    let rest = count-numbers_below i (n + 1) xs (omega arith) in
    let step = count-cons (λ j. j == i) n (numbers (n + 1) xs) in
    omega arith

count_first : {X : Type 0} (i n : ℕ) (x : X) (xs : List X) (b : Bool) → (n == i) ≡ b → n ≤ i
    → (n + 1 ≤ i → count_by (λ j. j == i) (numbers (n + 1) xs) ≡ one_if (nat_lt i (n + 1 + length xs)))
    → count_by (λ j. j == i) (numbers n (x ∷ xs)) ≡ one_if (nat_lt i (n + length (x ∷ xs)))
count_first i n x xs true e h more =
    let first : n ≡ i = eqb-true n i e in
    let this : one_if (n == i) ≡ 1 = ap one_if e in
    let within : one_if (nat_lt i (n + length (x ∷ xs))) ≡ 1 = ap one_if (lt-ltb i (n + length (x ∷ xs)) (omega arith)) in
    let rest = count-numbers_below i (n + 1) xs (omega arith) in
    let step = count-cons (λ j. j == i) n (numbers (n + 1) xs) in
    omega arith
count_first i n x xs false e h more =
    let apart : n ≢ i = eqb-false n i e in
    let this : one_if (n == i) ≡ 0 = ap one_if e in
    let same : one_if (nat_lt i (n + 1 + length xs)) ≡ one_if (nat_lt i (n + length (x ∷ xs))) = ap (λ m. one_if (nat_lt i m)) (omega arith) in
    let rest = more (omega arith) in
    let step = count-cons (λ j. j == i) n (numbers (n + 1) xs) in
    omega arith

count-numbers : {X : Type 0} (i n : ℕ) (xs : List X) → n ≤ i → count_by (λ j. j == i) (numbers n xs) ≡ one_if (nat_lt i (n + length xs))
count-numbers i n [] h = sym (ap one_if (le-ltb i (n + 0) (omega arith)))
count-numbers i n (x ∷ xs) h = count_first i n x xs (n == i) refl h (λ low. count-numbers i (n + 1) xs low)

count_most : {X : Type 0} (i : ℕ) (xs : List X) → count_by (λ j. j == i) (numbers 0 xs) ≤ 1
count_most i xs = rw (count-numbers i 0 xs (omega arith)) (small (nat_lt i (0 + length xs)))
  where
    small : (b : Bool) → one_if b ≤ 1
    small true = omega arith
    small false = omega arith

-- ---- what stands at the numbers of a list

map_shift : {X Y : Type 0} (f : ℕ → X) (n : ℕ) (ys : List Y) → map f (numbers (n + 1) ys) ≡ map (λ i. f (suc i)) (numbers n ys)
map_shift f n [] = refl
map_shift f n (y ∷ ys) = let rest = map_shift f (n + 1) ys in let first : f (n + 1) ≡ f (suc n) = ap f (add-one n) in cc

map_front : {X : Type 0} (xs ys : List X) (d : X) → map (λ i. slice_index_or (xs ++ ys) i d) (numbers 0 xs) ≡ xs
map_front [] ys d = refl
map_front (x ∷ xs) ys d = ap (λ rest. x ∷ rest) (map_shift (λ i. slice_index_or (x ∷ (xs ++ ys)) i d) 0 xs ∙ map_front xs ys d)

at_front : {X : Type 0} (xs ys : List X) (i : ℕ) (d : X) → i < length xs → slice_index_or xs i d ≡ slice_index_or (xs ++ ys) i d
at_front [] ys i d h = absurd (omega arith)
at_front (x ∷ xs) ys zero d h = refl
at_front (x ∷ xs) ys (suc i) d h = at_front xs ys i d (omega arith)

at_back : {X : Type 0} (xs ys : List X) (d : X) → slice_index_or (xs ++ ys) (length xs) d ≡ slice_index_or ys 0 d
at_back [] ys d = refl
at_back (x ∷ xs) ys d = at_back xs ys d

map_below : {X : Type 0} (f g : ℕ → X) (m : ℕ) (ps : List ℕ) → AllByRecursion (λ p. p < m) ps → ((p : ℕ) → p < m → f p ≡ g p) → map f ps ≡ map g ps
map_below f g m [] h e = refl
map_below f g m (p ∷ ps) h e = let first = e p h.0 in let rest = map_below f g m ps h.1 e in cc

map-append : {X : Type 0} (f : ℕ → X) (ps qs : List ℕ) → map f (ps ++ qs) ≡ map f ps ++ map f qs
map-append f [] qs = refl
map-append f (p ∷ ps) qs = ap (λ rest. f p ∷ rest) (map-append f ps qs)

-- ---- continuations

pub placed : (n : ℕ) (xs : List Slot) → IsCount n (places_of (conts_from n xs))
placed n [] = tt
placed n (x ∷ xs) = (refl, placed (n + 1) xs)

pub length-conts_from : (n : ℕ) (xs : List Slot) → length (conts_from n xs) ≡ length xs
length-conts_from n [] = refl
length-conts_from n (x ∷ xs) = ap suc (length-conts_from (n + 1) xs)

length-places : (cs : List Cont) → length (places_of cs) ≡ length cs
length-places [] = refl
length-places (c ∷ cs) = ap suc (length-places cs)

same_conts : (ids : List Id) (n : ℕ) (cs : List Cont) → IsCount n (places_of cs) → conts_from n (map (slot_at ids) cs) ≡ cs
same_conts ids n [] h = refl
same_conts ids n (c ∷ cs) h =
    let P : ℕ → Type 0 = λ p. conts_from n (map (slot_at ids) (c ∷ cs)) ≡ record { place = p; slot = c.slot } ∷ cs in
    subst P (sym h.0) (ap (λ rest. record { place = n; slot = c.slot } ∷ rest) (same_conts ids (n + 1) cs h.1))

objects : (ids : List Id) (cs : List Cont) → map (λ x. x.object) (map (slot_at ids) cs) ≡ map (id_at ids) (places_of cs)
objects ids [] = refl
objects ids (c ∷ cs) = ap (λ rest. id_at ids c.place ∷ rest) (objects ids cs)

length_own : (ids : List Id) (cont : Option Cont) → length (own_slot ids cont) ≡ length (listed cont)
length_own ids None = refl
length_own ids (Some c) = refl

pub length-hand_slots : (s : State) (a : Act) → length (hand_slots s a) ≡ length (s.conts ++ listed a.cont)
length-hand_slots s a =
    length-append (map (slot_at s.ids) s.conts) (own_slot a.ids a.cont)
    ∙ ap (λ m. m + length (own_slot a.ids a.cont)) (length-map s.conts (slot_at s.ids))
    ∙ ap (λ m. length s.conts + m) (length_own a.ids a.cont) ∙ sym (length-append s.conts (listed a.cont))

answered_own : (s : State) (cont : Option Cont) (v : Value) → numbers 0 s.conts ++ answered (answers s cont v) ≡ numbers 0 (s.conts ++ listed cont)
answered_own s None v = append-nil (numbers 0 s.conts) ∙ ap (numbers 0) (sym (append-nil s.conts))
answered_own s (Some c) v = ap (λ m. numbers 0 s.conts ++ m ∷ []) (omega arith) ∙ sym (numbers-append 0 s.conts c)

-- each continuation of the hand is kept or answered, where the kept ones come first
pub used_once : (s : State) (a : Act) (v : Value) → UsesEachOnce (length (hand_slots s a)) (numbers 0 s.conts ++ answered (answers s a.cont v))
used_once s a v i =
    ap (λ ns. count_by (λ j. j == i) ns) (answered_own s a.cont v)
    ∙ count-numbers i 0 (s.conts ++ listed a.cont) (omega arith)
    ∙ ap (λ m. one_if (nat_lt i m)) (zero-add (length (s.conts ++ listed a.cont)) ∙ sym (length-hand_slots s a))

-- ---- the state

kept_slots : (s : State) (a : Act) → slots_kept s a (kept s) ≡ map (slot_at s.ids) s.conts
kept_slots s a =
    let front = map (slot_at s.ids) s.conts in
    let d : Slot = record { object = session; number = 0 } in
    ap (map (hand_slot s a)) (numbers_by_length 0 s.conts front (sym (length-map s.conts (slot_at s.ids))))
    ∙ map_front front (own_slot a.ids a.cont) d

kept_ids : (ids rest : List Id) (refs places : List ℕ) → IsCount 0 refs → IsCount (length refs) places → length ids ≡ length refs + length places
    → map (id_at (ids ++ rest)) refs ++ map (id_at ids) places ≡ ids
kept_ids ids rest refs places h i e =
    let whole : IsCount 0 (refs ++ places) = let P : ℕ → Type 0 = λ m. IsCount m places in
    counted_append 0 refs places h (subst P (sym (zero-add (length refs))) i) in
    let long : length (refs ++ places) ≡ length ids = length-append refs places ∙ sym e in
    let low : AllByRecursion (λ p. p < length ids) places = counted_below (length ids) (length refs) places i (omega arith) in
    ap (λ xs. map (id_at (ids ++ rest)) refs ++ xs)
    (map_below (id_at ids) (id_at (ids ++ rest)) (length ids) places low (λ p l. at_front ids rest p session l))
    ∙ sym (map-append (id_at (ids ++ rest)) refs places)
    ∙ ap (map (id_at (ids ++ rest))) (counted_numbers 0 (refs ++ places) whole ∙ numbers_by_length 0 (refs ++ places) ids long)
    ∙ map_front ids rest session

same_state : (s : State) (values : List Value) (conts : List Cont) (ids : List Id) → values ≡ s.values → conts ≡ s.conts → ids ≡ s.ids
    → record { drawn = s.drawn; values = values; conts = conts; ids = ids } ≡ s
same_state s values conts ids p q r = rw p (rw q (rw r refl))

pub stays_same : (s : State) (a : Act) (made : List Id) (v : Value) → IsState s → state_after s a made (stays s a v) ≡ s
stays_same s a made v h =
    let slots = kept_slots s a in
    let refs = refs_in s.values in
    same_state s _ _ _ (same_values 0 s.values h.refs)
    (ap (conts_from (length refs)) slots ∙ same_conts s.ids (length refs) s.conts h.conts)
    (ap (λ xs. map (id_at (hand_ids s a made)) refs ++ map (λ x. x.object) xs) slots
    ∙ ap (λ xs. map (id_at (hand_ids s a made)) refs ++ xs) (objects s.ids s.conts)
    ∙ kept_ids s.ids (a.ids ++ made) refs (places_of s.conts) h.refs h.conts
    (h.ids ∙ ap (λ m. length refs + m) (sym (length-places s.conts))))

-- ---- what is named

own_place : (s : State) (a : Act) (c : Cont) → a.cont ≡ Some c → cont_place s a (length s.conts) ≡ length s.ids + c.place
own_place s a c e =
    let own = map (λ place. length s.ids + place) (places_of (listed a.cont)) in
    ap (λ m. slice_index_or (places_of s.conts ++ own) m 0) (sym (length-places s.conts)) ∙ at_back (places_of s.conts) own 0
    ∙ ap (λ cont. slice_index_or (map (λ place. length s.ids + place) (places_of (listed cont))) 0 0) e

-- at most one place, and it is one of the hand
pub record NamesOne (m : ℕ) (places : List ℕ) : Type 0 where
  pub below : AllByRecursion (λ place. place < m) places
  pub one : length places ≤ 1

-- an answer names the place of the action's own continuation
pub one_answer : (s : State) (a : Act) (v : Value) → IsAct a → refs_in (v ∷ []) ≡ [] → (cont : Option Cont) → a.cont ≡ cont
    → NamesOne (length s.ids + length a.ids + 0) (flat_map (reply_mentions s a) (answers s cont v))
one_answer s a v h plain None e = record { below = tt; one = omega arith }
one_answer s a v h plain (Some c) e =
    let at : IsCount (length (refs_in a.args) + 1) (places_of (listed (Some c))) =
    let P : Option Cont → Type 0 = λ x. IsCount (length (refs_in a.args) + 1) (places_of (listed x)) in subst P e h.cont in
    let many : length a.ids ≡ 1 + length (refs_in a.args) + 1 = h.ids ∙ ap (λ x. 1 + length (refs_in a.args) + length (listed x)) e in
    let place = own_place s a c e in
    let first : c.place ≡ length (refs_in a.args) + 1 = at.0 in
    let P : List ℕ → Type 0 = λ refs. NamesOne (length s.ids + length a.ids + 0) ((cont_place s a (length s.conts) ∷ refs) ++ []) in
    subst P (sym plain) (record { below = (omega arith, tt); one = omega arith })

kept_mentions : (s : State) (a : Act) (v : Value)
    → mentions s a (stays s a v) ≡ refs_in s.values ++ places_of s.conts ++ flat_map (reply_mentions s a) (answers s a.cont v)
kept_mentions s a v =
    let places = places_of s.conts in
    ap (λ xs. refs_in s.values ++ xs ++ flat_map (reply_mentions s a) (answers s a.cont v))
    (ap (map (cont_place s a)) (numbers_by_length 0 s.conts places (sym (length-places s.conts)))
    ∙ map_front places (map (λ place. length s.ids + place) (places_of (listed a.cont))) 0)

few_target : (x : Target) → target_roots x ≤ 1
few_target (Place place) = lit≤ tt
few_target (Root kind at) = lit≤ tt

few_handed : (x : SendCont) → handed_roots x ≤ 1
few_handed NoCont = lit≤ tt
few_handed (Own number) = lit≤ tt
few_handed (Made make slot) = lit≤ tt
few_handed (Here slot) = lit≤ tt

-- a send names two roots at most
pub few_roots : (xs : List Sending) → root_mentions xs ≤ length xs + length xs
few_roots [] = lit≤ tt
few_roots (x ∷ xs) = omega (arith, few_target x.target, few_handed x.cont, few_roots xs)

-- an outcome that names one place at most
pub few_named : (s : State) (a : Act) (out : Outcome) (places : List ℕ) → mentions s a out ≡ places → length out.sends ≤ 32
    → NamesOne (hand_size s a out) places → UsesEachOnce (length (hand_slots s a)) (uses out) → NamesItsHand s a out
few_named s a out places is few h once =
    let one = h.one in
    let roots = few_roots out.sends in
    record {
      places = let P : List ℕ → Type 0 = AllByRecursion (λ place. place < hand_size s a out) in subst P (sym is) h.below;
      conts = used_below (length (hand_slots s a)) (uses out) once;
      each = λ place _. rw is (omega (arith, count_by-le-length (λ p. p == place) places));
      all = rw is (omega arith);
    }

all_append : {X : Type 0} (P : X → Type 0) (xs ys : List X) → AllByRecursion P xs → AllByRecursion P ys → AllByRecursion P (xs ++ ys)
all_append P [] ys h i = i
all_append P (x ∷ xs) ys h i = (h.0, all_append P xs ys h.1 i)

all_below : (m n : ℕ) (ps : List ℕ) → m ≤ n → AllByRecursion (λ p. p < m) ps → AllByRecursion (λ p. p < n) ps
all_below m n [] low h = tt
all_below m n (p ∷ ps) low h = let this = h.0 in (omega arith, all_below m n ps low h.1)

names_hand : (s : State) (a : Act) (v : Value) → IsState s → IsAct a → refs_in (v ∷ []) ≡ [] → NamesItsHand s a (stays s a v)
names_hand s a v h act plain =
    let refs = refs_in s.values in
    let places = places_of s.conts in
    let reply = flat_map (reply_mentions s a) (answers s a.cont v) in
    let is = kept_mentions s a v in
    let counted : IsCount 0 (refs ++ places) = let P : ℕ → Type 0 = λ m. IsCount m places in
    counted_append 0 refs places h.refs (subst P (sym (zero-add (length refs))) h.conts) in
    let long : length (refs ++ places) ≡ length s.ids = length-append refs places ∙ ap (λ m. length refs + m) (length-places s.conts) ∙ sym h.ids in
    let own : NamesOne (length s.ids + length a.ids + 0) reply = one_answer s a v act plain a.cont refl in
    let few = h.few in
    let one = own.one in
    record {
      places =
          let P : List ℕ → Type 0 = AllByRecursion (λ place. place < length s.ids + length a.ids + 0) in
          subst P (sym is) (all_append (λ place. place < length s.ids + length a.ids + 0) (refs ++ places) reply
          (counted_below (length s.ids + length a.ids + 0) 0 (refs ++ places) counted (omega arith)) own.below);
      conts = used_below (length (hand_slots s a)) (uses (stays s a v)) (used_once s a v);
      each = λ place _.
          let first : count_by (λ p. p == place) (refs ++ places) ≤ 1 =
          rw (counted_numbers 0 (refs ++ places) counted) (count_most place (refs ++ places)) in
          let second : count_by (λ p. p == place) reply ≤ length reply = count_by-le-length (λ p. p == place) reply in
          let both : count_by (λ p. p == place) (refs ++ places ++ reply) ≡ count_by (λ p. p == place) (refs ++ places) + count_by (λ p. p == place) reply =
          sum_by-append (λ p. one_if (p == place)) (refs ++ places) reply in
          let P : List ℕ → Type 0 = λ xs. count_by (λ p. p == place) xs ≤ 8 in
          subst P (sym is) (omega arith);
      all =
          let both : length (refs ++ places ++ reply) ≡ length (refs ++ places) + length reply = length-append (refs ++ places) reply in
          let P : List ℕ → Type 0 = λ xs. length xs + 0 ≤ 192 in
          subst P (sym is) (omega arith);
    }

-- ---- the answer

pub answer_message : (hand : List Id) (x : Slot) (v : Value) → IsValue v → refs_in (v ∷ []) ≡ [] → IsMessage (answer hand x v)
answer_message hand x Nothing h e =
    record { values = record { few = lit≤ tt; each = (tt, (tt, tt)) }; refs = tt; few_refs = lit≤ tt; cont = tt; ids = refl; short = lit≤ tt }
answer_message hand x (Flag b) h e =
    record { values = record { few = lit≤ tt; each = (tt, (tt, tt)) }; refs = tt; few_refs = lit≤ tt; cont = tt; ids = refl; short = lit≤ tt }
answer_message hand x (Int z) h e =
    record { values = record { few = lit≤ tt; each = (tt, (tt, tt)) }; refs = tt; few_refs = lit≤ tt; cont = tt; ids = refl; short = lit≤ tt }
answer_message hand x (Text bytes) h e =
    record { values = record { few = lit≤ tt; each = (tt, (h, tt)) }; refs = tt; few_refs = lit≤ tt; cont = tt; ids = refl; short = omega arith }
answer_message hand x (Fault code) h e =
    record { values = record { few = lit≤ tt; each = (tt, (h, tt)) }; refs = tt; few_refs = lit≤ tt; cont = tt; ids = refl; short = lit≤ tt }
answer_message hand x (Ints numbers) h e =
    record { values = record { few = lit≤ tt; each = (tt, (h, tt)) }; refs = tt; few_refs = lit≤ tt; cont = tt; ids = refl; short = omega arith }
answer_message hand x (Ref place) h e = absurd (cc)

pub answers_messages : (s : State) (a : Act) (made : List Id) (cont : Option Cont) (v : Value) → IsValue v → refs_in (v ∷ []) ≡ []
    → AllByRecursion (λ x. IsMessage (replied s a made x)) (answers s cont v)
answers_messages s a made None v h e = tt
answers_messages s a made (Some c) v h e = (answer_message (hand_ids s a made) (hand_slot s a (length s.conts)) v h e, tt)

-- ---- the laws

-- it is the whole answer to a MOVE and to a WHERE
pub stays_tells : (here : ℕ) (s : State) (a : Act) → TellsThePlace here s a (stays s a (Int (pos here)))
stays_tells here s a = refl

-- an outcome that keeps the state and answers a value without Refs keeps the laws, where it answers MOVE and WHERE rightly
pub stays_keeps : (n kind here : ℕ) (s : State) (a : Act) (v : Value) → IsState s → IsAct a → IsValue v → refs_in (v ∷ []) ≡ []
    → (a.code ≡ 1 → IsMovable kind → MovesBelow 64 a.args → TellsThePlace here s a (stays s a v))
    → (a.code ≡ 2 → IsManaged kind → a.args ≡ [] → TellsThePlace here s a (stays s a v))
    → KeepsLaws n kind here s a (stays s a v)
stays_keeps n kind here s a v h act good plain moved place = record {
  names = names_hand s a v h act plain;
  conts = used_once s a v;
  slots = record { made = tt; made_once = λ make slot. lit≤ tt; session = λ _. refl; drawn = tt; counted = omega arith };
  few = record { makes = lit≤ tt; sends = lit≤ tt; prints = lit≤ tt; managed = tt; session = λ _. refl; short = tt };
  shapes = record {
    state = λ made. let P : State → Type 0 = IsState in subst P (sym (stays_same s a made v h)) h;
    births = tt;
    sends = λ made. tt;
    replies = λ made. answers_messages s a made a.cont v good plain;
  };
  moves = record { codes = tt; moves = tt; moved = moved; place = place };
  plain = λ k values conts. (values, ap (numbers 0) conts);
  roots = tt;
}
