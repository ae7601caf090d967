-- Outcomes without Refs keep the laws.
use Rattle.std.specs.Prelude.{ℕ, zero, suc, Bool, true, false, List, [], ◌∷◌, ◌++◌, ◌+◌, ◌-◌, ◌*◌, ◌<◌, ◌≤◌, ◌≡◌, ◌≢◌, ◌==◌, Option, Some, None, length, map, flat_map, refl}
use Rattle.std.proofs.Common.{ap, sym, ◌∙◌, subst, arith, length-append, lit≤, add-one}
use Rattle.std.specs.List.{AllByRecursion, count_by, slice_index_or}
use Rattle.std.proofs.lemmas.Bool.{ne_eqb, eqb-true}
use Rattle.std.proofs.lemmas.List.{length-map, map-append}
use Rattle.std.proofs.lemmas.List.Sums.{sum_by-append, count_by-le-length}
use Rattle.hpx_value.specs.Values.{refs_in}
use Rattle.hpx_value.specs.declared.value.Value.{Value}
use Rattle.hpx_value.specs.declared.value.Value.TheVariants.{Unit as Nothing}
use Rattle.hpx_value.specs.declared.value.Cont.{Cont}
use Rattle.hpx_value.specs.declared.value.State.{State}
use Rattle.hpx_value.specs.declared.value.Act.{Act}
use Rattle.hpx_value.specs.declared.outcome.Reply.{Reply}
use Rattle.hpx_value.specs.Ids.{Id}
use Rattle.hpx_value.specs.Shapes.{IsValue, AreValues, IsMessage, IsState, IsAct, IsCount, values_size, places_of, listed}
use Rattle.hpx_value.specs.Hands.{Slot, hand_ids, hand_slot, hand_slots, id_at, renumbered, conts_from, replied}
use Rattle.hpx_value.specs.Kept
use Rattle.hpx_value.specs.Mentions.{mentions, cont_place, cont_places, reply_mentions}
use Rattle.hpx_value.specs.Laws.{UsesEachOnce, answered, uses, IsManaged, IsMovable, MovesBelow, KeepsLaws}
use Rattle.hpx_value.proofs.Uses.{one_if, count-cons, used_below, used_few}
use Rattle.hpx_value.proofs.Kept as HandLemmas
use Rattle.hpx_calls.specs.Outcomes.{numbers, cont_count, own_reply, freed, outcome}

-- ---- lists with the same elements, each as often

abbrev pub SameCounts : List ℕ → List ℕ → Type 0
SameCounts xs ys = (q : ℕ → Bool) → count_by q xs ≡ count_by q ys

pub count-append : (q : ℕ → Bool) (xs ys : List ℕ) → count_by q (xs ++ ys) ≡ count_by q xs + count_by q ys
count-append q xs ys = sum_by-append (λ p. one_if (q p)) xs ys

count-map : (q : ℕ → Bool) (f : ℕ → ℕ) (xs : List ℕ) → count_by q (map f xs) ≡ count_by (λ x. q (f x)) xs
count-map q f [] = refl
count-map q f (x ∷ xs) =
    let rest = count-map q f xs in
    let left : count_by q (map f (x ∷ xs)) ≡ one_if (q (f x)) + count_by q (map f xs) = count-cons q (f x) (map f xs) in
    let right : count_by (λ y. q (f y)) (x ∷ xs) ≡ one_if (q (f x)) + count_by (λ y. q (f y)) xs = count-cons (λ y. q (f y)) x xs in
    omega arith

pub numbers-split : (n a b : ℕ) → numbers n (a + b) ≡ numbers n a ++ numbers (n + a) b
numbers-split n zero b = ap (numbers n) same ∙ ap (λ m. numbers m b) here
  where
    same : zero + b ≡ b
    same = omega arith

    here : n ≡ n + zero
    here = omega arith
numbers-split n (suc a) b =
    ap (numbers n) same ∙ ap (λ rest. n ∷ rest) (numbers-split (n + 1) a b ∙ ap (λ m. numbers (n + 1) a ++ numbers m b) here)
  where
    same : suc a + b ≡ suc (a + b)
    same = omega arith

    here : n + 1 + a ≡ n + suc a
    here = omega arith

pub kept_numbers : {X : Type 0} (n : ℕ) (xs : List X) → numbers n (length xs) ≡ Kept.numbers n xs
kept_numbers n [] = refl
kept_numbers n (x ∷ xs) = ap (λ rest. n ∷ rest) (kept_numbers (n + 1) xs)

pub length-numbers : (n count : ℕ) → length (numbers n count) ≡ count
length-numbers n zero = refl
length-numbers n (suc count) = ap suc (length-numbers (n + 1) count)

-- ---- continuations used once

-- every continuation of the hand, by its number
abbrev pub all_of : State → Act → List ℕ
all_of s a = numbers 0 (length s.conts) ++ answered (own_reply s a.cont Nothing)

pub own_is : (s : State) (cont : Option Cont) (v : Value) → own_reply s cont v ≡ Kept.answers s cont v
own_is s None v = refl
own_is s (Some c) v = refl

own_told : (s : State) (cont : Option Cont) (v u : Value) → answered (own_reply s cont v) ≡ answered (own_reply s cont u)
own_told s None v u = refl
own_told s (Some c) v u = refl

own_waits : (s : State) (cont : Option Cont) → numbers (length s.conts) (cont_count cont) ≡ answered (own_reply s cont Nothing)
own_waits s None = refl
own_waits s (Some c) = refl

pub once_each : (s : State) (a : Act) (us : List ℕ) → SameCounts us (all_of s a) → UsesEachOnce (length (hand_slots s a)) us
once_each s a us h i =
    h (λ j. j == i)
    ∙ ap (λ ns. count_by (λ j. j == i) (ns ++ answered (own_reply s a.cont Nothing))) (kept_numbers 0 s.conts)
    ∙ ap (λ rs. count_by (λ j. j == i) (Kept.numbers 0 s.conts ++ answered rs)) (own_is s a.cont Nothing)
    ∙ HandLemmas.used_once s a Nothing i

-- an answer, a wait, and answers to those that wait longest
pub answers_all : (s : State) (a : Act) (v : Value) → SameCounts (numbers 0 (length s.conts) ++ answered (own_reply s a.cont v)) (all_of s a)
answers_all s a v q = ap (λ us. count_by q (numbers 0 (length s.conts) ++ us)) (own_told s a.cont v Nothing)

pub waits_all : (s : State) (a : Act) → SameCounts (numbers 0 (length s.conts + cont_count a.cont) ++ []) (all_of s a)
waits_all s a q =
    count-append q (numbers 0 (length s.conts + cont_count a.cont)) [] ∙ none
    ∙ ap (count_by q) (numbers-split 0 (length s.conts) (cont_count a.cont)
    ∙ ap (λ us. numbers 0 (length s.conts) ++ us) (ap (λ m. numbers m (cont_count a.cont)) here ∙ own_waits s a.cont))
  where
    here : 0 + length s.conts ≡ length s.conts
    here = omega arith

    none : count_by q (numbers 0 (length s.conts + cont_count a.cont)) + count_by q [] ≡ count_by q (numbers 0 (length s.conts + cont_count a.cont))
    none = omega arith

answered-append : (xs ys : List Reply) → answered (xs ++ ys) ≡ answered xs ++ answered ys
answered-append [] ys = refl
answered-append (x ∷ xs) ys = ap (λ rest. x.cont ∷ rest) (answered-append xs ys)

answered-freed : (v : Value) (n count : ℕ) → answered (freed v n count) ≡ numbers n count
answered-freed v n zero = refl
answered-freed v n (suc count) = ap (λ rest. n ∷ rest) (answered-freed v (n + 1) count)

pub frees_all : (s : State) (a : Act) (count : ℕ) (v u : Value) → count ≤ length s.conts
    → SameCounts (numbers count (length s.conts - count) ++ answered (freed v 0 count ++ own_reply s a.cont u)) (all_of s a)
frees_all s a count v u low q =
    let own = answered (own_reply s a.cont u) in
    let left = numbers count (length s.conts - count) in
    let one : count_by q (left ++ answered (freed v 0 count ++ own_reply s a.cont u)) ≡ count_by q (left ++ (numbers 0 count ++ own)) =
    ap (λ us. count_by q (left ++ us)) (answered-append (freed v 0 count) (own_reply s a.cont u) ∙ ap (λ us. us ++ own) (answered-freed v 0 count)) in
    let two = count-append q left (numbers 0 count ++ own) in
    let three = count-append q (numbers 0 count) own in
    let four : count_by q (numbers 0 (length s.conts)) ≡ count_by q (numbers 0 count ++ left) =
    ap (count_by q) (ap (numbers 0) whole ∙ numbers-split 0 count (length s.conts - count) ∙ ap (λ m. numbers 0 count ++ numbers m (length s.conts - count)) here) in
    let five = count-append q (numbers 0 count) left in
    let six : count_by q own ≡ count_by q (answered (own_reply s a.cont Nothing)) = ap (count_by q) (own_told s a.cont u Nothing) in
    let seven = count-append q (numbers 0 (length s.conts)) (answered (own_reply s a.cont Nothing)) in
    omega arith
  where
    whole : length s.conts ≡ count + (length s.conts - count)
    whole = omega arith

    here : 0 + count ≡ count
    here = omega arith

-- ---- what is named

pub at_below : (limit i : ℕ) (xs : List ℕ) → AllByRecursion (λ p. p < limit) xs → 0 < limit → slice_index_or xs i 0 < limit
at_below limit i [] h some = some
at_below limit zero (x ∷ xs) h some = h.0
at_below limit (suc i) (x ∷ xs) h some = at_below limit i xs h.1 some

all_map : (limit : ℕ) (f : ℕ → ℕ) (xs : List ℕ) → ((i : ℕ) → f i < limit) → AllByRecursion (λ p. p < limit) (map f xs)
all_map limit f [] h = tt
all_map limit f (x ∷ xs) h = (h x, all_map limit f xs h)

pub all_append : {X : Type 0} (P : X → Type 0) (xs ys : List X) → AllByRecursion P xs → AllByRecursion P ys → AllByRecursion P (xs ++ ys)
all_append P [] ys h i = i
all_append P (x ∷ xs) ys h i = (h.0, all_append P xs ys h.1 i)

pub length-places : (cs : List Cont) → length (places_of cs) ≡ length cs
length-places [] = refl
length-places (c ∷ cs) = ap suc (length-places cs)

own_below : (s : State) (a : Act) (limit : ℕ) (cont : Option Cont) → IsCount (length (refs_in a.args) + 1) (places_of (listed cont))
    → length s.ids + (1 + length (refs_in a.args) + length (listed cont)) ≤ limit
    → AllByRecursion (λ p. p < limit) (map (λ place. length s.ids + place) (places_of (listed cont)))
own_below s a limit None h low = tt
own_below s a limit (Some c) h low = let here = h.0 in (omega arith, tt)

pub conts_below : (s : State) (a : Act) (limit : ℕ) → IsState s → IsAct a → length s.ids + length a.ids ≤ limit → AllByRecursion (λ p. p < limit) (cont_places s a)
conts_below s a limit h act low =
    let ids = h.ids in
    let own = act.ids in
    let many = length-places s.conts in
    all_append (λ p. p < limit) (places_of s.conts) (map (λ place. length s.ids + place) (places_of (listed a.cont)))
    (HandLemmas.counted_below limit (length (refs_in s.values)) (places_of s.conts) h.conts (omega arith))
    (own_below s a limit a.cont act.cont (omega arith))

-- numbers in order stand once each
none_before : (i n : ℕ) (ps : List ℕ) → IsCount n ps → i < n → count_by (λ p. p == i) ps ≡ 0
none_before i n [] h low = refl
none_before i n (p ∷ ps) h low =
    let here = h.0 in
    let rest = none_before i (n + 1) ps h.1 (omega arith) in
    let other : one_if (p == i) ≡ 0 = ap one_if (ne_eqb p i (λ e. omega arith)) in
    let step = count-cons (λ p. p == i) p ps in
    omega arith

pub once_counted : (i n : ℕ) (ps : List ℕ) → IsCount n ps → count_by (λ p. p == i) ps ≤ 1
once_counted i n [] h = omega arith
once_counted i n (p ∷ ps) h = by_test (p == i) refl (once_counted i (n + 1) ps h.1) (count-cons (λ p. p == i) p ps) (none_before i (n + 1) ps h.1)
  where
    by_test : (b : Bool) → (p == i) ≡ b → count_by (λ p. p == i) ps ≤ 1 → count_by (λ p. p == i) (p ∷ ps) ≡ one_if (p == i) + count_by (λ p. p == i) ps
        → (i < n + 1 → count_by (λ p. p == i) ps ≡ 0) → count_by (λ p. p == i) (p ∷ ps) ≤ 1
    by_test true e rest step none =
        let here = h.0 in
        let this : one_if (p == i) ≡ 1 = ap one_if e in
        let same : p ≡ i = eqb-true p i e in
        let last = none (omega arith) in
        omega arith
    by_test false e rest step none = let this : one_if (p == i) ≡ 0 = ap one_if e in omega arith

-- what stands at the numbers of a list
map-shift : (f : ℕ → ℕ) (n count : ℕ) → map f (numbers (n + 1) count) ≡ map (λ i. f (suc i)) (numbers n count)
map-shift f n zero = refl
map-shift f n (suc count) = let rest = map-shift f (n + 1) count in let first : f (n + 1) ≡ f (suc n) = ap f (add-one n) in cc

pub map-front : (xs ys : List ℕ) → map (λ i. slice_index_or (xs ++ ys) i 0) (numbers 0 (length xs)) ≡ xs
map-front [] ys = refl
map-front (x ∷ xs) ys = ap (λ rest. x ∷ rest) (map-shift (λ i. slice_index_or (x ∷ (xs ++ ys)) i 0) 0 (length xs) ∙ map-front xs ys)

-- a place leads continuations of the hand twice at most
pub own_once : (q : ℕ → Bool) (s : State) (cont : Option Cont) → count_by q (answered (own_reply s cont Nothing)) ≤ 1
own_once q s None = omega arith
own_once q s (Some c) = let few : count_by q (length s.conts ∷ []) ≤ length (length s.conts ∷ []) = count_by-le-length q (length s.conts ∷ []) in omega arith

pub named_twice : (s : State) (a : Act) (us : List ℕ) (place : ℕ) → IsState s → SameCounts us (all_of s a)
    → count_by (λ p. p == place) (map (cont_place s a) us) ≤ 2
named_twice s a us place h all =
    let q : ℕ → Bool = λ j. cont_place s a j == place in
    let w = length s.conts in
    let one = count-map (λ p. p == place) (cont_place s a) us in
    let two = all q in
    let three = count-append q (numbers 0 w) (answered (own_reply s a.cont Nothing)) in
    let four : count_by q (numbers 0 w) ≡ count_by (λ p. p == place) (places_of s.conts) =
    sym (count-map (λ p. p == place) (cont_place s a) (numbers 0 w))
    ∙ ap (count_by (λ p. p == place)) (ap (λ m. map (cont_place s a) (numbers 0 m)) (sym (length-places s.conts))
    ∙ map-front (places_of s.conts) (map (λ p. length s.ids + p) (places_of (listed a.cont)))) in
    let five = once_counted place (length (refs_in s.values)) (places_of s.conts) h.conts in
    let six = own_once q s a.cont in
    omega arith

-- answers without Refs name where they go alone
abbrev pub ArePlain : List Reply → Type 0
ArePlain [] = Unit {0}
ArePlain (x ∷ xs) = IsValue x.value × (refs_in (x.value ∷ []) ≡ []) × ArePlain xs

plain_mentions : (s : State) (a : Act) (rs : List Reply) → ArePlain rs → flat_map (reply_mentions s a) rs ≡ map (cont_place s a) (answered rs)
plain_mentions s a [] h = refl
plain_mentions s a (x ∷ xs) h =
    ap (λ refs. (cont_place s a x.cont ∷ refs) ++ flat_map (reply_mentions s a) xs) h.1
    ∙ ap (λ rest. cont_place s a x.cont ∷ rest) (plain_mentions s a xs h.2)

plain_messages : (s : State) (a : Act) (made : List Id) (rs : List Reply) → ArePlain rs → AllByRecursion (λ x. IsMessage (replied s a made x)) rs
plain_messages s a made [] h = tt
plain_messages s a made (x ∷ xs) h = (HandLemmas.answer_message (hand_ids s a made) (hand_slot s a x.cont) x.value h.0 h.1, plain_messages s a made xs h.2)

-- ---- the laws

state_plain : (s : State) (a : Act) (made : List Id) (vs : List Value) (slots : List Slot) → refs_in vs ≡ [] → AreValues vs → length slots ≤ 128
    → 8 + values_size vs + length slots * 20 ≤ 65000
    → IsState (record {
      drawn = s.drawn;
      values = renumbered 0 vs;
      conts = conts_from (length (refs_in vs)) slots;
      ids = map (id_at (hand_ids s a made)) (refs_in vs) ++ map (λ x. x.object) slots;
    })
state_plain s a made vs slots e good few short =
    let counted : IsCount 0 (refs_in vs) = let P : List ℕ → Type 0 = IsCount 0 in subst P (sym e) tt in
    let objects = length-map slots (λ (x : Slot). x.object) in
    let conts : length (conts_from 0 slots) ≡ length slots = HandLemmas.length-conts_from 0 slots in
    rw (HandLemmas.same_values 0 vs counted, e) (record {
      values = good;
      refs = let P : List ℕ → Type 0 = IsCount 0 in subst P (sym e) tt;
      conts = let P : List ℕ → Type 0 = λ refs. IsCount (length refs) (places_of (conts_from 0 slots)) in subst P (sym e) (HandLemmas.placed 0 slots);
      ids = let none : length (refs_in vs) ≡ 0 = ap length e in omega arith;
      few = omega arith;
      short = omega arith;
    })

-- what a call is not that tells no place
pub record TellsNoPlace (kind : ℕ) (a : Act) : Type 0 where
  pub moves : a.code ≡ 1 → IsMovable kind → MovesBelow 64 a.args → ⊥
  pub place : a.code ≡ 2 → IsManaged kind → a.args ≡ [] → ⊥
  pub plain : kind ≢ 7

pub plain_keeps : (n kind here : ℕ) (s : State) (a : Act) (vs : List Value) (conts : List ℕ) (rs : List Reply) → IsState s → IsAct a → TellsNoPlace kind a
    → refs_in vs ≡ [] → AreValues vs → length conts ≤ 128 → 8 + values_size vs + length conts * 20 ≤ 65000 → ArePlain rs
    → SameCounts (conts ++ answered rs) (all_of s a) → KeepsLaws n kind here s a (outcome s vs conts [] [] rs)
plain_keeps n kind here s a vs conts rs h act other e good few short plain all =
    let out = outcome s vs conts [] [] rs in
    let once : UsesEachOnce (length (hand_slots s a)) (uses out) = once_each s a (conts ++ answered rs) all in
    let is : mentions s a out ≡ map (cont_place s a) (conts ++ answered rs) =
    ap (λ refs. (refs ++ map (cont_place s a) conts) ++ flat_map (reply_mentions s a) rs) e
    ∙ ap (λ ms. map (cont_place s a) conts ++ ms) (plain_mentions s a rs plain) ∙ sym (map-append (cont_place s a) conts (answered rs)) in
    let ids = h.ids in
    let own = act.ids in
    let most = h.few in
    let used = used_few (length (hand_slots s a)) (uses out) once in
    let named = length-map (conts ++ answered rs) (cont_place s a) in
    let slots = length-map conts (hand_slot s a) in
    record {
      names = record {
        places =
            let P : List ℕ → Type 0 = AllByRecursion (λ place. place < length s.ids + length a.ids + 0) in
            subst P (sym is) (all_map (length s.ids + length a.ids + 0) (cont_place s a) (conts ++ answered rs)
            (λ i. at_below (length s.ids + length a.ids + 0) i (cont_places s a) (conts_below s a (length s.ids + length a.ids + 0) h act (omega arith)) (omega arith)));
        conts = used_below (length (hand_slots s a)) (uses out) once;
        each = λ place _. let twice = named_twice s a (conts ++ answered rs) place h all in
            let P : List ℕ → Type 0 = λ ms. count_by (λ p. p == place) ms ≤ 8 in subst P (sym is) (omega arith);
        all = let P : List ℕ → Type 0 = λ ms. length ms + 0 ≤ 192 in subst P (sym is) (omega (arith, few_hands s a h used named));
      };
      conts = once;
      slots = record { made = tt; made_once = λ make slot. lit≤ tt; session = λ _. refl; drawn = tt; counted = omega arith };
      few = record { makes = lit≤ tt; sends = lit≤ tt; prints = lit≤ tt; managed = tt; session = λ _. refl; short = tt };
      shapes = record {
        state = λ made. state_plain s a made vs (map (hand_slot s a) conts) e good (omega arith) (omega arith);
        births = tt;
        sends = λ made. tt;
        replies = λ made. plain_messages s a made rs plain;
      };
      moves = record { codes = tt; moves = tt; moved = λ code movable args. absurd (other.moves code movable args); place = λ code managed args. absurd (other.place code managed args) };
      plain = λ k. absurd (other.plain k);
      roots = tt;
    }
  where
    listed_few : (cont : Option Cont) → length (listed cont) ≤ 1
    listed_few None = omega arith
    listed_few (Some c) = omega arith

    few_hands : (s : State) (a : Act) → IsState s → length (conts ++ answered rs) ≤ length (hand_slots s a)
        → length (map (cont_place s a) (conts ++ answered rs)) ≡ length (conts ++ answered rs) → length (map (cont_place s a) (conts ++ answered rs)) ≤ 192
    few_hands s a h used named =
        let slots = HandLemmas.length-hand_slots s a in
        let both = length-append s.conts (listed a.cont) in
        let ids = h.ids in
        let few = h.few in
        let one = listed_few a.cont in
        omega arith
