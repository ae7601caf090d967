-- Outcomes that may make an object or start an action keep the laws, by what they name.
use Rattle.std.specs.Prelude.{ℕ, suc, Bool, true, List, [], ◌∷◌, ◌++◌, ◌+◌, ◌*◌, ◌<◌, ◌≤◌, ◌≡◌, ◌≢◌, ◌==◌, Option, Some, None, length, map, flat_map, refl}
use Rattle.std.proofs.Common.{ap, sym, ◌∙◌, subst, arith, lit≤, length-append, inl, inr}
use Rattle.std.specs.List.{AllByRecursion, count_by}
use Rattle.std.proofs.lemmas.List.{length-map, map-append}
use Rattle.std.proofs.lemmas.List.Sums.{count_by-le-length}
use Rattle.hpx_value.specs.Values.{refs_in}
use Rattle.hpx_value.specs.declared.value.Value.{Value as Spelled}
use Rattle.hpx_value.specs.declared.value.Value.TheVariants.{Unit as SpelledUnit, Flag as SpelledFlag, Int as SpelledInt, Text as SpelledText, Ref as SpelledRef, Fault as SpelledFault, Ints as SpelledInts}
use Rattle.hpx_value.specs.declared.value.Cont.{Cont}
use Rattle.hpx_value.specs.declared.value.State.{State}
use Rattle.hpx_value.specs.declared.value.Act.{Act}
use Rattle.hpx_value.specs.declared.outcome.Make.{Make}
use Rattle.hpx_value.specs.declared.outcome.Sending.{Sending}
use Rattle.hpx_value.specs.declared.outcome.Reply.{Reply}
use Rattle.hpx_value.specs.declared.outcome.Outcome.{Outcome}
use Rattle.hpx_value.specs.Ids.{Id}
use Rattle.hpx_value.specs.Shapes.{IsValue, AreValues, IsMessage, IsState, IsCount, values_size, value_size, places_of, listed}
use Rattle.hpx_value.specs.Hands.{Slot, hand_ids, hand_slot, hand_slots, id_at, renumbered, conts_from, replied, sent}
use Rattle.hpx_value.specs.Mentions.{mentions, root_mentions, cont_place, cont_places, reply_mentions, send_mentions}
use Rattle.hpx_value.specs.Laws.{UsesEachOnce, answered, handed_on, uses, made_slots, drawn_slots, birth_state, IsManaged, IsMovable, MovesBelow, IsTarget, NamesSlotsOnce, KeepsLaws, target_kind}
use Rattle.hpx_value.proofs.Uses.{count-cons, used_below, used_few}
use Rattle.hpx_value.proofs.Kept as HandLemmas
use Rattle.hpx_calls.specs.Outcomes.{started, outcome}
use Rattle.hpx_calls.proofs.Keeps.{SameCounts, all_of, count-append, once_each, named_twice, all_append, at_below, conts_below}
use Rattle.hpx_calls.proofs.Controls.{IsCall}
use Rattle.hpx_calls.proofs.Shown.{IsSent}

-- ---- values whose Refs are numbered anew

pub refs_counted : (n : ℕ) (vs : List Spelled) → IsCount n (refs_in (renumbered n vs))
refs_counted n [] = tt
refs_counted n (SpelledRef p ∷ vs) = (refl, refs_counted (n + 1) vs)
refs_counted n (SpelledUnit ∷ vs) = refs_counted n vs
refs_counted n (SpelledFlag b ∷ vs) = refs_counted n vs
refs_counted n (SpelledInt z ∷ vs) = refs_counted n vs
refs_counted n (SpelledText t ∷ vs) = refs_counted n vs
refs_counted n (SpelledFault c ∷ vs) = refs_counted n vs
refs_counted n (SpelledInts zs ∷ vs) = refs_counted n vs

pub refs_many : (n : ℕ) (vs : List Spelled) → length (refs_in (renumbered n vs)) ≡ length (refs_in vs)
refs_many n [] = refl
refs_many n (SpelledRef p ∷ vs) = ap suc (refs_many (n + 1) vs)
refs_many n (SpelledUnit ∷ vs) = refs_many n vs
refs_many n (SpelledFlag b ∷ vs) = refs_many n vs
refs_many n (SpelledInt z ∷ vs) = refs_many n vs
refs_many n (SpelledText t ∷ vs) = refs_many n vs
refs_many n (SpelledFault c ∷ vs) = refs_many n vs
refs_many n (SpelledInts zs ∷ vs) = refs_many n vs

length_renumbered : (n : ℕ) (vs : List Spelled) → length (renumbered n vs) ≡ length vs
length_renumbered n [] = refl
length_renumbered n (SpelledRef p ∷ vs) = ap suc (length_renumbered (n + 1) vs)
length_renumbered n (SpelledUnit ∷ vs) = ap suc (length_renumbered n vs)
length_renumbered n (SpelledFlag b ∷ vs) = ap suc (length_renumbered n vs)
length_renumbered n (SpelledInt z ∷ vs) = ap suc (length_renumbered n vs)
length_renumbered n (SpelledText t ∷ vs) = ap suc (length_renumbered n vs)
length_renumbered n (SpelledFault c ∷ vs) = ap suc (length_renumbered n vs)
length_renumbered n (SpelledInts zs ∷ vs) = ap suc (length_renumbered n vs)

size_renumbered : (n : ℕ) (vs : List Spelled) → values_size (renumbered n vs) ≡ values_size vs
size_renumbered n [] = refl
size_renumbered n (SpelledRef p ∷ vs) = ap (λ m. 17 + m) (size_renumbered (n + 1) vs)
size_renumbered n (SpelledUnit ∷ vs) = ap (λ m. 1 + m) (size_renumbered n vs)
size_renumbered n (SpelledFlag b ∷ vs) = ap (λ m. 2 + m) (size_renumbered n vs)
size_renumbered n (SpelledInt z ∷ vs) = ap (λ m. 9 + m) (size_renumbered n vs)
size_renumbered n (SpelledText t ∷ vs) = ap (λ m. value_size (SpelledText t) + m) (size_renumbered n vs)
size_renumbered n (SpelledFault c ∷ vs) = ap (λ m. 2 + m) (size_renumbered n vs)
size_renumbered n (SpelledInts zs ∷ vs) = ap (λ m. value_size (SpelledInts zs) + m) (size_renumbered n vs)

values_renumbered : (n : ℕ) (vs : List Spelled) → AllByRecursion IsValue vs → AllByRecursion IsValue (renumbered n vs)
values_renumbered n [] h = tt
values_renumbered n (SpelledRef p ∷ vs) h = (tt, values_renumbered (n + 1) vs h.1)
values_renumbered n (SpelledUnit ∷ vs) h = (tt, values_renumbered n vs h.1)
values_renumbered n (SpelledFlag b ∷ vs) h = (tt, values_renumbered n vs h.1)
values_renumbered n (SpelledInt z ∷ vs) h = (tt, values_renumbered n vs h.1)
values_renumbered n (SpelledText t ∷ vs) h = (h.0, values_renumbered n vs h.1)
values_renumbered n (SpelledFault c ∷ vs) h = (h.0, values_renumbered n vs h.1)
values_renumbered n (SpelledInts zs ∷ vs) h = (h.0, values_renumbered n vs h.1)

are_renumbered : (n : ℕ) (vs : List Spelled) → AreValues vs → AreValues (renumbered n vs)
are_renumbered n vs h = let long = length_renumbered n vs in let few = h.few in record { few = omega arith; each = values_renumbered n vs h.each }

-- ---- actions for the plain object of this place

-- what starts: its code, its arguments, and the number of the continuation that it is to answer
pub record Start : Type 0 where
  pub code : ℕ
  pub args : List Spelled
  pub cont : ℕ

abbrev pub sends_of : ℕ → List Start → List Sending
sends_of here [] = []
sends_of here (x ∷ xs) = started here x.code x.args x.cont ∷ sends_of here xs

abbrev pub conts_of : List Start → List ℕ
conts_of [] = []
conts_of (x ∷ xs) = x.cont ∷ conts_of xs

-- the Refs of what is sent, and of what is replied
abbrev pub sent_refs : List Start → List ℕ
sent_refs [] = []
sent_refs (x ∷ xs) = refs_in x.args ++ sent_refs xs

abbrev pub told_refs : List Reply → List ℕ
told_refs [] = []
told_refs (x ∷ xs) = refs_in (x.value ∷ []) ++ told_refs xs

handed_of : (here : ℕ) (xs : List Start) → handed_on (sends_of here xs) ≡ conts_of xs
handed_of here [] = refl
handed_of here (x ∷ xs) = ap (λ rest. x.cont ∷ rest) (handed_of here xs)

none_made : (here : ℕ) (xs : List Start) → made_slots (sends_of here xs) ≡ []
none_made here [] = refl
none_made here (x ∷ xs) = none_made here xs

none_drawn : (here : ℕ) (xs : List Start) → drawn_slots (sends_of here xs) ≡ []
none_drawn here [] = refl
none_drawn here (x ∷ xs) = none_drawn here xs

length_sends : (here : ℕ) (xs : List Start) → length (sends_of here xs) ≡ length xs
length_sends here [] = refl
length_sends here (x ∷ xs) = ap suc (length_sends here xs)

-- ---- what is named, counted

count_sent : (s : State) (a : Act) (here : ℕ) (q : ℕ → Bool) (xs : List Start)
    → count_by q (flat_map (send_mentions s a) (sends_of here xs)) ≡ count_by q (sent_refs xs) + count_by q (map (cont_place s a) (conts_of xs))
count_sent s a here q [] = refl
count_sent s a here q (x ∷ xs) =
    let rest = count_sent s a here q xs in
    let one = count-append q (refs_in x.args ++ cont_place s a x.cont ∷ []) (flat_map (send_mentions s a) (sends_of here xs)) in
    let two = count-append q (refs_in x.args) (cont_place s a x.cont ∷ []) in
    let three = count-append q (refs_in x.args) (sent_refs xs) in
    let four = count-cons q (cont_place s a x.cont) (map (cont_place s a) (conts_of xs)) in
    let five = count-cons q (cont_place s a x.cont) [] in
    omega arith

count_told : (s : State) (a : Act) (q : ℕ → Bool) (rs : List Reply)
    → count_by q (flat_map (reply_mentions s a) rs) ≡ count_by q (told_refs rs) + count_by q (map (cont_place s a) (answered rs))
count_told s a q [] = refl
count_told s a q (x ∷ rs) =
    let rest = count_told s a q rs in
    let one = count-cons q (cont_place s a x.cont) (refs_in (x.value ∷ []) ++ flat_map (reply_mentions s a) rs) in
    let two = count-append q (refs_in (x.value ∷ [])) (flat_map (reply_mentions s a) rs) in
    let three = count-append q (refs_in (x.value ∷ [])) (told_refs rs) in
    let four = count-cons q (cont_place s a x.cont) (map (cont_place s a) (answered rs)) in
    omega arith

count_named : (s : State) (a : Act) (here : ℕ) (q : ℕ → Bool) (vs : List Spelled) (conts : List ℕ) (makes : List Make) (xs : List Start) (rs : List Reply)
    → count_by q (mentions s a (outcome s vs conts makes (sends_of here xs) rs))
    ≡ count_by q (refs_in vs) + count_by q (sent_refs xs) + count_by q (told_refs rs) + count_by q (map (cont_place s a) (conts ++ (handed_on (sends_of here xs) ++ answered rs)))
count_named s a here q vs conts makes xs rs =
    let f = cont_place s a in
    let sends = flat_map (send_mentions s a) (sends_of here xs) in
    let replies = flat_map (reply_mentions s a) rs in
    let one = count-append q (refs_in vs ++ map f conts) (sends ++ replies) in
    let two = count-append q (refs_in vs) (map f conts) in
    let three = count-append q sends replies in
    let four = count_sent s a here q xs in
    let five = count_told s a q rs in
    let six : count_by q (map f (conts ++ (handed_on (sends_of here xs) ++ answered rs))) ≡ count_by q (map f conts ++ (map f (conts_of xs) ++ map f (answered rs))) =
    ap (count_by q) (ap (λ hs. map f (conts ++ (hs ++ answered rs))) (handed_of here xs) ∙ map-append f conts (conts_of xs ++ answered rs)
    ∙ ap (λ ys. map f conts ++ ys) (map-append f (conts_of xs) (answered rs))) in
    let seven = count-append q (map f conts) (map f (conts_of xs) ++ map f (answered rs)) in
    let eight = count-append q (map f (conts_of xs)) (map f (answered rs)) in
    omega arith

count_every : (xs : List ℕ) → count_by (λ p. true) xs ≡ length xs
count_every [] = refl
count_every (x ∷ xs) = let rest = count_every xs in let step = count-cons (λ p. true) x xs in omega arith

-- ---- what is named lies below a bound

map_low : (limit : ℕ) (s : State) (a : Act) (is : List ℕ) → ((i : ℕ) → cont_place s a i < limit) → AllByRecursion (λ p. p < limit) (map (cont_place s a) is)
map_low limit s a [] f = tt
map_low limit s a (i ∷ is) f = (f i, map_low limit s a is f)

all_left : {X : Type 0} (P : X → Type 0) (xs ys : List X) → AllByRecursion P (xs ++ ys) → AllByRecursion P xs
all_left P [] ys h = tt
all_left P (x ∷ xs) ys h = (h.0, all_left P xs ys h.1)

all_right : {X : Type 0} (P : X → Type 0) (xs ys : List X) → AllByRecursion P (xs ++ ys) → AllByRecursion P ys
all_right P [] ys h = h
all_right P (x ∷ xs) ys h = all_right P xs ys h.1

sent_low : (limit : ℕ) (s : State) (a : Act) (here : ℕ) (xs : List Start) → ((i : ℕ) → cont_place s a i < limit) → AllByRecursion (λ p. p < limit) (sent_refs xs)
    → AllByRecursion (λ p. p < limit) (flat_map (send_mentions s a) (sends_of here xs))
sent_low limit s a here [] f h = tt
sent_low limit s a here (x ∷ xs) f h =
    all_append (λ p. p < limit) (refs_in x.args ++ cont_place s a x.cont ∷ []) (flat_map (send_mentions s a) (sends_of here xs))
    (all_append (λ p. p < limit) (refs_in x.args) (cont_place s a x.cont ∷ []) (all_left (λ p. p < limit) (refs_in x.args) (sent_refs xs) h) (f x.cont, tt))
    (sent_low limit s a here xs f (all_right (λ p. p < limit) (refs_in x.args) (sent_refs xs) h))

told_low : (limit : ℕ) (s : State) (a : Act) (rs : List Reply) → ((i : ℕ) → cont_place s a i < limit) → AllByRecursion (λ p. p < limit) (told_refs rs)
    → AllByRecursion (λ p. p < limit) (flat_map (reply_mentions s a) rs)
told_low limit s a [] f h = tt
told_low limit s a (x ∷ rs) f h = (
  f x.cont,
  all_append (λ p. p < limit) (refs_in (x.value ∷ [])) (flat_map (reply_mentions s a) rs) (all_left (λ p. p < limit) (refs_in (x.value ∷ [])) (told_refs rs) h)
      (told_low limit s a rs f (all_right (λ p. p < limit) (refs_in (x.value ∷ [])) (told_refs rs) h)),
)

-- ---- what is due is well formed

-- arguments that fit into a message
pub record AreArgs (vs : List Spelled) : Type 0 where
  pub values : AreValues vs
  pub refs : length (refs_in vs) ≤ 32
  pub short : values_size vs ≤ 64900

sent_messages : (s : State) (a : Act) (made : List Id) (here : ℕ) (xs : List Start) → AllByRecursion (λ x. AreArgs x.args) xs → AllByRecursion (λ x. IsMessage (sent s a made x)) (sends_of here xs)
sent_messages s a made here [] h = tt
sent_messages s a made here (x ∷ xs) h =
    let args = h.0 in
    let refs = refs_many 1 x.args in
    let few = args.refs in
    let short = args.short in
    let size = size_renumbered 1 x.args in
    let objects = length-map (refs_in x.args) (id_at (hand_ids s a made)) in
    let ids = length-append (map (id_at (hand_ids s a made)) (refs_in x.args)) ((hand_slot s a x.cont).object ∷ []) in (
      record {
        values = are_renumbered 1 x.args args.values;
        refs = refs_counted 1 x.args;
        few_refs = omega arith;
        cont = (omega arith, tt);
        ids = omega arith;
        short = omega arith;
      },
      sent_messages s a made here xs h.1,
    )

told_message : (s : State) (a : Act) (made : List Id) (cont : ℕ) (v : Spelled) → IsValue v → IsMessage (replied s a made (record { cont = cont; value = v }))
told_message s a made cont (SpelledRef p) h =
    record { values = record { few = lit≤ tt; each = (tt, (tt, tt)) }; refs = (refl, tt); few_refs = lit≤ tt; cont = tt; ids = refl; short = lit≤ tt }
told_message s a made cont SpelledUnit h = HandLemmas.answer_message (hand_ids s a made) (hand_slot s a cont) SpelledUnit h refl
told_message s a made cont (SpelledFlag b) h = HandLemmas.answer_message (hand_ids s a made) (hand_slot s a cont) (SpelledFlag b) h refl
told_message s a made cont (SpelledInt z) h = HandLemmas.answer_message (hand_ids s a made) (hand_slot s a cont) (SpelledInt z) h refl
told_message s a made cont (SpelledText t) h = HandLemmas.answer_message (hand_ids s a made) (hand_slot s a cont) (SpelledText t) h refl
told_message s a made cont (SpelledFault c) h = HandLemmas.answer_message (hand_ids s a made) (hand_slot s a cont) (SpelledFault c) h refl
told_message s a made cont (SpelledInts zs) h = HandLemmas.answer_message (hand_ids s a made) (hand_slot s a cont) (SpelledInts zs) h refl

told_messages : (s : State) (a : Act) (made : List Id) (rs : List Reply) → AllByRecursion (λ r. IsValue r.value) rs → AllByRecursion (λ x. IsMessage (replied s a made x)) rs
told_messages s a made [] h = tt
told_messages s a made (x ∷ rs) h = (told_message s a made x.cont x.value h.0, told_messages s a made rs h.1)

-- ---- the laws

-- what an outcome holds: new values, actions that start, and answers
pub record IsHeld (limit : ℕ) (vs : List Spelled) (xs : List Start) (rs : List Reply) : Type 0 where
  pub low : AllByRecursion (λ p. p < limit) (refs_in vs)
  pub sent_low : AllByRecursion (λ p. p < limit) (sent_refs xs)
  pub told_low : AllByRecursion (λ p. p < limit) (told_refs rs)
  pub twice : (place : ℕ) → count_by (λ p. p == place) (refs_in vs) ≤ 2
  pub sent_twice : (place : ℕ) → count_by (λ p. p == place) (sent_refs xs) ≤ 2
  pub told_once : length (told_refs rs) ≤ 1
  pub values : AreValues vs
  pub few : length (refs_in vs) ≤ 101
  pub sent_few : length (sent_refs xs) ≤ 16
  pub starts : length xs ≤ 1
  pub args : AllByRecursion (λ x. AreArgs x.args) xs
  pub replies : AllByRecursion (λ r. IsValue r.value) rs

-- objects that are made
abbrev pub IsMade : Make → Type 0
IsMade make = IsManaged make.kind × (refs_in make.values ≡ []) × IsState (birth_state make)

managed_all : (makes : List Make) → AllByRecursion IsMade makes → AllByRecursion (λ make. IsManaged make.kind × (refs_in make.values ≡ [])) makes
managed_all [] h = tt
managed_all (x ∷ xs) h = ((h.0.0, h.0.1), managed_all xs h.1)

births_all : (makes : List Make) → AllByRecursion IsMade makes → AllByRecursion (λ make. IsState (birth_state make)) makes
births_all [] h = tt
births_all (x ∷ xs) h = (h.0.2, births_all xs h.1)

codes_all : (here : ℕ) (xs : List Start) → AllByRecursion (λ x. IsSent x.code) xs → AllByRecursion (λ (x : Sending). (x.code ≢ 3) × (x.code ≢ 4)) (sends_of here xs)
codes_all here [] h = tt
codes_all here (x ∷ xs) h = ((h.0.1, h.0.2), codes_all here xs h.1)

moves_all : (n here : ℕ) (s : State) (a : Act) (out : Outcome) (xs : List Start) → AllByRecursion (λ x. IsSent x.code) xs
    → AllByRecursion (λ (x : Sending). x.code ≡ 1 → IsMovable (target_kind s a out x.target) × MovesBelow n x.args) (sends_of here xs)
moves_all n here s a out [] h = tt
moves_all n here s a out (x ∷ xs) h = ((λ e. absurd (h.0.0 e)), moves_all n here s a out xs h.1)

roots_all : (n here : ℕ) (xs : List Start) → here < n → AllByRecursion (λ (x : Sending). IsTarget n x.target) (sends_of here xs)
roots_all n here [] low = tt
roots_all n here (x ∷ xs) low = (inr (inr (inr refl), low), roots_all n here xs low)

slots_once : (kind : ℕ) (s : State) (vs : List Spelled) (conts : List ℕ) (makes : List Make) (here : ℕ) (xs : List Start) (rs : List Reply)
    → NamesSlotsOnce kind s (outcome s vs conts makes (sends_of here xs) rs)
slots_once kind s vs conts makes here xs rs =
    let made = none_made here xs in
    let drawn = none_drawn here xs in
    let long : length (drawn_slots (sends_of here xs)) ≡ 0 = ap length drawn in
    record {
      made = rw made tt;
      made_once = λ make slot. rw made (lit≤ tt);
      session = λ _. drawn;
      drawn = rw drawn tt;
      counted = omega arith;
    }

after_state : (s : State) (a : Act) (made : List Id) (vs : List Spelled) (slots : List Slot) → AreValues vs → length (refs_in vs) + length slots ≤ 128
    → 8 + values_size vs + length slots * 20 ≤ 65000
    → IsState (record {
      drawn = s.drawn;
      values = renumbered 0 vs;
      conts = conts_from (length (refs_in vs)) slots;
      ids = map (id_at (hand_ids s a made)) (refs_in vs) ++ map (λ x. x.object) slots;
    })
after_state s a made vs slots good few short =
    let refs = refs_many 0 vs in
    let size = size_renumbered 0 vs in
    let conts = HandLemmas.length-conts_from (length (refs_in vs)) slots in
    let one = length-map (refs_in vs) (id_at (hand_ids s a made)) in
    let two = length-map slots (λ (x : Slot). x.object) in
    let three = length-append (map (id_at (hand_ids s a made)) (refs_in vs)) (map (λ x. x.object) slots) in
    let P : ℕ → Type 0 = λ m. IsCount m (places_of (conts_from (length (refs_in vs)) slots)) in
    record {
      values = are_renumbered 0 vs good;
      refs = refs_counted 0 vs;
      conts = subst P (sym refs) (HandLemmas.placed (length (refs_in vs)) slots);
      ids = omega arith;
      few = omega arith;
      short = omega arith;
    }

pub full_keeps : (n kind here : ℕ) (s : State) (a : Act) (vs : List Spelled) (conts : List ℕ) (makes : List Make) (xs : List Start) (rs : List Reply)
    → here < n → IsCall kind s a → length s.conts ≤ 20 → SameCounts (conts ++ (handed_on (sends_of here xs) ++ answered rs)) (all_of s a)
    → IsHeld (length s.ids + length a.ids + length makes) vs xs rs
    → length (refs_in vs) + length conts ≤ 128 → 8 + values_size vs + length conts * 20 ≤ 65000
    → length makes ≤ 1 → AllByRecursion IsMade makes → AllByRecursion (λ x. IsSent x.code) xs
    → KeepsLaws n kind here s a (outcome s vs conts makes (sends_of here xs) rs)
full_keeps n kind here s a vs conts makes xs rs low h few all held room short one made codes =
    let out = outcome s vs conts makes (sends_of here xs) rs in
    let us = conts ++ (handed_on (sends_of here xs) ++ answered rs) in
    let limit = length s.ids + length a.ids + length makes in
    let once : UsesEachOnce (length (hand_slots s a)) (uses out) = once_each s a us all in
    let own = h.act.ids in
    let below : (i : ℕ) → cont_place s a i < limit = λ i. at_below limit i (cont_places s a) (conts_below s a limit h.state h.act (omega arith)) (omega arith) in
    let many = length_sends here xs in
    let starts = held.starts in
    let slots = length-map conts (hand_slot s a) in
    record {
      names = record {
        places =
            all_append (λ p. p < limit) (refs_in vs ++ map (cont_place s a) conts) (flat_map (send_mentions s a) (sends_of here xs) ++ flat_map (reply_mentions s a) rs)
            (all_append (λ p. p < limit) (refs_in vs) (map (cont_place s a) conts) held.low (map_low limit s a conts below))
            (all_append (λ p. p < limit) (flat_map (send_mentions s a) (sends_of here xs)) (flat_map (reply_mentions s a) rs)
            (sent_low limit s a here xs below held.sent_low) (told_low limit s a rs below held.told_low));
        conts = used_below (length (hand_slots s a)) (uses out) once;
        each = λ place _.
            let count = count_named s a here (λ p. p == place) vs conts makes xs rs in
            let twice = named_twice s a us place h.state all in
            let two = held.twice place in
            let three = held.sent_twice place in
            let told = count_by-le-length (λ p. p == place) (told_refs rs) in
            let most = held.told_once in
            omega arith;
        all =
            let used = used_few (length (hand_slots s a)) (uses out) once in
            let count = count_named s a here (λ p. true) vs conts makes xs rs in
            let one = count_every (mentions s a out) in
            let two = count_every (refs_in vs) in
            let three = count_every (sent_refs xs) in
            let four = count_every (told_refs rs) in
            let five = count_every (map (cont_place s a) us) in
            let six = length-map us (cont_place s a) in
            let hand = HandLemmas.length-hand_slots s a in
            let both = length-append s.conts (listed a.cont) in
            let own = listed_few a.cont in
            let most = held.few in
            let sent = held.sent_few in
            let told = held.told_once in
            let roots : root_mentions (outcome s vs conts makes (sends_of here xs) rs).sends ≤ length (sends_of here xs) + length (sends_of here xs) =
            HandLemmas.few_roots (sends_of here xs) in
            omega arith;
      };
      conts = once;
      slots = slots_once kind s vs conts makes here xs rs;
      few = record { makes = omega arith; sends = omega arith; prints = lit≤ tt; managed = managed_all makes made; session = λ _. refl; short = tt };
      shapes = record {
        state = λ ids. after_state s a ids vs (map (hand_slot s a) conts) held.values (omega arith) (omega arith);
        births = births_all makes made;
        sends = λ ids. sent_messages s a ids here xs held.args;
        replies = λ ids. told_messages s a ids rs held.replies;
      };
      moves = record {
        codes = codes_all here xs codes;
        moves = moves_all n here s a out xs codes;
        moved = λ code movable args. absurd (h.other.moves code movable args);
        place = λ code managed args. absurd (h.other.place code managed args);
      };
      plain = λ k. absurd (h.other.plain k);
      roots = roots_all n here xs low;
    }
  where
    listed_few : (cont : Option Cont) → length (listed cont) ≤ 1
    listed_few None = omega arith
    listed_few (Some c) = omega arith
