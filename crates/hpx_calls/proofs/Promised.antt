-- Actions on promises keep the laws.
use Rattle.std.specs.Prelude.{ℕ, zero, suc, Bool, true, false, List, [], ◌∷◌, ◌++◌, ◌+◌, ◌-◌, ◌*◌, ◌<◌, ◌≤◌, ◌≡◌, ◌==◌, Option, Some, None, length, map, flat_map, refl}
use Rattle.std.proofs.Common.{ap, sym, ◌∙◌, subst, arith, lit≤}
use Rattle.std.specs.List.{AllByRecursion, count_by}
use Rattle.std.proofs.lemmas.Bool.{eqb-true, ne_eqb}
use Rattle.std.proofs.lemmas.List.{append-nil}
use Rattle.std.proofs.lemmas.List.Sums.{count_by-le-length}
use Rattle.hpx_value.specs.Values.{refs_in}
use Rattle.hpx_value.specs.declared.value.Value.{Value as Spelled}
use Rattle.hpx_value.specs.declared.value.Value.TheVariants.{Unit as SpelledUnit, Flag as SpelledFlag, Int as SpelledInt, Text as SpelledText, Ref as SpelledRef, Fault as SpelledFault, Ints as SpelledInts}
use Rattle.hpx_value.specs.declared.value.Cont.{Cont}
use Rattle.hpx_value.specs.declared.value.State.{State}
use Rattle.hpx_value.specs.declared.value.Act.{Act}
use Rattle.hpx_value.specs.declared.outcome.Reply.{Reply}
use Rattle.hpx_value.specs.Ids.{Id}
use Rattle.hpx_value.specs.Shapes.{IsValue, IsMessage, IsState, IsAct, IsCount, places_of, listed}
use Rattle.hpx_value.specs.Hands.{hand_slots, state_after, replied}
use Rattle.hpx_value.specs.Mentions.{mentions, cont_place, cont_places, reply_mentions}
use Rattle.hpx_value.specs.Laws.{UsesEachOnce, answered, uses, KeepsLaws}
use Rattle.hpx_value.proofs.Uses.{one_if, count-cons, used_below}
use Rattle.hpx_value.proofs.Kept as HandLemmas
use Rattle.hpx_calls.specs.Outcomes.{numbers, has_cont, own_reply, freed, outcome}
use Rattle.hpx_calls.proofs.Keeps.{SameCounts, all_of, answers_all, frees_all, once_each, map-front, length-places, at_below, conts_below, once_counted}
use Rattle.hpx_calls.specs.Values.{spelled, is_number_or_text}
use Rattle.hpx_calls.specs.Requests.{Request, Set, Get, Put}
use Rattle.hpx_calls.specs.Contents.{Promise}
use Rattle.hpx_calls.specs.Effects.{Answers}
use Rattle.hpx_calls.specs.Tables.{leaves, sets, on_promise, is_first}
use Rattle.hpx_calls.proofs.Asked.{IsPlaced, IsFair}
use Rattle.hpx_calls.proofs.Controls.{IsCall, IsGood, ArePlainValues, good_if, stay_good, refused_good, silent_good, waits_good, frees_good}

-- an outcome that sends and makes nothing keeps the laws, by what it names and what it leaves
pub general_keeps : (n kind here : ℕ) (s : State) (a : Act) (vs : List Spelled) (conts : List ℕ) (rs : List Reply) → IsCall kind s a
    → SameCounts (conts ++ answered rs) (all_of s a)
    → AllByRecursion (λ place. place < length s.ids + length a.ids + 0) (mentions s a (outcome s vs conts [] [] rs))
    → ((place : ℕ) → count_by (λ p. p == place) (mentions s a (outcome s vs conts [] [] rs)) ≤ 8)
    → length (mentions s a (outcome s vs conts [] [] rs)) ≤ 192
    → ((made : List Id) → IsState (state_after s a made (outcome s vs conts [] [] rs)))
    → ((made : List Id) → AllByRecursion (λ x. IsMessage (replied s a made x)) rs)
    → KeepsLaws n kind here s a (outcome s vs conts [] [] rs)
general_keeps n kind here s a vs conts rs h all places few many state messages =
    let out = outcome s vs conts [] [] rs in
    let once : UsesEachOnce (length (hand_slots s a)) (uses out) = once_each s a (conts ++ answered rs) all in
    record {
      names = record { places = places; conts = used_below (length (hand_slots s a)) (uses out) once; each = λ place _. few place; all = omega (arith, many) };
      conts = once;
      slots = record { made = tt; made_once = λ make slot. lit≤ tt; session = λ _. refl; drawn = tt; counted = omega arith };
      few = record { makes = lit≤ tt; sends = lit≤ tt; prints = lit≤ tt; managed = tt; session = λ _. refl; short = tt };
      shapes = record { state = state; births = tt; sends = λ made. tt; replies = messages };
      moves = record { codes = tt; moves = tt; moved = λ code movable args. absurd (h.other.moves code movable args); place = λ code managed args. absurd (h.other.place code managed args) };
      plain = λ k. absurd (h.other.plain k);
      roots = tt;
    }

-- ---- a Ref that answers many

count_absent : (m place : ℕ) (ps : List ℕ) → AllByRecursion (λ p. p < m) ps → m ≤ place → count_by (λ p. p == place) ps ≡ 0
count_absent m place [] h low = refl
count_absent m place (p ∷ ps) h low =
    let here = h.0 in
    let rest = count_absent m place ps h.1 low in
    let other : one_if (p == place) ≡ 0 = ap one_if (ne_eqb p place (λ e. omega arith)) in
    let step = count-cons (λ p. p == place) p ps in
    omega arith

-- where the kept continuations lead
kept_places : (s : State) (a : Act) → map (cont_place s a) (numbers 0 (length s.conts)) ≡ places_of s.conts
kept_places s a =
    ap (λ m. map (cont_place s a) (numbers 0 m)) (sym (length-places s.conts))
    ∙ map-front (places_of s.conts) (map (λ p. length s.ids + p) (places_of (listed a.cont)))

freed_count : (s : State) (a : Act) (q place n count : ℕ)
    → count_by (λ p. p == place) (flat_map (reply_mentions s a) (freed (SpelledRef q) n count)) ≡ count_by (λ p. p == place) (map (cont_place s a) (numbers n count)) + count * one_if (q == place)
freed_count s a q place n zero = omega arith
freed_count s a q place n (suc count) =
    let rest = freed_count s a q place (n + 1) count in
    let one = count-cons (λ p. p == place) (cont_place s a n) (q ∷ flat_map (reply_mentions s a) (freed (SpelledRef q) (n + 1) count)) in
    let two = count-cons (λ p. p == place) q (flat_map (reply_mentions s a) (freed (SpelledRef q) (n + 1) count)) in
    let three = count-cons (λ p. p == place) (cont_place s a n) (map (cont_place s a) (numbers (n + 1) count)) in
    omega arith

freed_below : (s : State) (a : Act) (q limit n count : ℕ) → ((i : ℕ) → cont_place s a i < limit) → q < limit
    → AllByRecursion (λ place. place < limit) (flat_map (reply_mentions s a) (freed (SpelledRef q) n count))
freed_below s a q limit n zero f h = tt
freed_below s a q limit n (suc count) f h = (f n, (h, freed_below s a q limit (n + 1) count f h))

freed_length : (s : State) (a : Act) (q n count : ℕ) → length (flat_map (reply_mentions s a) (freed (SpelledRef q) n count)) ≡ 2 * count
freed_length s a q n zero = refl
freed_length s a q n (suc count) = let rest = freed_length s a q (n + 1) count in omega arith

ref_message : (s : State) (a : Act) (made : List Id) (q cont : ℕ) → IsMessage (replied s a made (record { cont = cont; value = SpelledRef q }))
ref_message s a made q cont =
    record { values = record { few = lit≤ tt; each = (tt, (tt, tt)) }; refs = (refl, tt); few_refs = lit≤ tt; cont = tt; ids = refl; short = lit≤ tt }

freed_messages : (s : State) (a : Act) (made : List Id) (q n count : ℕ) → AllByRecursion (λ x. IsMessage (replied s a made x)) (freed (SpelledRef q) n count)
freed_messages s a made q n zero = tt
freed_messages s a made q n (suc count) = (ref_message s a made q n, freed_messages s a made q (n + 1) count)

ref_state : (s : State) (a : Act) (made : List Id) (q : ℕ) (rs : List Reply) → IsState (state_after s a made (outcome s (SpelledRef q ∷ []) [] [] [] rs))
ref_state s a made q rs =
    record { values = record { few = lit≤ tt; each = (tt, tt) }; refs = (refl, tt); conts = tt; ids = refl; few = lit≤ tt; short = lit≤ tt }

place_below : (s : State) (a : Act) → IsState s → IsAct a → (i : ℕ) → cont_place s a i < length s.ids + length a.ids + 0
place_below s a h act i =
    let own = act.ids in
    at_below (length s.ids + length a.ids + 0) i (cont_places s a) (conts_below s a (length s.ids + length a.ids + 0) h act (omega arith)) (omega arith)

places_low : (s : State) → IsState s → AllByRecursion (λ p. p < length s.ids) (places_of s.conts)
places_low s h = let ids = h.ids in let many = length-places s.conts in HandLemmas.counted_below (length s.ids) (length (refs_in s.values)) (places_of s.conts) h.conts (omega arith)

set_few : (s : State) (a : Act) (q place : ℕ) (b : Bool) → (q == place) ≡ b → IsState s → length s.ids ≤ q → length s.conts ≤ 7
    → count_by (λ p. p == place) (q ∷ flat_map (reply_mentions s a) (freed (SpelledRef q) 0 (length s.conts))) ≤ 8
set_few s a q place true e h low few =
    let this : one_if (q == place) ≡ 1 = ap one_if e in
    let same : q ≡ place = eqb-true q place e in
    let all = freed_count s a q place 0 (length s.conts) in
    let none : count_by (λ p. p == place) (map (cont_place s a) (numbers 0 (length s.conts))) ≡ 0 =
    ap (count_by (λ p. p == place)) (kept_places s a) ∙ count_absent (length s.ids) place (places_of s.conts) (places_low s h) (omega arith) in
    let step = count-cons (λ p. p == place) q (flat_map (reply_mentions s a) (freed (SpelledRef q) 0 (length s.conts))) in
    let times : length s.conts * one_if (q == place) ≡ length s.conts * 1 = ap (λ k. length s.conts * k) this in
    omega arith
set_few s a q place false e h low few =
    let this : one_if (q == place) ≡ 0 = ap one_if e in
    let all = freed_count s a q place 0 (length s.conts) in
    let one : count_by (λ p. p == place) (map (cont_place s a) (numbers 0 (length s.conts))) ≡ count_by (λ p. p == place) (places_of s.conts) =
    ap (count_by (λ p. p == place)) (kept_places s a) in
    let most = once_counted place (length (refs_in s.values)) (places_of s.conts) h.conts in
    let step = count-cons (λ p. p == place) q (flat_map (reply_mentions s a) (freed (SpelledRef q) 0 (length s.conts))) in
    let times : length s.conts * one_if (q == place) ≡ length s.conts * 0 = ap (λ k. length s.conts * k) this in
    omega arith

-- a SET of a Ref answers all that wait
pub set_ref_keeps : (n kind here : ℕ) (s : State) (a : Act) (q : ℕ) → IsCall kind s a → SameCounts (answered (freed (SpelledRef q) 0 (length s.conts))) (all_of s a)
    → length s.ids ≤ q → q < length s.ids + length a.ids → length s.conts ≤ 7
    → KeepsLaws n kind here s a (outcome s (SpelledRef q ∷ []) [] [] [] (freed (SpelledRef q) 0 (length s.conts)))
set_ref_keeps n kind here s a q h all low high few =
    let long = freed_length s a q 0 (length s.conts) in
    general_keeps n kind here s a (SpelledRef q ∷ []) [] (freed (SpelledRef q) 0 (length s.conts)) h all
    (omega arith, freed_below s a q (length s.ids + length a.ids + 0) 0 (length s.conts) (place_below s a h.state h.act) (omega arith))
    (λ place. set_few s a q place (q == place) refl h.state low few)
    (omega arith)
    (λ made. ref_state s a made q (freed (SpelledRef q) 0 (length s.conts)))
    (λ made. freed_messages s a made q 0 (length s.conts))

-- ---- what is asked of a promise

value_plain : (v : Spelled) → IsValue v → refs_in (v ∷ []) ≡ [] → ArePlainValues (v ∷ [])
value_plain SpelledUnit h e = record { refs = e; values = record { few = lit≤ tt; each = (h, tt) }; short = lit≤ tt }
value_plain (SpelledFlag b) h e = record { refs = e; values = record { few = lit≤ tt; each = (h, tt) }; short = lit≤ tt }
value_plain (SpelledInt z) h e = record { refs = e; values = record { few = lit≤ tt; each = (h, tt) }; short = lit≤ tt }
value_plain (SpelledText t) h e = record { refs = e; values = record { few = lit≤ tt; each = (h, tt) }; short = omega arith }
value_plain (SpelledRef p) h e = absurd (cc)
value_plain (SpelledFault c) h e = record { refs = e; values = record { few = lit≤ tt; each = (h, tt) }; short = lit≤ tt }
value_plain (SpelledInts zs) h e = record { refs = e; values = record { few = lit≤ tt; each = (h, tt) }; short = omega arith }

plain_set : (n kind here : ℕ) (s : State) (a : Act) (v : Spelled) → IsCall kind s a → length s.conts ≤ 7 → IsValue v → refs_in (v ∷ []) ≡ []
    → IsGood n kind here s a (sets spelled (length s.conts) None v)
plain_set n kind here s a v h few good bare =
    frees_good n kind here s a (Promise (Some v)) (length s.conts) v SpelledUnit h (omega arith) (omega arith) (value_plain v good bare) good bare tt refl

no_cont : (c : Option Cont) → has_cont c ≡ false → c ≡ None
no_cont None e = refl
no_cont (Some c) e = cc

ref_set : (n kind here : ℕ) (s : State) (a : Act) (q : ℕ) → IsCall kind s a → length s.conts ≤ 7 → length s.ids ≤ q → q < length s.ids + length a.ids → has_cont a.cont ≡ false
    → IsGood n kind here s a (sets spelled (length s.conts) None (SpelledRef q))
ref_set n kind here s a q h few low high none =
    let w = length s.conts in
    let v = SpelledRef q in
    let left : numbers w (w - w) ≡ [] = ap (numbers w) (nothing_left w) in
    let replies : freed v 0 w ++ own_reply s a.cont SpelledUnit ≡ freed v 0 w =
    ap (λ c. freed v 0 w ++ own_reply s c SpelledUnit) (no_cont a.cont none) ∙ append-nil (freed v 0 w) in
    let P : List ℕ → Type 0 = λ us. SameCounts (us ++ answered (freed v 0 w ++ own_reply s a.cont SpelledUnit)) (all_of s a) in
    let Q : List Reply → Type 0 = λ rs. SameCounts (answered rs) (all_of s a) in
    let all : SameCounts (answered (freed v 0 w)) (all_of s a) = subst Q replies (subst P left (frees_all s a w v SpelledUnit (omega arith))) in
    let R : List Reply → Type 0 = λ rs. KeepsLaws n kind here s a (outcome s (v ∷ []) (numbers w (w - w)) [] [] rs) in
    let S : List ℕ → Type 0 = λ us. KeepsLaws n kind here s a (outcome s (v ∷ []) us [] [] (freed v 0 w)) in
    subst R (sym replies) (subst S (sym left) (set_ref_keeps n kind here s a q h all low high few))
  where
    nothing_left : (k : ℕ) → k - k ≡ 0
    nothing_left k = omega arith

set_good : (n kind here : ℕ) (s : State) (a : Act) (v : Spelled) → IsCall kind s a → length s.conts ≤ 7 → IsPlaced (length s.ids) (length s.ids + length a.ids) v → has_cont a.cont ≡ false
    → IsGood n kind here s a (sets spelled (length s.conts) None v)
set_good n kind here s a SpelledUnit h few placed none = plain_set n kind here s a SpelledUnit h few placed refl
set_good n kind here s a (SpelledFlag b) h few placed none = plain_set n kind here s a (SpelledFlag b) h few placed refl
set_good n kind here s a (SpelledInt z) h few placed none = plain_set n kind here s a (SpelledInt z) h few placed refl
set_good n kind here s a (SpelledText t) h few placed none = plain_set n kind here s a (SpelledText t) h few placed refl
set_good n kind here s a (SpelledRef q) h few placed none = ref_set n kind here s a q h few placed.0 placed.1 none
set_good n kind here s a (SpelledFault c) h few placed none = plain_set n kind here s a (SpelledFault c) h few placed refl
set_good n kind here s a (SpelledInts zs) h few placed none = plain_set n kind here s a (SpelledInts zs) h few placed refl

put_good : (n kind here : ℕ) (s : State) (a : Act) (v : Spelled) → IsCall kind s a → length s.conts ≤ 7 → IsPlaced (length s.ids) (length s.ids + length a.ids) v
    → is_number_or_text (spelled.look v) ≡ true → IsGood n kind here s a (sets spelled (length s.conts) None v)
put_good n kind here s a (SpelledInt z) h few placed e = plain_set n kind here s a (SpelledInt z) h few placed refl
put_good n kind here s a (SpelledText t) h few placed e = plain_set n kind here s a (SpelledText t) h few placed refl
put_good n kind here s a SpelledUnit h few placed e = cc
put_good n kind here s a (SpelledFlag b) h few placed e = cc
put_good n kind here s a (SpelledRef q) h few placed e = cc
put_good n kind here s a (SpelledFault c) h few placed e = cc
put_good n kind here s a (SpelledInts zs) h few placed e = cc

-- a Ref that is kept answers one more
get_ref : (n kind here : ℕ) (s : State) (a : Act) (q : ℕ) (c : Option Cont) → IsCall kind s a → a.cont ≡ c → length s.conts ≡ 0 → q < length s.ids
    → KeepsLaws n kind here s a (outcome s (SpelledRef q ∷ []) [] [] [] (own_reply s c (SpelledRef q)))
get_ref n kind here s a q None h e none low =
    general_keeps n kind here s a (SpelledRef q ∷ []) [] [] h (used None e) (omega arith, tt)
    (λ place. let few : count_by (λ p. p == place) (q ∷ []) ≤ 1 = count_by-le-length (λ p. p == place) (q ∷ []) in omega arith) (lit≤ tt)
    (λ made. ref_state s a made q []) (λ made. tt)
  where
    used : (c : Option Cont) → a.cont ≡ c → SameCounts (answered (own_reply s c (SpelledRef q))) (all_of s a)
    used c e =
        let P : List ℕ → Type 0 = λ us. SameCounts (us ++ answered (own_reply s a.cont (SpelledRef q))) (all_of s a) in
        let Q : Option Cont → Type 0 = λ d. SameCounts (answered (own_reply s d (SpelledRef q))) (all_of s a) in
        subst Q e (subst P (ap (numbers 0) none) (answers_all s a (SpelledRef q)))
get_ref n kind here s a q (Some c) h e none low =
    general_keeps n kind here s a (SpelledRef q ∷ []) [] (own_reply s (Some c) (SpelledRef q)) h (used (Some c) e)
    (omega arith, (place_below s a h.state h.act (length s.conts), (omega arith, tt)))
    (λ place. let few : count_by (λ p. p == place) (q ∷ cont_place s a (length s.conts) ∷ q ∷ []) ≤ 3 = count_by-le-length (λ p. p == place) (q ∷ cont_place s a (length s.conts) ∷ q ∷ []) in omega arith) (lit≤ tt)
    (λ made. ref_state s a made q (own_reply s (Some c) (SpelledRef q))) (λ made. (ref_message s a made q (length s.conts), tt))
  where
    used : (c : Option Cont) → a.cont ≡ c → SameCounts (answered (own_reply s c (SpelledRef q))) (all_of s a)
    used c e =
        let P : List ℕ → Type 0 = λ us. SameCounts (us ++ answered (own_reply s a.cont (SpelledRef q))) (all_of s a) in
        let Q : Option Cont → Type 0 = λ d. SameCounts (answered (own_reply s d (SpelledRef q))) (all_of s a) in
        subst Q e (subst P (ap (numbers 0) none) (answers_all s a (SpelledRef q)))

get_good : (n kind here : ℕ) (s : State) (a : Act) (v : Spelled) → IsCall kind s a → v ∷ [] ≡ s.values → length s.conts ≡ 0
    → IsGood n kind here s a (leaves (Promise (Some v)) (Answers v))
get_good n kind here s a v h e none =
    let values : AllByRecursion IsValue (v ∷ []) = let P : List Spelled → Type 0 = AllByRecursion IsValue in subst P (sym e) h.state.values.each in
    let counted : IsCount 0 (refs_in (v ∷ [])) = let P : List Spelled → Type 0 = λ vs. IsCount 0 (refs_in vs) in subst P (sym e) h.state.refs in
    let ids : length s.ids ≡ length (refs_in (v ∷ [])) + length s.conts = h.state.ids ∙ ap (λ vs. length (refs_in vs) + length s.conts) (sym e) in
    by_value v e values counted ids
  where
    by_value : (v : Spelled) → v ∷ [] ≡ s.values → AllByRecursion IsValue (v ∷ []) → IsCount 0 (refs_in (v ∷ [])) → length s.ids ≡ length (refs_in (v ∷ [])) + length s.conts
        → IsGood n kind here s a (leaves (Promise (Some v)) (Answers v))
    by_value (SpelledRef q) e values counted ids =
        let here_is = counted.0 in
        let R : List ℕ → Type 0 = λ us. KeepsLaws n kind here s a (outcome s (SpelledRef q ∷ []) us [] [] (own_reply s a.cont (SpelledRef q))) in
        subst R (sym (ap (numbers 0) none)) (get_ref n kind here s a q a.cont h refl none (omega arith))
    by_value SpelledUnit e values counted ids = stay_good n kind here s a (Promise (Some SpelledUnit)) SpelledUnit h e tt refl
    by_value (SpelledFlag b) e values counted ids = stay_good n kind here s a (Promise (Some (SpelledFlag b))) (SpelledFlag b) h e tt refl
    by_value (SpelledInt z) e values counted ids = stay_good n kind here s a (Promise (Some (SpelledInt z))) (SpelledInt z) h e tt refl
    by_value (SpelledText t) e values counted ids = stay_good n kind here s a (Promise (Some (SpelledText t))) (SpelledText t) h e values.0 refl
    by_value (SpelledFault c) e values counted ids = stay_good n kind here s a (Promise (Some (SpelledFault c))) (SpelledFault c) h e values.0 refl
    by_value (SpelledInts zs) e values counted ids = stay_good n kind here s a (Promise (Some (SpelledInts zs))) (SpelledInts zs) h e values.0 refl

no_values : ArePlainValues []
no_values = record { refs = refl; values = record { few = lit≤ tt; each = tt }; short = lit≤ tt }

pub empty_good : (n kind here : ℕ) (s : State) (a : Act) (r : Request Spelled) → IsCall kind s a → [] ≡ s.values → length s.conts ≤ 7
    → IsFair (IsPlaced (length s.ids) (length s.ids + length a.ids)) (has_cont a.cont) r → IsGood n kind here s a (on_promise spelled (length s.conts) None r)
empty_good n kind here s a (Set slot v) h e few fair =
    good_if n kind here s a (is_first slot) _ _ (λ f. set_good n kind here s a v h few fair.0 fair.1) (λ f. silent_good n kind here s a (Promise None) h e fair.1)
empty_good n kind here s a (Put v) h e few fair =
    good_if n kind here s a (is_number_or_text (spelled.look v)) _ _ (λ f. put_good n kind here s a v h few fair f) (λ f. refused_good n kind here s a (Promise None) 11 h e (lit≤ tt) (lit≤ tt))
empty_good n kind here s a Get h e few fair =
    good_if n kind here s a (length s.conts == 7) _ _ (λ f. refused_good n kind here s a (Promise None) 10 h e (lit≤ tt) (lit≤ tt))
    (λ f. waits_good n kind here s a (Promise None) h (omega arith) no_values)
empty_good n kind here s a _ h e few fair = refused_good n kind here s a (Promise None) 11 h e (lit≤ tt) (lit≤ tt)

pub full_good : (n kind here : ℕ) (s : State) (a : Act) (u : Spelled) (r : Request Spelled) → IsCall kind s a → u ∷ [] ≡ s.values → length s.conts ≡ 0
    → IsFair (IsPlaced (length s.ids) (length s.ids + length a.ids)) (has_cont a.cont) r → IsGood n kind here s a (on_promise spelled (length s.conts) (Some u) r)
full_good n kind here s a u (Set slot v) h e none fair =
    good_if n kind here s a (is_first slot) _ _ (λ f. refused_good n kind here s a (Promise (Some u)) 6 h e (lit≤ tt) (lit≤ tt))
    (λ f. silent_good n kind here s a (Promise (Some u)) h e fair.1)
full_good n kind here s a u (Put v) h e none fair =
    good_if n kind here s a (is_number_or_text (spelled.look v)) _ _ (λ f. refused_good n kind here s a (Promise (Some u)) 6 h e (lit≤ tt) (lit≤ tt))
    (λ f. refused_good n kind here s a (Promise (Some u)) 11 h e (lit≤ tt) (lit≤ tt))
full_good n kind here s a u Get h e none fair = get_good n kind here s a u h e none
full_good n kind here s a u _ h e none fair = refused_good n kind here s a (Promise (Some u)) 11 h e (lit≤ tt) (lit≤ tt)
