-- States that are plain objects over ids, and what outcomes on them leave and tell.
use Rattle.std.specs.Prelude.{ℕ, zero, suc, pos, true, List, [], ◌∷◌, ◌++◌, ◌+◌, ◌-◌, ◌<◌, ◌≤◌, ◌≡◌, Option, Some, None, length, map, take, drop, refl}
use Rattle.std.proofs.Common.{ap, sym, ◌∙◌, arith, append_assoc, length-append, add-one}
use Rattle.std.specs.List.{AllByRecursion, slice_index_or}
use Rattle.std.proofs.lemmas.List.{append-nil, length-map}
use Rattle.hpx_value.specs.Ids.{Id, bare_id}
use Rattle.hpx_value.specs.Values.{refs_in}
use Rattle.hpx_value.specs.declared.value.Value.{Value as Spelled}
use Rattle.hpx_value.specs.declared.value.Value.TheVariants.{Unit as SpelledUnit, Flag as SpelledFlag, Int as SpelledInt, Text as SpelledText, Ref as SpelledRef, Fault as SpelledFault, Ints as SpelledInts}
use Rattle.hpx_value.specs.declared.value.Cont.{Cont}
use Rattle.hpx_value.specs.declared.value.State.{State}
use Rattle.hpx_value.specs.declared.value.Act.{Act}
use Rattle.hpx_value.specs.declared.value.Message.{Message}
use Rattle.hpx_value.specs.declared.outcome.Make.{Make}
use Rattle.hpx_value.specs.declared.outcome.Sending.{Sending}
use Rattle.hpx_value.specs.declared.outcome.Reply.{Reply}
use Rattle.hpx_value.specs.declared.outcome.Due.{Due}
use Rattle.hpx_value.specs.declared.outcome.Due.TheVariants.{Message as MessageDue}
use Rattle.hpx_value.specs.Hands.{Slot, session, id_at, slot_at, own_slot, hand_ids, hand_slots, hand_slot, renumbered, conts_from, state_after, due_of, sent, replied}
use Rattle.hpx_value.proofs.Kept as HandLemmas
use Rattle.hpx_calls.specs.Values.{Value, Nothing, Flag, Int, Text, Ref, Fault, Ints, plain, seen, shifted}
use Rattle.hpx_calls.specs.Contents.{Content, layout}
use Rattle.hpx_calls.specs.Effects.{Effect, Silent, Answers, Waits, Frees, Starts, Hands, Moves, Makes}
use Rattle.hpx_calls.specs.Outcomes.{numbers, has_cont, cont_count, own_reply, freed, started, made_place, outcome, comes_to}
use Rattle.hpx_calls.specs.Histories.{Object, Told, Answered, Begun, own, each, begun, alone, joined, still, tells}
use Rattle.hpx_calls.specs.Ids.{numbered, ids_in, values_of, state_of, waiter_of, message_for, due_for, setting_of}
use Rattle.hpx_calls.proofs.Asked.{IsBelow}
use Rattle.hpx_calls.proofs.Natural.{effect_seen}
use Rattle.hpx_calls.proofs.Rights.{IsRight}

-- ---- what stands in a list

at_back : {X : Type 0} (xs ys : List X) (p : ℕ) (d : X) → slice_index_or (xs ++ ys) (length xs + p) d ≡ slice_index_or ys p d
at_back [] ys p d = ap (λ m. slice_index_or ys m d) zero_first
  where
    zero_first : 0 + p ≡ p
    zero_first = omega arith
at_back (x ∷ xs) ys p d = ap (λ m. slice_index_or (x ∷ (xs ++ ys)) m d) one_first ∙ at_back xs ys p d
  where
    one_first : suc (length xs) + p ≡ suc (length xs + p)
    one_first = omega arith

at_front : {X : Type 0} (xs ys : List X) (p : ℕ) (d : X) → p < length xs → slice_index_or (xs ++ ys) p d ≡ slice_index_or xs p d
at_front [] ys p d h = absurd (omega arith)
at_front (x ∷ xs) ys zero d h = refl
at_front (x ∷ xs) ys (suc p) d h = at_front xs ys p d (omega arith)

at_next : {X : Type 0} (xs ys : List X) (d : X) → slice_index_or (xs ++ ys) (length xs) d ≡ slice_index_or ys 0 d
at_next xs ys d = ap (λ m. slice_index_or (xs ++ ys) m d) none_more ∙ at_back xs ys 0 d
  where
    none_more : length xs ≡ length xs + 0
    none_more = omega arith

-- ---- values over ids

one_more : (pre : List Id) (id : Id) → length pre + 1 ≡ length (pre ++ id ∷ [])
one_more pre id = let long = length-append pre (id ∷ []) in omega arith

-- numbered from where their ids stand, they are seen again
pub seen_again : (pre : List Id) (vs : List (Value Id)) (post : List Id) → map (seen (id_at (pre ++ (ids_in vs ++ post)))) (numbered (length pre) vs) ≡ vs
seen_again pre [] post = refl
seen_again pre (Nothing ∷ vs) post = ap (λ us. Nothing ∷ us) (seen_again pre vs post)
seen_again pre (Flag b ∷ vs) post = ap (λ us. Flag b ∷ us) (seen_again pre vs post)
seen_again pre (Int z ∷ vs) post = ap (λ us. Int z ∷ us) (seen_again pre vs post)
seen_again pre (Text t ∷ vs) post = ap (λ us. Text t ∷ us) (seen_again pre vs post)
seen_again pre (Ref id ∷ vs) post =
    ap (λ i. Ref i ∷ map (seen (id_at (pre ++ (id ∷ (ids_in vs ++ post))))) (numbered (length pre + 1) vs)) (at_next pre (id ∷ (ids_in vs ++ post)) session)
    ∙ ap (λ us. Ref id ∷ us)
    (ap (λ m. map (seen (id_at (pre ++ (id ∷ (ids_in vs ++ post))))) (numbered m vs)) (one_more pre id)
    ∙ ap (λ ids. map (seen (id_at ids)) (numbered (length (pre ++ id ∷ [])) vs)) (sym (append_assoc pre (id ∷ []) (ids_in vs ++ post)))
    ∙ seen_again (pre ++ id ∷ []) vs post)
seen_again pre (Fault c ∷ vs) post = ap (λ us. Fault c ∷ us) (seen_again pre vs post)
seen_again pre (Ints zs ∷ vs) post = ap (λ us. Ints zs ∷ us) (seen_again pre vs post)

pub renumbered_is : (see : ℕ → Id) (n : ℕ) (vs : List Spelled) → renumbered n vs ≡ numbered n (map (seen see) vs)
renumbered_is see n [] = refl
renumbered_is see n (SpelledUnit ∷ vs) = ap (λ us. SpelledUnit ∷ us) (renumbered_is see n vs)
renumbered_is see n (SpelledFlag b ∷ vs) = ap (λ us. SpelledFlag b ∷ us) (renumbered_is see n vs)
renumbered_is see n (SpelledInt z ∷ vs) = ap (λ us. SpelledInt z ∷ us) (renumbered_is see n vs)
renumbered_is see n (SpelledText t ∷ vs) = ap (λ us. SpelledText t ∷ us) (renumbered_is see n vs)
renumbered_is see n (SpelledRef p ∷ vs) = ap (λ us. SpelledRef n ∷ us) (renumbered_is see (n + 1) vs)
renumbered_is see n (SpelledFault c ∷ vs) = ap (λ us. SpelledFault c ∷ us) (renumbered_is see n vs)
renumbered_is see n (SpelledInts zs ∷ vs) = ap (λ us. SpelledInts zs ∷ us) (renumbered_is see n vs)

pub ids_seen : (see : ℕ → Id) (vs : List Spelled) → map see (refs_in vs) ≡ ids_in (map (seen see) vs)
ids_seen see [] = refl
ids_seen see (SpelledUnit ∷ vs) = ids_seen see vs
ids_seen see (SpelledFlag b ∷ vs) = ids_seen see vs
ids_seen see (SpelledInt z ∷ vs) = ids_seen see vs
ids_seen see (SpelledText t ∷ vs) = ids_seen see vs
ids_seen see (SpelledRef p ∷ vs) = ap (λ is. see p ∷ is) (ids_seen see vs)
ids_seen see (SpelledFault c ∷ vs) = ids_seen see vs
ids_seen see (SpelledInts zs ∷ vs) = ids_seen see vs

many_seen : (see : ℕ → Id) (vs : List Spelled) → length (refs_in vs) ≡ length (ids_in (map (seen see) vs))
many_seen see vs = sym (length-map (refs_in vs) see) ∙ ap length (ids_seen see vs)

-- the arguments of an action, behind the ids of the state
pub seen_behind : (pre ids post : List Id) (vs : List Spelled) → AllByRecursion (IsBelow (length ids)) vs
    → map (seen (id_at (pre ++ (ids ++ post)))) (map (shifted (length pre)) vs) ≡ map (seen (id_at ids)) vs
seen_behind pre ids post [] h = refl
seen_behind pre ids post (SpelledUnit ∷ vs) h = ap (λ us. Nothing ∷ us) (seen_behind pre ids post vs h.1)
seen_behind pre ids post (SpelledFlag b ∷ vs) h = ap (λ us. Flag b ∷ us) (seen_behind pre ids post vs h.1)
seen_behind pre ids post (SpelledInt z ∷ vs) h = ap (λ us. Int z ∷ us) (seen_behind pre ids post vs h.1)
seen_behind pre ids post (SpelledText t ∷ vs) h = ap (λ us. Text t ∷ us) (seen_behind pre ids post vs h.1)
seen_behind pre ids post (SpelledRef p ∷ vs) h =
    ap (λ i. Ref i ∷ map (seen (id_at (pre ++ (ids ++ post)))) (map (shifted (length pre)) vs)) (at_back pre (ids ++ post) p session ∙ at_front ids post p session h.0)
    ∙ ap (λ us. Ref (id_at ids p) ∷ us) (seen_behind pre ids post vs h.1)
seen_behind pre ids post (SpelledFault c ∷ vs) h = ap (λ us. Fault c ∷ us) (seen_behind pre ids post vs h.1)
seen_behind pre ids post (SpelledInts zs ∷ vs) h = ap (λ us. Ints zs ∷ us) (seen_behind pre ids post vs h.1)

-- ---- slots

same_slot : (x : Slot) (i : Id) → i ≡ x.object → record { object = i; number = x.number } ≡ x
same_slot x i e = ap (λ (j : Id). record { object = j; number = x.number }) e

pub slots_again : (pre : List Id) (ws : List Slot) → map (slot_at (pre ++ map (λ x. x.object) ws)) (conts_from (length pre) ws) ≡ ws
slots_again pre [] = refl
slots_again pre (x ∷ ws) =
    ap (λ (y : Slot). y ∷ map (slot_at (pre ++ (x.object ∷ map (λ z. z.object) ws))) (conts_from (length pre + 1) ws))
    (same_slot x _ (at_next pre (x.object ∷ map (λ z. z.object) ws) session))
    ∙ ap (λ ys. x ∷ ys)
    (ap (λ m. map (slot_at (pre ++ (x.object ∷ map (λ z. z.object) ws))) (conts_from m ws)) (one_more pre x.object)
    ∙ ap (λ ids. map (slot_at ids) (conts_from (length (pre ++ x.object ∷ [])) ws)) (sym (append_assoc pre (x.object ∷ []) (map (λ z. z.object) ws)))
    ∙ slots_again (pre ++ x.object ∷ []) ws)

-- numbers from one on, each with what stands there
shift : {X : Type 0} (f : ℕ → X) (n count : ℕ) → map f (numbers (n + 1) count) ≡ map (λ i. f (suc i)) (numbers n count)
shift f n zero = refl
shift f n (suc count) = let rest = shift f (n + 1) count in let first : f (n + 1) ≡ f (suc n) = ap f (add-one n) in cc

pub picked : {X : Type 0} (zs : List X) (d : X) (n count : ℕ) → n + count ≤ length zs → map (λ i. slice_index_or zs i d) (numbers n count) ≡ take count (drop n zs)
picked zs d zero zero h = refl
picked [] d zero (suc count) h = absurd (omega arith)
picked (z ∷ zs) d zero (suc count) h = ap (λ ys. z ∷ ys) (shift (λ i. slice_index_or (z ∷ zs) i d) 0 count ∙ picked zs d zero count (omega arith))
picked [] d (suc n) zero h = absurd (omega arith)
picked [] d (suc n) (suc count) h = absurd (omega arith)
picked (z ∷ zs) d (suc n) count h =
    ap (λ m. map (λ i. slice_index_or (z ∷ zs) i d) (numbers m count)) (sym (add-one n)) ∙ shift (λ i. slice_index_or (z ∷ zs) i d) n count ∙ picked zs d n count (omega arith)

take_front : {X : Type 0} (xs ys : List X) → take (length xs) (xs ++ ys) ≡ xs
take_front [] ys = refl
take_front (x ∷ xs) ys = ap (λ zs. x ∷ zs) (take_front xs ys)

take_some : {X : Type 0} (count : ℕ) (xs ys : List X) → count ≤ length xs → take count (xs ++ ys) ≡ take count xs
take_some zero xs ys h = refl
take_some (suc count) [] ys h = absurd (omega arith)
take_some (suc count) (x ∷ xs) ys h = ap (λ zs. x ∷ zs) (take_some count xs ys (omega arith))

take_rest : {X : Type 0} (count : ℕ) (xs ys : List X) → count ≤ length xs → take (length xs - count) (drop count (xs ++ ys)) ≡ drop count xs
take_rest zero xs ys h = ap (λ m. take m (xs ++ ys)) whole ∙ take_front xs ys
  where
    whole : length xs - 0 ≡ length xs
    whole = omega arith
take_rest (suc count) [] ys h = absurd (omega arith)
take_rest (suc count) (x ∷ xs) ys h = ap (λ m. take m (drop count (xs ++ ys))) one_less ∙ take_rest count xs ys (omega arith)
  where
    one_less : suc (length xs) - suc count ≡ length xs - count
    one_less = omega arith

-- ---- a state that is a plain object, and an action on it

module _ (drawn : ℕ) (o : Object (Value Id) Slot) (a : Act) (made : List Id) where
  abbrev pub the_state : State
  the_state = state_of drawn o

  abbrev pub the_waiter : Option Slot
  the_waiter = waiter_of a.ids a.cont

  abbrev pub see : ℕ → Id
  see = id_at (hand_ids the_state a made)

  -- the values of the state, seen in the hand
  pub values_seen : map (seen see) the_state.values ≡ values_of o
  values_seen =
      ap (λ ids. map (seen (id_at ids)) (numbered 0 (values_of o))) (append_assoc (ids_in (values_of o)) (map (λ x. x.object) o.waiting) (a.ids ++ made))
      ∙ seen_again [] (values_of o) (map (λ x. x.object) o.waiting ++ (a.ids ++ made))

  pub args_seen : AllByRecursion (IsBelow (length a.ids)) a.args → map (seen see) (map (shifted (length the_state.ids)) a.args) ≡ map (seen (id_at a.ids)) a.args
  args_seen h = seen_behind the_state.ids a.ids made a.args h

  pub many_wait : length the_state.conts ≡ length o.waiting
  many_wait = HandLemmas.length-conts_from (length (ids_in (values_of o))) o.waiting

  slots_are : hand_slots the_state a ≡ o.waiting ++ own_slot a.ids a.cont
  slots_are = ap (λ ws. ws ++ own_slot a.ids a.cont) (slots_again (ids_in (values_of o)) o.waiting)

  -- the slots under numbers
  kept_from : (n count : ℕ) → n + count ≤ length (o.waiting ++ own_slot a.ids a.cont) → map (hand_slot the_state a) (numbers n count) ≡ take count (drop n (o.waiting ++ own_slot a.ids a.cont))
  kept_from n count h =
      ap (λ ws. map (λ i. slice_index_or ws i (record { object = session; number = 0 })) (numbers n count)) slots_are
      ∙ picked (o.waiting ++ own_slot a.ids a.cont) (record { object = session; number = 0 }) n count h

  all_kept : map (hand_slot the_state a) (numbers 0 (length the_state.conts)) ≡ o.waiting
  all_kept =
      let long = length-append o.waiting (own_slot a.ids a.cont) in
      ap (λ m. map (hand_slot the_state a) (numbers 0 m)) many_wait ∙ kept_from 0 (length o.waiting) (omega arith) ∙ take_front o.waiting (own_slot a.ids a.cont)

  rest_kept : (count : ℕ) → count ≤ length o.waiting → map (hand_slot the_state a) (numbers count (length the_state.conts - count)) ≡ drop count o.waiting
  rest_kept count h =
      let long = length-append o.waiting (own_slot a.ids a.cont) in
      ap (λ m. map (hand_slot the_state a) (numbers count (m - count))) many_wait ∙ kept_from count (length o.waiting - count) (omega arith)
      ∙ take_rest count o.waiting (own_slot a.ids a.cont) h

  some_freed : (count : ℕ) → count ≤ length o.waiting → map (hand_slot the_state a) (numbers 0 count) ≡ take count o.waiting
  some_freed count h =
      let long = length-append o.waiting (own_slot a.ids a.cont) in
      kept_from 0 count (omega arith) ∙ take_some count o.waiting (own_slot a.ids a.cont) h

  own_kept : map (hand_slot the_state a) (numbers 0 (length the_state.conts + cont_count a.cont)) ≡ joined o.waiting the_waiter
  own_kept =
      ap (λ m. map (hand_slot the_state a) (numbers 0 (m + cont_count a.cont))) many_wait
      ∙ ap (λ m. map (hand_slot the_state a) (numbers 0 m)) (sym (whole a.cont))
      ∙ kept_from 0 (length (o.waiting ++ own_slot a.ids a.cont)) (omega arith)
      ∙ ap (λ ws. take (length ws) ws) (sym (append-nil (o.waiting ++ own_slot a.ids a.cont))) ∙ all_taken ∙ as_joined a.cont
    where
      whole : (c : Option Cont) → length (o.waiting ++ own_slot a.ids c) ≡ length o.waiting + cont_count c
      whole None = length-append o.waiting []
      whole (Some c) = length-append o.waiting (slot_at a.ids c ∷ [])

      all_taken : take (length ((o.waiting ++ own_slot a.ids a.cont) ++ [])) ((o.waiting ++ own_slot a.ids a.cont) ++ []) ≡ o.waiting ++ own_slot a.ids a.cont
      all_taken = ap (λ m. take (length m) ((o.waiting ++ own_slot a.ids a.cont) ++ [])) (append-nil (o.waiting ++ own_slot a.ids a.cont)) ∙ take_front (o.waiting ++ own_slot a.ids a.cont) []

      as_joined : (c : Option Cont) → o.waiting ++ own_slot a.ids c ≡ joined o.waiting (waiter_of a.ids c)
      as_joined None = append-nil o.waiting
      as_joined (Some c) = refl

  own_is : (c : Cont) → a.cont ≡ Some c → hand_slot the_state a (length the_state.conts) ≡ slot_at a.ids c
  own_is c e =
      ap (λ ws. slice_index_or ws (length the_state.conts) (record { object = session; number = 0 })) slots_are
      ∙ ap (λ m. slice_index_or (o.waiting ++ own_slot a.ids a.cont) m (record { object = session; number = 0 })) many_wait
      ∙ at_next o.waiting (own_slot a.ids a.cont) (record { object = session; number = 0 })
      ∙ ap (λ d. slice_index_or (own_slot a.ids d) 0 (record { object = session; number = 0 })) e

  -- ---- the state afterwards

  pub left_is : (vs : List Spelled) (conts : List ℕ) (makes : List Make) (sends : List Sending) (rs : List Reply) (x : Content (Value Id)) (ws : List Slot)
      → map (seen see) vs ≡ layout (plain Id) x → map (hand_slot the_state a) conts ≡ ws
      → state_after the_state a made (outcome the_state vs conts makes sends rs) ≡ state_of drawn (record { content = x; waiting = ws })
  left_is vs conts makes sends rs x ws e f =
      let many : length (refs_in vs) ≡ length (ids_in (layout (plain Id) x)) = many_seen see vs ∙ ap (λ us. length (ids_in us)) e in
      let ids : map see (refs_in vs) ≡ ids_in (layout (plain Id) x) = ids_seen see vs ∙ ap ids_in e in
      ap (λ us. laid us (conts_from (length (refs_in vs)) (map (hand_slot the_state a) conts)) (map see (refs_in vs) ++ map (λ y. y.object) (map (hand_slot the_state a) conts)))
      (renumbered_is see 0 vs ∙ ap (numbered 0) e)
      ∙ ap (λ ys. laid (numbered 0 (layout (plain Id) x)) (conts_from (length (refs_in vs)) ys) (map see (refs_in vs) ++ map (λ y. y.object) ys)) f
      ∙ ap (λ m. laid (numbered 0 (layout (plain Id) x)) (conts_from m ws) (map see (refs_in vs) ++ map (λ y. y.object) ws)) many
      ∙ ap (λ is. laid (numbered 0 (layout (plain Id) x)) (conts_from (length (ids_in (layout (plain Id) x))) ws) (is ++ map (λ y. y.object) ws)) ids
    where
      laid : List Spelled → List Cont → List Id → State
      laid us cs is = record { drawn = drawn; values = us; conts = cs; ids = is }

  pub state_then : (here : ℕ) (vs : List Spelled) (x : Content (Value Id)) (e : Effect Spelled) → map (seen see) vs ≡ layout (plain Id) x
      → IsRight (length o.waiting) (has_cont a.cont) e
      → state_after the_state a made (comes_to here the_state a vs e) ≡ state_of drawn (record { content = x; waiting = still (effect_seen see e) o.waiting the_waiter })
  state_then here vs x Silent same right = left_is vs (numbers 0 (length the_state.conts)) [] [] [] x o.waiting same all_kept
  state_then here vs x (Answers v) same right = left_is vs (numbers 0 (length the_state.conts)) [] [] [] x o.waiting same all_kept
  state_then here vs x Waits same right = left_is vs (numbers 0 (length the_state.conts + cont_count a.cont)) [] [] [] x (joined o.waiting the_waiter) same own_kept
  state_then here vs x (Frees count v u) same right = left_is vs (numbers count (length the_state.conts - count)) [] [] [] x (drop count o.waiting) same (rest_kept count right)
  state_then here vs x (Starts code args) same right = left_is vs (numbers 0 (length the_state.conts)) [] [] [] x o.waiting same all_kept
  state_then here vs x (Hands code args u) same right = left_is vs (numbers 1 (length the_state.conts - 1)) [] [] [] x (drop 1 o.waiting) same (rest_kept 1 right)
  state_then here vs x (Moves to) same right = left_is vs (numbers 0 (length the_state.conts)) [] [] [] x o.waiting same all_kept
  state_then here vs x (Makes y) same right = left_is vs (numbers 0 (length the_state.conts)) [] [] [] x o.waiting same all_kept

  -- ---- what is due

  reply_is : (here cont : ℕ) (v : Spelled) → replied the_state a made (record { cont = cont; value = v }) ≡ message_for here (Answered (hand_slot the_state a cont) (seen see v))
  reply_is here cont v =
      ap (λ us. message (SpelledInt (pos (hand_slot the_state a cont).number) ∷ us) (map see (refs_in (v ∷ [])) ++ [])) (renumbered_is see 1 (v ∷ []))
      ∙ ap (λ is. message (SpelledInt (pos (hand_slot the_state a cont).number) ∷ numbered 1 (seen see v ∷ [])) is) (append-nil (map see (refs_in (v ∷ []))) ∙ ids_seen see (v ∷ []))
    where
      message : List Spelled → List Id → Message
      message us is = record { code = 3; args = us; cont = None; ids = (hand_slot the_state a cont).object ∷ is }

  start_is : (here code cont : ℕ) (args : List Spelled) → sent the_state a made (started here code args cont) ≡ message_for here (Begun (hand_slot the_state a cont) code (map (seen see) args))
  start_is here code cont args =
      ap (λ us. message us (length (refs_in args)) (map see (refs_in args))) (renumbered_is see 1 args)
      ∙ ap (λ m. message (numbered 1 (map (seen see) args)) m (map see (refs_in args))) (many_seen see args)
      ∙ ap (message (numbered 1 (map (seen see) args)) (length (ids_in (map (seen see) args)))) (ids_seen see args)
    where
      message : List Spelled → ℕ → List Id → Message
      message us m is = record {
        code = code;
        args = us;
        cont = Some (record { place = m + 1; slot = (hand_slot the_state a cont).number });
        ids = bare_id here 7 1 ∷ (is ++ (hand_slot the_state a cont).object ∷ []);
      }

  abbrev due_replies : List Reply → List Due
  due_replies rs = map (λ x. MessageDue (replied the_state a made x)) rs

  abbrev due_sends : List Sending → List Due
  due_sends xs = map (λ x. MessageDue (sent the_state a made x)) xs

  own_due : (here : ℕ) (v : Spelled) → due_replies (own_reply the_state a.cont v) ≡ due_for here (own the_waiter (seen see v))
  own_due here v = by_cont a.cont refl
    where
      by_cont : (c : Option Cont) → a.cont ≡ c → due_replies (own_reply the_state c v) ≡ due_for here (own (waiter_of a.ids c) (seen see v))
      by_cont None e = refl
      by_cont (Some c) e =
          ap (λ (m : Message). MessageDue m ∷ []) (reply_is here (length the_state.conts) v ∙ ap (λ (w : Slot). message_for here (Answered w (seen see v))) (own_is c e))

  freed_due : (here : ℕ) (v : Spelled) (n count : ℕ) → due_replies (freed v n count) ≡ due_for here (each (seen see v) (map (hand_slot the_state a) (numbers n count)))
  freed_due here v n zero = refl
  freed_due here v n (suc count) =
      ap (λ (m : Message). MessageDue m ∷ due_replies (freed v (n + 1) count)) (reply_is here n v)
      ∙ ap (λ ds. MessageDue (message_for here (Answered (hand_slot the_state a n) (seen see v))) ∷ ds) (freed_due here v (n + 1) count)

  due_both : (here : ℕ) (ts us : List (Told (Value Id) Slot)) → due_for here (ts ++ us) ≡ due_for here ts ++ due_for here us
  due_both here [] us = refl
  due_both here (t ∷ ts) us = ap (λ ds. MessageDue (message_for here t) ∷ ds) (due_both here ts us)

  replies_both : (rs qs : List Reply) → due_replies (rs ++ qs) ≡ due_replies rs ++ due_replies qs
  replies_both [] qs = refl
  replies_both (r ∷ rs) qs = ap (λ ds. MessageDue (replied the_state a made r) ∷ ds) (replies_both rs qs)

  begun_due : (here code : ℕ) (args : List (Value Id)) (w : Slot) (ws : List Slot) → ws ≡ w ∷ drop 1 ws → MessageDue (message_for here (Begun w code args)) ∷ [] ≡ due_for here (begun code args ws)
  begun_due here code args w [] e = absurd (cc)
  begun_due here code args w (u ∷ ws) e = let same : u ≡ w = cc in ap (λ (x : Slot). MessageDue (message_for here (Begun x code args)) ∷ []) (sym same)

  pub due_now : (kind here : ℕ) (vs : List Spelled) (e : Effect Spelled) → IsRight (length o.waiting) (has_cont a.cont) e
      → due_of the_state a made (comes_to here the_state a vs e) ≡ due_for here (tells (setting_of kind here made) (effect_seen see e) o.waiting the_waiter)
  due_now kind here vs Silent right = refl
  due_now kind here vs (Answers v) right = append-nil (due_replies (own_reply the_state a.cont v)) ∙ own_due here v
  due_now kind here vs Waits right = refl
  due_now kind here vs (Frees count v u) right =
      append-nil (due_replies (freed v 0 count ++ own_reply the_state a.cont u)) ∙ replies_both (freed v 0 count) (own_reply the_state a.cont u)
      ∙ ap (λ ds. ds ++ due_replies (own_reply the_state a.cont u)) (freed_due here v 0 count ∙ ap (λ ws. due_for here (each (seen see v) ws)) (some_freed count right))
      ∙ ap (λ ds. due_for here (each (seen see v) (take count o.waiting)) ++ ds) (own_due here u)
      ∙ sym (due_both here (each (seen see v) (take count o.waiting)) (own the_waiter (seen see u)))
  due_now kind here vs (Starts code args) right = by_cont a.cont refl right
    where
      by_cont : (c : Option Cont) → a.cont ≡ c → has_cont c ≡ true
          → due_sends (started here code args (length the_state.conts) ∷ []) ++ [] ≡ due_for here (begun code (map (seen see) args) (alone (waiter_of a.ids c)))
      by_cont None e f = absurd (cc)
      by_cont (Some c) e f =
          ap (λ (m : Message). MessageDue m ∷ [])
          (start_is here code (length the_state.conts) args ∙ ap (λ (w : Slot). message_for here (Begun w code (map (seen see) args))) (own_is c e))
  due_now kind here vs (Hands code args u) right =
      ap (λ ds. due_sends (started here code args 0 ∷ []) ++ ds) (append-nil (due_replies (own_reply the_state a.cont u)) ∙ own_due here u)
      ∙ ap (λ ds. ds ++ due_for here (own the_waiter (seen see u)))
      (ap (λ (m : Message). MessageDue m ∷ []) (start_is here code 0 args) ∙ begun_due here code (map (seen see) args) (hand_slot the_state a 0) o.waiting (first_waits o.waiting slots_are right))
      ∙ sym (due_both here (begun code (map (seen see) args) o.waiting) (own the_waiter (seen see u)))
    where
      first_waits : (ws : List Slot) → hand_slots the_state a ≡ ws ++ own_slot a.ids a.cont → 1 ≤ length ws → ws ≡ hand_slot the_state a 0 ∷ drop 1 ws
      first_waits [] e h = absurd (omega arith)
      first_waits (w ∷ ws) e h = ap (λ (x : Slot). x ∷ ws) (sym (ap (λ ys. slice_index_or ys 0 (record { object = session; number = 0 })) e))
  due_now kind here vs (Moves to) right = append-nil (due_replies (own_reply the_state a.cont (SpelledInt (pos here)))) ∙ own_due here (SpelledInt (pos here))
  due_now kind here vs (Makes y) right =
      append-nil (due_replies (own_reply the_state a.cont (SpelledRef (made_place the_state a)))) ∙ own_due here (SpelledRef (made_place the_state a))
      ∙ ap (λ (i : Id). due_for here (own the_waiter (Ref i))) made_is
    where
      made_is : see (made_place the_state a) ≡ id_at made 0
      made_is = at_back the_state.ids (a.ids ++ made) (length a.ids) session ∙ at_next a.ids made session
