-- What an outcome claims of the session: what its hand claimed, and the slots that the session draws.
use Rattle.std.proofs.Common.{ℕ, zero, suc, Bool, true, false, cond, List, [], ◌∷◌, ◌++◌, ◌≡◌, ◌≢◌, ◌+◌, ◌<◌, Option, Some, None, length, refl, sym, ap, ◌∙◌, subst, arith, map, length-append, append_assoc, nat_lt, inl, inr}
use Rattle.std.specs.Prelude.{◌==◌}
use Rattle.std.specs.List.{count_by, sum_by, slice_index_or, AllByRecursion}
use Rattle.std.proofs.lemmas.List.Sums.{sum_by-cons, sum_by-append}
use Rattle.std.proofs.lemmas.List.{get_or-append-add, length-map}
use Rattle.std.proofs.lemmas.Bool.{eq-eqb, ne_eqb, lt-ltb, cases_eq}
use Rattle.std.proofs.Math.Seq.{get_or-append_seam}
use Rattle.hpx_value.specs.Ids.{Id, same_object}
use Rattle.hpx_value.specs.Values.{refs_in, message_of, named}
use Rattle.hpx_value.specs.declared.outcome.SendCont.{SendCont}
use Rattle.hpx_value.specs.declared.outcome.SendCont.TheVariants.{Nothing as NoCont, Own, Made, Here}
use Rattle.hpx_value.specs.declared.outcome.Sending.{Sending}
use Rattle.hpx_value.specs.declared.outcome.Reply.{Reply}
use Rattle.hpx_value.specs.Hands.{Slot, session, id_at, slot_at, own_slot, hand_ids, hand_slots, hand_slot, addressed, target_id, send_slot, sent, replied, conts_from, slots_kept, state_after}
use Rattle.hpx_value.specs.Laws.{KeepsLaws, UsesEachOnce, MadeSlot, owns, handed_on, answered, uses, makes_slot, made_slots, draws, drawn_slots}
use Rattle.hpx_journal.specs.Data.{Value, State, Act, Outcome}
use Rattle.hpx_journal.specs.Pool.{sent_by}
use Rattle.hpx_journal.proofs.Bags.{total-same}
use Rattle.hpx_journal.proofs.Keys.{one_if, by_keys, by_places, count-map}
use Rattle.hpx_patient.specs.Claims.{is_answer, of_session, session_claims}

-- how often a state keeps a slot of the session
abbrev pub kept_claims : State → ℕ
kept_claims s = count_by of_session (map (slot_at s.ids) s.conts)

abbrev optional : Option Slot → List Slot
optional None = []
optional (Some x) = x ∷ []

abbrev slot : Id → ℕ → Slot
slot object number = record { object = object; number = number }

-- no object of a list is the session
abbrev pub AreOthers : List Id → Type 0
AreOthers os = AllByRecursion (λ o. same_object session o ≡ false) os

other_at : (os : List Id) (i : ℕ) → AreOthers os → i < length os → same_object session (slice_index_or os i session) ≡ false
other_at [] i h below = absurd (omega arith)
other_at (o ∷ os) zero h below = h.0
other_at (o ∷ os) (suc i) h below = other_at os i h.1 (omega arith)

-- ---- kept continuations lead where they led

lead : (front : List Id) (slots : List Slot) (n : ℕ) → n ≡ length front
    → map (slot_at (front ++ map (λ x. x.object) slots)) (conts_from n slots) ≡ slots
lead front [] n h = refl
lead front (x ∷ xs) n h =
    let rest : List Id = map (λ y. y.object) xs in
    let all : List Id = front ++ x.object ∷ rest in
    let here : id_at all n ≡ x.object = ap (id_at all) h ∙ get_or-append_seam front x.object rest session in
    let next : n + 1 ≡ length (front ++ x.object ∷ []) = omega (arith, length-append front (x.object ∷ [])) in
    let split : (front ++ x.object ∷ []) ++ rest ≡ all = append_assoc front (x.object ∷ []) rest in
    let tail : map (slot_at all) (conts_from (n + 1) xs) ≡ xs =
    subst (λ ids. map (slot_at ids) (conts_from (n + 1) xs) ≡ xs) split (lead (front ++ x.object ∷ []) xs (n + 1) next) in
    let head : slot (id_at all n) x.number ≡ x = ap (λ o. slot o x.number) here in
    cc

module _ (s : State) (a : Act) (made : List Id) where
  -- whether a slot of the hand is one of the session
  abbrev in_hand : ℕ → Bool
  in_hand i = of_session (hand_slot s a i)

  state_kept : (out : Outcome) → kept_claims (state_after s a made out) ≡ count_by in_hand out.state.conts
  state_kept out =
      let front : List Id = map (id_at (hand_ids s a made)) (refs_in out.state.values) in
      ap (count_by of_session) (lead front (slots_kept s a out.state) (length (refs_in out.state.values))
      (sym (length-map (refs_in out.state.values) (id_at (hand_ids s a made)))))
      ∙ count-map of_session (hand_slot s a) out.state.conts

  -- ---- what a send claims

  addressed_own : (hand : List Id) (target : Id) (code : ℕ) (args : List Value) (cont : Option Slot)
      → own_slot (addressed hand target code args cont).ids (addressed hand target code args cont).cont ≡ optional cont
  addressed_own hand target code args None = refl
  addressed_own hand target code args (Some y) =
      let refs : List Id = map (id_at hand) (refs_in args) in
      let all : List Id = target ∷ (refs ++ y.object ∷ []) in
      let place : length (refs_in args) + 1 ≡ suc (length refs) = omega (arith, length-map (refs_in args) (id_at hand)) in
      let there : id_at all (length (refs_in args) + 1) ≡ y.object = ap (id_at all) place ∙ get_or-append_seam refs y.object [] session in
      let head : slot (id_at all (length (refs_in args) + 1)) y.number ≡ y = ap (λ o. slot o y.number) there in
      ap (λ z. z ∷ []) head

  message_claims : (y : Sending) → y.code ≢ 3 → session_claims (sent s a made y) ≡ count_by of_session (optional (send_slot s a made y.cont))
  message_claims y h =
      let hand = hand_ids s a made in
      let own = ap (count_by of_session) (addressed_own hand (target_id hand y.target) y.code y.args (send_slot s a made y.cont)) in
      let none : one_if (is_answer (named 0 0 (sent s a made y))) ≡ 0 = rw (ne_eqb y.code 3 h) refl in
      omega arith

  made_object : (make : ℕ) → id_at (hand_ids s a made) (length s.ids + length a.ids + make) ≡ id_at made make
  made_object make =
      let e : length s.ids + length a.ids + make ≡ length s.ids + (length a.ids + make) = omega arith in
      ap (id_at (hand_ids s a made)) e
      ∙ (get_or-append-add s.ids (a.ids ++ made) (length a.ids + make) session ∙ get_or-append-add a.ids made make session)

  module _ (others : AreOthers made) where
    cont_claims : (c : SendCont) → AllByRecursion (λ m. m.make < length made) (makes_slot c)
        → count_by of_session (optional (send_slot s a made c)) ≡ count_by in_hand (owns c) + length (draws c)
    cont_claims NoCont h = refl
    cont_claims (Own number) h = omega arith
    cont_claims (Made make n) h =
        let e : of_session (slot (id_at (hand_ids s a made) (length s.ids + length a.ids + make)) n) ≡ false =
        ap (same_object session) (made_object make) ∙ other_at made make others h.0 in
        rw e refl
    cont_claims (Here n) h = refl

    all-left : {X : Type 0} (P : X → Type 0) (xs ys : List X) → AllByRecursion P (xs ++ ys) → AllByRecursion P xs × AllByRecursion P ys
    all-left P [] ys h = (tt, h)
    all-left P (x ∷ xs) ys h = let rest = all-left P xs ys h.1 in ((h.0, rest.0), rest.1)

    sends_claims : (sends : List Sending) → AllByRecursion (λ y. (y.code ≢ 3) × (y.code ≢ 4)) sends
        → AllByRecursion (λ m. m.make < length made) (made_slots sends)
        → sum_by session_claims (map (sent s a made) sends) ≡ count_by in_hand (handed_on sends) + length (drawn_slots sends)
    sends_claims [] h below = refl
    sends_claims (y ∷ sends) h below =
        let parts = all-left (λ (m : MadeSlot). m.make < length made) (makes_slot y.cont) (made_slots sends) below in
        omega (
          arith,
          sends_claims sends h.1 parts.1,
          message_claims y h.0.0,
          cont_claims y.cont parts.0,
          sum_by-cons session_claims (sent s a made y) (map (sent s a made) sends),
          sum_by-append (λ i. one_if (in_hand i)) (owns y.cont) (handed_on sends),
          length-append (draws y.cont) (drawn_slots sends),
        )

    -- ---- what a reply claims

    reply_claims : (y : Reply) → session_claims (replied s a made y) ≡ one_if (in_hand y.cont)
    reply_claims y = omega arith

    replies_claims : (replies : List Reply) → sum_by session_claims (map (replied s a made) replies) ≡ count_by in_hand (answered replies)
    replies_claims [] = refl
    replies_claims (y ∷ replies) =
        omega (
          arith,
          replies_claims replies,
          reply_claims y,
          sum_by-cons session_claims (replied s a made y) (map (replied s a made) replies),
          sum_by-cons (λ i. one_if (in_hand i)) y.cont (answered replies),
        )

    -- ---- each slot of the hand is used once

    hit_hand : (j : ℕ) → cond (in_hand j) (one_if (j == j)) 0 ≡ one_if (in_hand j)
    hit_hand j = rw (eq-eqb j j refl) refl

    once_at : (i n : ℕ) (b : Bool) (c : ℕ) → i < n → c ≡ cond (nat_lt i n) 1 0 → cond b c 0 ≡ one_if b
    once_at i n true c h e = rw (e, lt-ltb i n h) refl
    once_at i n false c h e = refl

    hand_claims : (out : Outcome) → UsesEachOnce (length (hand_slots s a)) (uses out)
        → AllByRecursion (λ number. number < length (hand_slots s a)) (uses out)
        → count_by in_hand (uses out) ≡ kept_claims s + count_by of_session (own_slot a.ids a.cont)
    hand_claims out once below =
        let n = length (hand_slots s a) in
        let all = uses out in
        omega (
          arith,
          by_keys (λ j. j) in_hand in_hand (λ i j. j == i) hit_hand (λ j i d. ne_eqb j i d) n all below,
          total-same n (λ i. cond (in_hand i) (count_by (λ j. j == i) all) 0) (λ i. one_if (in_hand i))
              (λ i h. once_at i n (in_hand i) (count_by (λ j. j == i) all) h (once i)),
          by_places of_session (slot session 0) (hand_slots s a),
          sum_by-append (λ y. one_if (of_session y)) (map (slot_at s.ids) s.conts) (own_slot a.ids a.cont),
        )

-- ---- the session draws its slots

-- how many slots were drawn at an object, if it is the session
abbrev pub drawn_of : Id → State → ℕ
drawn_of o s = cond (same_object session o) s.drawn 0

drawn_here : (b : Bool) (more old new : ℕ) → b ≡ true → new ≡ old + more → more + cond b old 0 ≡ cond b new 0
drawn_here true more old new t e = omega arith
drawn_here false more old new t e = absurd (cc)

drawn_none : (b : Bool) (more old new : ℕ) → more ≡ 0 → new ≡ old + more → more + cond b old 0 ≡ cond b new 0
drawn_none true more old new z e = omega arith
drawn_none false more old new z e = omega arith

module _ (n kind here : ℕ) (s : State) (a : Act) (made : List Id) (out : Outcome) (keeps : KeepsLaws n kind here s a out) (o : Id)
    (console : kind ≡ 1 → same_object session o ≡ true) where
  session_draws : length (drawn_slots out.sends) + drawn_of o s ≡ drawn_of o (state_after s a made out)
  session_draws = elim (cases_eq kind 1) [
    | inl e ↦ drawn_here (same_object session o) (length (drawn_slots out.sends)) s.drawn out.state.drawn (console e) keeps.slots.counted
    | inr d ↦
        drawn_none (same_object session o) (length (drawn_slots out.sends)) s.drawn out.state.drawn
        (ap length (keeps.slots.session d)) keeps.slots.counted
  ]

  -- a committed action claims of the session what it and its target claimed, and the slots that the session draws
  pub outcome_claims : length made ≡ length out.makes → AreOthers made
      → kept_claims (state_after s a made out) + sum_by session_claims (sent_by (message_of a) s made out) + drawn_of o s
      ≡ kept_claims s + count_by of_session (own_slot a.ids a.cont) + drawn_of o (state_after s a made out)
  outcome_claims same others =
      omega (
        arith,
        state_kept s a made out,
        sends_claims s a made others out.sends keeps.moves.codes
            (subst (λ m. AllByRecursion (λ y. y.make < m) (made_slots out.sends)) (sym same) keeps.slots.made),
        replies_claims s a made others out.replies,
        sum_by-append session_claims (map (sent s a made) out.sends) (map (replied s a made) out.replies),
        sum_by-append (λ i. one_if (in_hand s a made i)) out.state.conts (handed_on out.sends ++ answered out.replies),
        sum_by-append (λ i. one_if (in_hand s a made i)) (handed_on out.sends) (answered out.replies),
        hand_claims s a made others out keeps.conts keeps.names.conts,
        session_draws,
      )
