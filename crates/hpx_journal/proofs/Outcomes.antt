-- What an outcome claims: each slot of its hand once, each slot of a made object once, and what the session draws.
use Rattle.std.proofs.Common.{ℕ, suc, Bool, true, false, cond, List, [], ◌∷◌, ◌++◌, ◌≡◌, ◌≢◌, ◌+◌, ◌<◌, ◌≤◌, Option, Some, None, length, refl, sym, ap, ◌∙◌, subst, arith, map, length-append, append_assoc, nat_lt, inl, inr}
use Rattle.std.specs.Prelude.{◌==◌, ◌&&◌}
use Rattle.std.specs.List.{count_by, sum_by, AllByRecursion}
use Rattle.std.proofs.lemmas.List.Sums.{sum_by-cons, sum_by-append}
use Rattle.std.proofs.lemmas.List.{get_or-append-add, length-map}
use Rattle.std.proofs.lemmas.Bool.{eq-eqb, ne_eqb, lt-ltb, cases_eq}
use Rattle.std.proofs.lemmas.Bool.Decides.{nat_tests}
use Rattle.std.proofs.Math.Seq.{get_or-append_seam}
use Rattle.hpx_value.specs.Ids.{Id, same_object}
use Rattle.hpx_value.specs.Values.{refs_in, named}
use Rattle.hpx_value.specs.declared.outcome.SendCont.{SendCont}
use Rattle.hpx_value.specs.declared.outcome.SendCont.TheVariants.{Nothing as NoCont, Own, Made, Here}
use Rattle.hpx_value.specs.declared.outcome.Sending.{Sending}
use Rattle.hpx_value.specs.declared.outcome.Reply.{Reply}
use Rattle.hpx_value.specs.Hands.{Slot, session, id_at, slot_at, own_slot, hand_ids, hand_slots, hand_slot, addressed, target_id, send_slot, sent, conts_from, slots_kept, state_after}
use Rattle.hpx_value.specs.Laws.{KeepsLaws, UsesEachOnce, MadeSlot, owns, handed_on, answered, uses, makes_slot, made_slots, is_made_slot, draws, drawn_slots}
use Rattle.hpx_journal.specs.Data.{Value, State, Act, Outcome, MessageDue, PrintDue}
use Rattle.hpx_value.specs.Shapes.{IsCount}
use Rattle.hpx_value.specs.Riders.{rode, due_with}
use Rattle.hpx_journal.proofs.Riders.{rode_claims}
use Rattle.hpx_journal.specs.Slots.{same_slot, state_claims, due_claims, answers_of}
use Rattle.hpx_journal.proofs.Bags.{total-same, total-le}
use Rattle.hpx_journal.proofs.Keys.{one_if, by_keys, by_places, count-map}

abbrev pub optional : Option Slot → List Slot
optional None = []
optional (Some x) = x ∷ []

abbrev made_slot : Id → ℕ → Slot
made_slot object number = record { object = object; number = number }

eqb-sym : (a b : ℕ) → (a == b) ≡ (b == a)
eqb-sym a b = elim (cases_eq a b) [
  | inl e ↦ rw e refl
  | inr d ↦ rw (ne_eqb a b d, ne_eqb b a (λ e. d (sym e))) refl
]

-- ---- kept continuations lead where they led

lead : (front : List Id) (slots : List Slot) (n : ℕ) → n ≡ length front
    → map (slot_at (front ++ map (λ x. x.object) slots)) (conts_from n slots) ≡ slots
lead front [] n h = refl
lead front (x ∷ xs) n h =
    let rest : List Id = map (λ y. y.object) xs in
    let all : List Id = front ++ x.object ∷ rest in
    let here : id_at all n ≡ x.object = ap (id_at all) h ∙ get_or-append_seam front x.object rest session in
    let next : n + 1 ≡ length (front ++ x.object ∷ []) = omega (arith, length-append front (x.object ∷ [])) in
    let split : (front ++ x.object ∷ []) ++ rest ≡ all = append_assoc front (x.object ∷ []) rest in
    let tail : map (slot_at all) (conts_from (n + 1) xs) ≡ xs =
    subst (λ ids. map (slot_at ids) (conts_from (n + 1) xs) ≡ xs) split (lead (front ++ x.object ∷ []) xs (n + 1) next) in
    let head : made_slot (id_at all n) x.number ≡ x = ap (λ o. made_slot o x.number) here in
    cc

module _ (x : Slot) (s : State) (a : Act) (made : List Id) where
  -- whether a slot of the hand is x, a slot of a made object, and one of the session
  abbrev pub in_hand : ℕ → Bool
  in_hand i = same_slot x (hand_slot s a i)

  abbrev pub in_made : MadeSlot → Bool
  in_made m = same_slot x (made_slot (id_at made m.make) m.slot)

  abbrev pub in_session : ℕ → Bool
  in_session slot = same_slot x (made_slot session slot)

  state_kept : (out : Outcome) → state_claims x (state_after s a made out) ≡ count_by in_hand out.state.conts
  state_kept out =
      let front : List Id = map (id_at (hand_ids s a made)) (refs_in out.state.values) in
      ap (count_by (same_slot x)) (lead front (slots_kept s a out.state) (length (refs_in out.state.values))
      (sym (length-map (refs_in out.state.values) (id_at (hand_ids s a made)))))
      ∙ count-map (same_slot x) (hand_slot s a) out.state.conts

  -- ---- what a send claims

  addressed_own : (hand : List Id) (target : Id) (code : ℕ) (args : List Value) (cont : Option Slot)
      → own_slot (addressed hand target code args cont).ids (addressed hand target code args cont).cont ≡ optional cont
  addressed_own hand target code args None = refl
  addressed_own hand target code args (Some y) =
      let refs : List Id = map (id_at hand) (refs_in args) in
      let all : List Id = target ∷ (refs ++ y.object ∷ []) in
      let place : length (refs_in args) + 1 ≡ suc (length refs) = omega (arith, length-map (refs_in args) (id_at hand)) in
      let there : id_at all (length (refs_in args) + 1) ≡ y.object = ap (id_at all) place ∙ get_or-append_seam refs y.object [] session in
      let head : made_slot (id_at all (length (refs_in args) + 1)) y.number ≡ y = ap (λ o. made_slot o y.number) there in
      ap (λ z. z ∷ []) head

  message_claims : (y : Sending) → y.code ≢ 3
      → due_claims x (MessageDue (sent s a made y)) ≡ count_by (same_slot x) (optional (send_slot s a made y.cont))
  message_claims y h =
      let hand = hand_ids s a made in
      let m = addressed hand (target_id hand y.target) y.code y.args (send_slot s a made y.cont) in
      let own = ap (count_by (same_slot x)) (addressed_own hand (target_id hand y.target) y.code y.args (send_slot s a made y.cont)) in
      let none : answers_of x (named 0 0 m) ≡ 0 = rw (ne_eqb y.code 3 h) refl in
      omega arith

  made_object : (make : ℕ) → id_at (hand_ids s a made) (length s.ids + length a.ids + make) ≡ id_at made make
  made_object make =
      let e : length s.ids + length a.ids + make ≡ length s.ids + (length a.ids + make) = omega arith in
      ap (id_at (hand_ids s a made)) e
      ∙ (get_or-append-add s.ids (a.ids ++ made) (length a.ids + make) session ∙ get_or-append-add a.ids made make session)

  cont_claims : (c : SendCont) → count_by (same_slot x) (optional (send_slot s a made c))
      ≡ count_by in_hand (owns c) + count_by in_made (makes_slot c) + count_by in_session (draws c)
  cont_claims NoCont = refl
  cont_claims (Own number) = omega arith
  cont_claims (Made make slot) =
      let e : same_slot x (made_slot (id_at (hand_ids s a made) (length s.ids + length a.ids + make)) slot)
      ≡ same_slot x (made_slot (id_at made make) slot) = ap (λ o. same_slot x (made_slot o slot)) (made_object make) in
      rw e (omega arith)
  cont_claims (Here slot) = omega arith

  sends_claims : (sends : List Sending) → AllByRecursion (λ y. (y.code ≢ 3) × (y.code ≢ 4)) sends
      → sum_by (due_claims x) (map (λ y. MessageDue (sent s a made y)) sends)
      ≡ count_by in_hand (handed_on sends) + count_by in_made (made_slots sends) + count_by in_session (drawn_slots sends)
  sends_claims [] h = refl
  sends_claims (y ∷ sends) h =
      omega (
        arith,
        sends_claims sends h.1,
        message_claims y h.0.0,
        cont_claims y.cont,
        sum_by-cons (due_claims x) (MessageDue (sent s a made y)) (map (λ z. MessageDue (sent s a made z)) sends),
        sum_by-append (λ i. one_if (in_hand i)) (owns y.cont) (handed_on sends),
        sum_by-append (λ m. one_if (in_made m)) (makes_slot y.cont) (made_slots sends),
        sum_by-append (λ i. one_if (in_session i)) (draws y.cont) (drawn_slots sends),
      )

  -- ---- what a reply claims, and a print

  reply_claims : (out : Outcome) (y : Reply) → due_claims x (MessageDue (rode s a made out y)) ≡ one_if (in_hand y.cont)
  reply_claims out y = omega (arith, rode_claims x s a made out y)

  replies_claims : (out : Outcome) (replies : List Reply)
      → sum_by (due_claims x) (map (λ y. MessageDue (rode s a made out y)) replies) ≡ count_by in_hand (answered replies)
  replies_claims out [] = refl
  replies_claims out (y ∷ replies) =
      omega (
        arith,
        replies_claims out replies,
        reply_claims out y,
        sum_by-cons (due_claims x) (MessageDue (rode s a made out y)) (map (λ z. MessageDue (rode s a made out z)) replies),
        sum_by-cons (λ i. one_if (in_hand i)) y.cont (answered replies),
      )

  prints_claims : (prints : List (List ℕ)) → sum_by (due_claims x) (map PrintDue prints) ≡ 0
  prints_claims [] = refl
  prints_claims (p ∷ prints) = omega (arith, prints_claims prints, sum_by-cons (due_claims x) (PrintDue p) (map PrintDue prints))

  -- all that an outcome claims
  all_claims : (out : Outcome) → AllByRecursion (λ y. (y.code ≢ 3) × (y.code ≢ 4)) out.sends
      → state_claims x (state_after s a made out) + sum_by (due_claims x) (due_with s a made out)
      ≡ count_by in_hand (uses out) + count_by in_made (made_slots out.sends) + count_by in_session (drawn_slots out.sends)
  all_claims out h =
      let sends = map (λ y. MessageDue (sent s a made y)) out.sends in
      let replies = map (λ y. MessageDue (rode s a made out y)) out.replies in
      omega (
        arith,
        state_kept out,
        sends_claims out.sends h,
        replies_claims out out.replies,
        prints_claims out.prints,
        sum_by-append (due_claims x) sends (replies ++ map PrintDue out.prints),
        sum_by-append (due_claims x) replies (map PrintDue out.prints),
        sum_by-append (λ i. one_if (in_hand i)) out.state.conts (handed_on out.sends ++ answered out.replies),
        sum_by-append (λ i. one_if (in_hand i)) (handed_on out.sends) (answered out.replies),
      )

  -- ---- each slot of the hand is used once

  hit_hand : (j : ℕ) → cond (in_hand j) (one_if (j == j)) 0 ≡ one_if (in_hand j)
  hit_hand j = rw (eq-eqb j j refl) refl

  once_at : (i n : ℕ) (b : Bool) (c : ℕ) → i < n → c ≡ cond (nat_lt i n) 1 0 → cond b c 0 ≡ one_if b
  once_at i n true c h e = rw (e, lt-ltb i n h) refl
  once_at i n false c h e = refl

  hand_claims : (out : Outcome) → UsesEachOnce (length (hand_slots s a)) (uses out)
      → AllByRecursion (λ number. number < length (hand_slots s a)) (uses out)
      → count_by in_hand (uses out) ≡ state_claims x s + count_by (same_slot x) (own_slot a.ids a.cont)
  hand_claims out once below =
      let n = length (hand_slots s a) in
      let all = uses out in
      omega (
        arith,
        by_keys (λ j. j) in_hand in_hand (λ i j. j == i) hit_hand (λ j i d. ne_eqb j i d) n all below,
        total-same n (λ i. cond (in_hand i) (count_by (λ j. j == i) all) 0) (λ i. one_if (in_hand i))
            (λ i h. once_at i n (in_hand i) (count_by (λ j. j == i) all) h (once i)),
        by_places (same_slot x) (made_slot session 0) (hand_slots s a),
        sum_by-append (λ y. one_if (same_slot x y)) (map (slot_at s.ids) s.conts) (own_slot a.ids a.cont),
      )

  -- ---- each slot of a made object is named once

  is_made : ℕ → Bool
  is_made i = same_object x.object (id_at made i)

  hit_made_at : (b c d : Bool) → c ≡ d → cond b (one_if c) 0 ≡ one_if (b && d)
  hit_made_at true c d e = ap one_if e
  hit_made_at false c d e = refl

  hit_made : (m : MadeSlot) → cond (same_object x.object (id_at made m.make)) (one_if (is_made_slot m.make x.number m)) 0 ≡ one_if (in_made m)
  hit_made m =
      rw (eq-eqb m.make m.make refl)
      (hit_made_at (same_object x.object (id_at made m.make)) (m.slot == x.number) (x.number == m.slot) (eqb-sym m.slot x.number))

  miss_made : (m : MadeSlot) (i : ℕ) → m.make ≢ i → is_made_slot i x.number m ≡ false
  miss_made m i d = rw (ne_eqb m.make i d) refl

  few_at : (b : Bool) (c : ℕ) → c ≤ 1 → cond b c 0 ≤ one_if b
  few_at true c h = h
  few_at false c h = omega arith

  made_claims : (slots : List MadeSlot) → AllByRecursion (λ m. m.make < length made) slots
      → ((make slot : ℕ) → count_by (is_made_slot make slot) slots ≤ 1)
      → count_by in_made slots ≤ count_by (same_object x.object) made
  made_claims slots below once =
      let n = length made in
      let q : ℕ → Bool = λ i. same_object x.object (id_at made i) in
      omega (
        arith,
        by_keys (λ m. m.make) in_made q (λ i m. is_made_slot i x.number m) hit_made miss_made n slots below,
        total-le n (λ i. cond (q i) (count_by (is_made_slot i x.number) slots) 0) (λ i. one_if (q i))
            (λ i h. few_at (q i) (count_by (is_made_slot i x.number) slots) (once i x.number)),
        by_places (same_object x.object) session made,
      )

-- ---- the session draws its slots in order

drawn_count : (y n : ℕ) (slots : List ℕ) → IsCount n slots
    → count_by (λ p. y == p) slots + one_if (nat_lt y n) ≡ one_if (nat_lt y (n + length slots))
drawn_count y n [] h = let e : n + length {A = ℕ} [] ≡ n = omega arith in rw e (omega arith)
drawn_count y n (p ∷ slots) h =
    let e : n + length (p ∷ slots) ≡ n + 1 + length slots = omega arith in
    let first : one_if (y == p) + one_if (nat_lt y n) ≡ one_if (nat_lt y (n + 1)) = rw h.0 (next y n) in
    rw e (omega (arith, drawn_count y (n + 1) slots h.1, sum_by-cons (λ q. one_if (y == q)) p slots))
  where
    next : (y n : ℕ) → one_if (y == n) + one_if (nat_lt y n) ≡ one_if (nat_lt y (n + 1))
    next y n = grind (arith, nat_tests)

-- the slots that the session has drawn
abbrev pub opened : Slot → Id → State → ℕ
opened x o s = cond (same_object x.object session && same_object session o) (cond (nat_lt x.number s.drawn) 1 0) 0

session_counts : (x : Slot) (b : Bool) (slots : List ℕ) → same_object x.object session ≡ b
    → count_by (λ n. same_object x.object session && (x.number == n)) slots ≡ cond b (count_by (λ n. x.number == n) slots) 0
session_counts x true slots e = rw e refl
session_counts x false slots e = rw e (none slots)
  where
    none : (slots : List ℕ) → count_by (λ n. false) slots ≡ 0
    none [] = refl
    none (p ∷ slots) = omega (arith, none slots, sum_by-cons {X = ℕ} (λ n. 0) p slots)

opened_none : (x : Slot) (o : Id) (s : State) → same_object x.object session ≡ false → opened x o s ≡ 0
opened_none x o s e = rw e refl

drawn_at : (x : Slot) (o : Id) (s new : State) (slots : List ℕ) (b : Bool) → same_object x.object session ≡ b → same_object session o ≡ true
    → IsCount s.drawn slots → new.drawn ≡ s.drawn + length slots
    → count_by (λ n. same_object x.object session && (x.number == n)) slots + opened x o s ≡ opened x o new
drawn_at x o s new slots true e t h d =
    let c = drawn_count x.number s.drawn slots h in
    let f = session_counts x true slots e in
    rw (e, t, d) (omega (arith, f))
drawn_at x o s new slots false e t h d =
    omega (arith, session_counts x false slots e, opened_none x o s e, opened_none x o new e)

-- what draws nothing opens nothing
undrawn_at : (x : Slot) (o : Id) (s new : State) → new.drawn ≡ s.drawn + 0 → opened x o s ≡ opened x o new
undrawn_at x o s new d = let e : new.drawn ≡ s.drawn = omega arith in rw e refl

module _ (n kind here : ℕ) (s : State) (a : Act) (made : List Id) (out : Outcome) (keeps : KeepsLaws n kind here s a out) (o : Id)
    (console : kind ≡ 1 → same_object session o ≡ true) where
  session_claims : (x : Slot) → count_by (in_session x s a made) (drawn_slots out.sends) + opened x o s ≡ opened x o (state_after s a made out)
  session_claims x = elim (cases_eq kind 1) [
    | inl e ↦
        drawn_at x o s (state_after s a made out) (drawn_slots out.sends) (same_object x.object session) refl (console e)
        keeps.slots.drawn keeps.slots.counted
    | inr d ↦
        let none : drawn_slots out.sends ≡ [] = keeps.slots.session d in
        let same : out.state.drawn ≡ s.drawn + 0 = keeps.slots.counted ∙ ap (λ slots. s.drawn + length slots) none in
        let zero : count_by (in_session x s a made) (drawn_slots out.sends) ≡ 0 = ap (count_by (in_session x s a made)) none in
        omega (arith, undrawn_at x o s (state_after s a made out) same)
  ]

  -- a committed action claims what it and its target claimed, the slots of what it makes, and those that the session draws
  pub outcome_claims : length made ≡ length out.makes → (x : Slot)
      → state_claims x (state_after s a made out) + sum_by (due_claims x) (due_with s a made out) + opened x o s
      ≤ state_claims x s + count_by (same_slot x) (own_slot a.ids a.cont) + opened x o (state_after s a made out)
      + count_by (same_object x.object) made
  outcome_claims same x =
      omega (
        arith,
        all_claims x s a made out keeps.moves.codes,
        hand_claims x s a made out keeps.conts keeps.names.conts,
        made_claims x s a made (made_slots out.sends)
            (subst (λ m. AllByRecursion (λ y. y.make < m) (made_slots out.sends)) (sym same) keeps.slots.made) keeps.slots.made_once,
        session_claims x,
      )
