-- Messages and states made of a hand without credits are those made of the hand, without credits, whatever is made.
use Rattle.std.proofs.Common.{Bool, ℕ, zero, suc, List, [], ◌∷◌, ◌++◌, ◌≡◌, ◌+◌, pos, Option, Some, None, length, map, refl, sym, ap, ◌∙◌}
use Rattle.std.specs.List.{slice_index_or}
use Rattle.std.proofs.lemmas.List.{map-append, length-map}
use Rattle.hpx_value.specs.Ids.{Id, bare}
use Rattle.hpx_value.specs.Values.{bare_act, bare_state, bare_message, message_of, named, refs_in}
use Rattle.hpx_commit.proofs.Common.{Value, Int, Cont, State, Act, Message, Target, Place, Root, SendCont, NoCont, Own, Made, Here, Sending, Reply, Outcome, Due, MessageDue, PrintDue}
use Rattle.hpx_value.specs.Hands.{Slot, session, id_at, slot_at, own_slot, hand_ids, hand_slots, hand_slot, addressed, renumbered, target_id, send_slot, sent, conts_from, state_after}
use Rattle.hpx_value.specs.Riders.{rides, riders, answer_with, rode_with, rode, due_with}
use Rattle.hpx_commit.proofs.BareMentions.{rides-bare}
use Rattle.hpx_commit.proofs.Places.{at_map}

-- what is made of each
maps : {X Y : Type 0} (f h : X → Y) (g : Y → Y) (xs : List X) → ((x : X) → h x ≡ g (f x)) → map h xs ≡ map g (map f xs)
maps f h g [] e = refl
maps f h g (x ∷ xs) e = ap (λ y. y ∷ map h xs) (e x) ∙ ap (λ ys. g (f x) ∷ ys) (maps f h g xs e)

bare_twice : (ids : List Id) → map bare (map bare ids) ≡ map bare ids
bare_twice ids = sym (maps bare bare bare ids (λ id. refl))

at_bare : (ids : List Id) (p : ℕ) → id_at (map bare ids) p ≡ bare (id_at ids p)
at_bare ids p = at_map bare ids p

-- ---- a hand

abbrev bare_slot : Slot → Slot
bare_slot x = record { object = bare x.object; number = x.number }

slot_at-bare : (ids : List Id) (c : Cont) → slot_at (map bare ids) c ≡ bare_slot (slot_at ids c)
slot_at-bare ids c = ap (λ id. record { object = id; number = c.slot }) (at_bare ids c.place)

own-bare : (ids : List Id) (c : Option Cont) → own_slot (map bare ids) c ≡ map bare_slot (own_slot ids c)
own-bare ids None = refl
own-bare ids (Some c) = ap (λ x. x ∷ []) (slot_at-bare ids c)

nth-bare : (xs : List Slot) (n : ℕ)
    → slice_index_or (map bare_slot xs) n (record { object = session; number = 0 }) ≡ bare_slot (slice_index_or xs n (record { object = session; number = 0 }))
nth-bare [] n = refl
nth-bare (x ∷ xs) zero = refl
nth-bare (x ∷ xs) (suc n) = nth-bare xs n

abbrev bare_option : Option Slot → Option Slot
bare_option None = None
bare_option (Some x) = Some (bare_slot x)

refs-bare : (hand : List Id) (places : List ℕ) → map (id_at (map bare hand)) places ≡ map bare (map (id_at hand) places)
refs-bare hand ps = maps (id_at hand) (id_at (map bare hand)) bare ps (at_bare hand)

addressed-bare : (hand : List Id) (target : Id) (code : ℕ) (args : List Value) (cont : Option Slot)
    → addressed (map bare hand) (bare target) code args (bare_option cont) ≡ bare_message (addressed hand target code args cont)
addressed-bare hand target code args None =
    ap (λ ids. record (addressed (map bare hand) (bare target) code args None) { ids = bare target ∷ ids })
    (ap (λ xs. xs ++ []) (refs-bare hand (refs_in args)) ∙ sym (map-append bare (map (id_at hand) (refs_in args)) []))
addressed-bare hand target code args (Some x) =
    ap (λ ids. record (addressed (map bare hand) (bare target) code args (Some (bare_slot x))) { ids = bare target ∷ ids })
    (ap (λ xs. xs ++ bare x.object ∷ []) (refs-bare hand (refs_in args)) ∙ sym (map-append bare (map (id_at hand) (refs_in args)) (x.object ∷ [])))

target_id-bare : (hand : List Id) (t : Target) → target_id (map bare hand) t ≡ bare (target_id hand t)
target_id-bare hand (Place p) = at_bare hand p
target_id-bare hand (Root kind at) = refl

conts_from-bare : (n : ℕ) (xs : List Slot) → conts_from n (map bare_slot xs) ≡ conts_from n xs
conts_from-bare n [] = refl
conts_from-bare n (x ∷ xs) = ap (λ cs. record { place = n; slot = x.number } ∷ cs) (conts_from-bare (n + 1) xs)

-- the new state, with these continuations and ids
abbrev state_with : Outcome → List Cont → List Id → State
state_with out cs ids = record { drawn = out.state.drawn; values = renumbered 0 out.state.values; conts = cs; ids = ids }

module _ (s : State) (a : Act) where
  slots-bare : hand_slots (bare_state s) (bare_act a) ≡ map bare_slot (hand_slots s a)
  slots-bare =
      ap (λ xs. xs ++ own_slot (map bare a.ids) a.cont) (maps (slot_at s.ids) (slot_at (map bare s.ids)) bare_slot s.conts (slot_at-bare s.ids))
      ∙ (ap (λ xs. map bare_slot (map (slot_at s.ids) s.conts) ++ xs) (own-bare a.ids a.cont)
      ∙ sym (map-append bare_slot (map (slot_at s.ids) s.conts) (own_slot a.ids a.cont)))

  slot-bare : (n : ℕ) → hand_slot (bare_state s) (bare_act a) n ≡ bare_slot (hand_slot s a n)
  slot-bare n = ap (λ xs. slice_index_or xs n (record { object = session; number = 0 })) slots-bare ∙ nth-bare (hand_slots s a) n

  module _ (made : List Id) where
    hand-bare : hand_ids (bare_state s) (bare_act a) (map bare made) ≡ map bare (hand_ids s a made)
    hand-bare = sym (map-append bare s.ids (a.ids ++ made) ∙ ap (λ xs. map bare s.ids ++ xs) (map-append bare a.ids made))

    -- ---- messages

    send_slot-bare : (c : SendCont) → send_slot (bare_state s) (bare_act a) (map bare made) c ≡ bare_option (send_slot s a made c)
    send_slot-bare NoCont = refl
    send_slot-bare (Own n) = ap (λ x. Some x) (slot-bare n)
    send_slot-bare (Made make slot) =
        ap (λ id. Some (record { object = id; number = slot }))
        (ap (λ xs. id_at xs (length (map bare s.ids) + length (map bare a.ids) + make)) hand-bare
        ∙ (ap (λ n. id_at (map bare (hand_ids s a made)) (n + length (map bare a.ids) + make)) (length-map s.ids bare)
        ∙ (ap (λ n. id_at (map bare (hand_ids s a made)) (length s.ids + n + make)) (length-map a.ids bare)
        ∙ at_bare (hand_ids s a made) (length s.ids + length a.ids + make))))
    send_slot-bare (Here slot) = refl

    sent-bare : (x : Sending) → sent (bare_state s) (bare_act a) (map bare made) x ≡ bare_message (sent s a made x)
    sent-bare x =
        ap (λ hand. addressed hand (target_id hand x.target) x.code x.args (send_slot (bare_state s) (bare_act a) (map bare made) x.cont)) hand-bare
        ∙ (ap (λ t. addressed (map bare (hand_ids s a made)) t x.code x.args (send_slot (bare_state s) (bare_act a) (map bare made) x.cont)) (target_id-bare (hand_ids s a made) x.target)
        ∙ (ap (λ c. addressed (map bare (hand_ids s a made)) (bare (target_id (hand_ids s a made) x.target)) x.code x.args c) (send_slot-bare x.cont)
        ∙ addressed-bare (hand_ids s a made) (target_id (hand_ids s a made) x.target) x.code x.args (send_slot s a made x.cont)))

    -- with the same rider, if there is one
    answered-bare : (b : Bool) (x : Reply) → rode_with (bare_state s) (bare_act a) (map bare made) b x ≡ bare_message (rode_with s a made b x)
    answered-bare b x =
        let slot = hand_slot s a x.cont in
        ap (λ hand. answer_with hand (hand_slot (bare_state s) (bare_act a) x.cont) x.value (riders b (length (map bare s.ids)))) hand-bare
        ∙ (ap (λ y. answer_with (map bare (hand_ids s a made)) y x.value (riders b (length (map bare s.ids)))) (slot-bare x.cont)
        ∙ (ap (λ k. answer_with (map bare (hand_ids s a made)) (bare_slot slot) x.value (riders b k)) (length-map s.ids bare)
        ∙ addressed-bare (hand_ids s a made) slot.object 3 (Int (pos slot.number) ∷ x.value ∷ riders b (length s.ids)) None))

    rode-bare : (out : Outcome) (x : Reply) → rode (bare_state s) (bare_act a) (map bare made) out x ≡ bare_message (rode s a made out x)
    rode-bare out x =
        ap (λ b. rode_with (bare_state s) (bare_act a) (map bare made) b x) (rides-bare s a out x) ∙ answered-bare (rides s a out x) x

    -- what is due, without credits
    module _ (g : Due → Due) (message : (m : Message) → g (MessageDue m) ≡ MessageDue (bare_message m)) (print : (bytes : List ℕ) → g (PrintDue bytes) ≡ PrintDue bytes) where
      messages-bare : {X : Type 0} (f h : X → Message) (xs : List X) → ((x : X) → h x ≡ bare_message (f x))
          → map (λ x. MessageDue (h x)) xs ≡ map g (map (λ x. MessageDue (f x)) xs)
      messages-bare f h xs e = maps (λ x. MessageDue (f x)) (λ x. MessageDue (h x)) g xs (λ x. ap MessageDue (e x) ∙ sym (message (f x)))

      pub due-bare : (out : Outcome) → due_with (bare_state s) (bare_act a) (map bare made) out ≡ map g (due_with s a made out)
      due-bare out =
          let sends = map (λ x. MessageDue (sent s a made x)) out.sends in
          let replies = map (λ x. MessageDue (rode s a made out x)) out.replies in
          let prints = map PrintDue out.prints in
          let replies' = map (λ x. MessageDue (rode (bare_state s) (bare_act a) (map bare made) out x)) out.replies in
          ap (λ xs. xs ++ (replies' ++ prints)) (messages-bare (sent s a made) (sent (bare_state s) (bare_act a) (map bare made)) out.sends sent-bare)
          ∙ (ap (λ xs. map g sends ++ (xs ++ prints)) (messages-bare (rode s a made out) (rode (bare_state s) (bare_act a) (map bare made) out) out.replies (rode-bare out))
          ∙ (ap (λ xs. map g sends ++ (map g replies ++ xs)) (maps PrintDue PrintDue g out.prints (λ x. sym (print x)))
          ∙ (ap (λ xs. map g sends ++ xs) (sym (map-append g replies prints))
          ∙ sym (map-append g sends (replies ++ prints)))))

    -- the new state, without credits
    pub state-bare : (out : Outcome) → state_after (bare_state s) (bare_act a) (map bare made) out ≡ bare_state (state_after s a made out)
    state-bare out =
        let refs = refs_in out.state.values in
        let slots = map (hand_slot s a) out.state.conts in
        let make = λ (cs : List Cont) (ids : List Id). state_with out cs ids in
        ap (λ xs. make (conts_from (length refs) xs) (map (id_at (hand_ids (bare_state s) (bare_act a) (map bare made))) refs ++ map (λ x. x.object) xs))
        (maps (hand_slot s a) (hand_slot (bare_state s) (bare_act a)) bare_slot out.state.conts slot-bare)
        ∙ (ap (λ cs. make cs (map (id_at (hand_ids (bare_state s) (bare_act a) (map bare made))) refs ++ map (λ x. x.object) (map bare_slot slots))) (conts_from-bare (length refs) slots)
        ∙ (ap (λ hand. make (conts_from (length refs) slots) (map (id_at hand) refs ++ map (λ x. x.object) (map bare_slot slots))) hand-bare
        ∙ (ap (λ xs. make (conts_from (length refs) slots) (xs ++ map (λ x. x.object) (map bare_slot slots))) (refs-bare (hand_ids s a made) refs)
        ∙ (ap (λ xs. make (conts_from (length refs) slots) (map bare (map (id_at (hand_ids s a made)) refs) ++ xs)) (objects-bare slots)
        ∙ ap (λ ids. make (conts_from (length refs) slots) ids) (sym (map-append bare (map (id_at (hand_ids s a made)) refs) (map (λ x. x.object) slots)))))))
      where
        objects-bare : (xs : List Slot) → map (λ x. x.object) (map bare_slot xs) ≡ map bare (map (λ x. x.object) xs)
        objects-bare [] = refl
        objects-bare (x ∷ xs) = ap (λ ys. bare x.object ∷ ys) (objects-bare xs)

-- ---- what the acts do not see

-- neither names nor credits matter, so neither do credits alone
pub blind_of : (act_of : State → Act → Outcome)
    → ((s : State) (a : Act) → act_of s a ≡ act_of (bare_state s) (named 0 0 (message_of (bare_act a))))
    → (s : State) (a : Act) → act_of (bare_state s) (bare_act a) ≡ act_of s a
blind_of act_of blind s a =
    blind (bare_state s) (bare_act a)
    ∙ (ap (λ ids. act_of (record { drawn = s.drawn; values = s.values; conts = s.conts; ids = ids }) (named 0 0 (message_of (bare_act (bare_act a))))) (bare_twice s.ids)
    ∙ (ap (λ ids. act_of (bare_state s) (record { origin = 0; serial = 0; code = a.code; args = a.args; cont = a.cont; ids = ids })) (bare_twice a.ids)
    ∙ sym (blind s a)))
