-- What an outcome leaves has its credits, by the laws, whatever is made.
use Rattle.std.proofs.Common.{ℕ, zero, suc, List, [], ◌∷◌, ◌++◌, ◌≡◌, ◌+◌, ◌<◌, ◌≤◌, Option, Some, None, length, map, sym, ap, ◌∙◌, subst, arith, inl, inr, pos}
use Rattle.std.specs.List.{AllByRecursion, slice_index_or}
use Rattle.std.proofs.lemmas.List.{map-append}
use Rattle.hpx_value.specs.Ids.{Id}
use Rattle.hpx_value.specs.Values.{refs_in}
use Rattle.hpx_value.specs.Shapes.{IsMessage}
use Rattle.hpx_value.specs.Hands.{Slot, session, id_at, slot_at, own_slot, hand_ids, hand_slots, hand_slot, addressed, slot_ids, renumbered, target_id, send_slot, sent, replied, slots_kept, state_after}
use Rattle.hpx_value.specs.Riders.{rides, riders, rode, due_with}
use Rattle.hpx_value.proofs.Riders.{rode_formed}
use Rattle.hpx_value.specs.Laws.{KeepsLaws, IsRoot, IsTarget, MovesBelow, target_kind}
use Rattle.hpx_value.specs.Mentions.{hand_kinds, kind_at}
use Rattle.hpx_commit.proofs.Common.{Value, Int, Cont, State, Act, Message, Target, Place, Root, SendCont, NoCont, Own, Made, Here, Sending, Reply, Outcome, Make, Due, MessageDue, PrintDue}
use Rattle.hpx_commit.proofs.Naming.{unmanaged}
use Rattle.hpx_commit.proofs.Places.{kind_of, kind_found}
use Rattle.hpx_commit.proofs.Rights.{AreRight, right_at, right_session}

pub all_append : {X : Type 0} (P : X → Type 0) (xs ys : List X) → AllByRecursion P xs → AllByRecursion P ys → AllByRecursion P (xs ++ ys)
all_append P [] ys h i = i
all_append P (x ∷ xs) ys h i = (h.0, all_append P xs ys h.1 i)

root_low : (n kind at : ℕ) → IsRoot n kind at → kind < 16
root_low n kind at (inl (inl k, z)) = omega arith
root_low n kind at (inl (inr (inl k), z)) = omega arith
root_low n kind at (inl (inr (inr k), z)) = omega arith
root_low n kind at (inr (inl k, z)) = omega arith
root_low n kind at (inr (inr (inl k), z)) = omega arith
root_low n kind at (inr (inr (inr k), z)) = omega arith

-- ---- credits

module _ (P Q : Id → Type 0) (are : AreRight P Q) where
  right_each : (ids : List Id) (places : List ℕ) → AllByRecursion P ids → AllByRecursion P (map (id_at ids) places)
  right_each ids [] h = tt
  right_each ids (p ∷ ps) h = (right_at P Q are ids p h, right_each ids ps h)

  abbrev IsPaid : Slot → Type 0
  IsPaid x = P x.object

  paid_each : (ids : List Id) (cs : List Cont) → AllByRecursion P ids → AllByRecursion IsPaid (map (slot_at ids) cs)
  paid_each ids [] h = tt
  paid_each ids (c ∷ cs) h = (right_at P Q are ids c.place h, paid_each ids cs h)

  paid_own : (ids : List Id) (c : Option Cont) → AllByRecursion P ids → AllByRecursion IsPaid (own_slot ids c)
  paid_own ids None h = tt
  paid_own ids (Some c) h = (right_at P Q are ids c.place h, tt)

  paid_at : (xs : List Slot) (n : ℕ) → AllByRecursion IsPaid xs → IsPaid (slice_index_or xs n (record { object = session; number = 0 }))
  paid_at [] n h = right_session P Q are
  paid_at (x ∷ xs) zero h = h.0
  paid_at (x ∷ xs) (suc n) h = paid_at xs n h.1

  abbrev IsPaidOption : Option Slot → Type 0
  IsPaidOption None = Unit {0}
  IsPaidOption (Some x) = IsPaid x

  paid_ids : (c : Option Slot) → IsPaidOption c → AllByRecursion P (slot_ids c)
  paid_ids None h = tt
  paid_ids (Some x) h = (h, tt)

  paid_addressed : (hand : List Id) (target : Id) (code : ℕ) (args : List Value) (c : Option Slot) → AllByRecursion P hand
      → P target → IsPaidOption c → AllByRecursion P (addressed hand target code args c).ids
  paid_addressed hand target code args c h i j =
      (i, all_append P (map (id_at hand) (refs_in args)) (slot_ids c) (right_each hand (refs_in args) h) (paid_ids c j))

  target_right : (n : ℕ) (hand : List Id) (t : Target) → IsTarget n t → AllByRecursion P hand → P (target_id hand t)
  target_right n hand (Place p) h i = right_at P Q are hand p i
  target_right n hand (Root kind at) h i = are.so (target_id hand (Root kind at)) (sym (unmanaged kind (root_low n kind at h)))

  kept_right : (xs : List Slot) → AllByRecursion IsPaid xs → AllByRecursion P (map (λ x. x.object) xs)
  kept_right [] h = tt
  kept_right (x ∷ xs) h = (h.0, kept_right xs h.1)

  -- ---- by the laws

  module _ (n kind here : ℕ) (s : State) (a : Act) (out : Outcome) (laws : KeepsLaws n kind here s a out) (few : n ≤ 64)
      (made : List Id) (kinds : map kind_of made ≡ map (λ (x : Make). x.kind) out.makes)
      (credit : AllByRecursion P s.ids) (own : AllByRecursion P a.ids) (born : AllByRecursion P made) where
    pub hand_right : AllByRecursion P (hand_ids s a made)
    hand_right = all_append P s.ids (a.ids ++ made) credit (all_append P a.ids made own born)

    slots_paid : AllByRecursion IsPaid (hand_slots s a)
    slots_paid = all_append IsPaid (map (slot_at s.ids) s.conts) (own_slot a.ids a.cont) (paid_each s.ids s.conts credit) (paid_own a.ids a.cont own)

    paid_cont : (c : SendCont) → IsPaidOption (send_slot s a made c)
    paid_cont NoCont = tt
    paid_cont (Own i) = paid_at (hand_slots s a) i slots_paid
    paid_cont (Made make slot) = right_at P Q are (hand_ids s a made) (length s.ids + length a.ids + make) hand_right
    paid_cont (Here slot) = right_session P Q are

    kept_paid : (numbers : List ℕ) → AllByRecursion IsPaid (map (hand_slot s a) numbers)
    kept_paid [] = tt
    kept_paid (i ∷ is) = (paid_at (hand_slots s a) i slots_paid, kept_paid is)

    -- the ids of the new state have their credits
    pub state_right : AllByRecursion P (state_after s a made out).ids
    state_right = all_append P (map (id_at (hand_ids s a made)) (refs_in out.state.values)) _
        (right_each (hand_ids s a made) (refs_in out.state.values) hand_right)
        (kept_right (slots_kept s a out.state) (kept_paid out.state.conts))

    pub hand_kinds_are : hand_kinds s a out ≡ map kind_of (hand_ids s a made)
    hand_kinds_are =
        ap (λ ks. map kind_of s.ids ++ (map kind_of a.ids ++ ks)) (sym kinds)
        ∙ sym (map-append kind_of s.ids (a.ids ++ made) ∙ ap (λ ks. map kind_of s.ids ++ ks) (map-append kind_of a.ids made))

    movable : (t : Target) → (16 ≤ target_kind s a out t) × (target_kind s a out t ≤ 31)
        → (16 ≤ (target_id (hand_ids s a made) t).kind) × ((target_id (hand_ids s a made) t).kind ≤ 31)
    movable (Place p) h =
        let e : kind_at s a out p ≡ slice_index_or (map kind_of (hand_ids s a made)) p 0 = ap (λ ks. slice_index_or ks p 0) hand_kinds_are in
        let k : (id_at (hand_ids s a made) p).kind ≡ slice_index_or (map kind_of (hand_ids s a made)) p 0 =
        kind_found (hand_ids s a made) p (omega (arith, e, h.0)) in
        (omega (arith, e, k, h.0), omega (arith, e, k, h.1))
    movable (Root root at) h = h

    -- what holds of each well-formed message holds of all that is due; where it is a MOVE, M holds of its ids and its arguments
    module _ (M : List Id → List Value → Type 0) (D : Due → Type 0)
        (moves : (target : Id) (ids : List Id) (t : ℕ) → 16 ≤ target.kind → target.kind ≤ 31 → t ≤ 63 → M (target ∷ ids) (Int (pos t) ∷ []))
        (message : (m : Message) → IsMessage m → AllByRecursion P m.ids → (m.code ≡ 1 → M m.ids m.args) → D (MessageDue m))
        (print : (bytes : List ℕ) → D (PrintDue bytes)) where
      fit_sends : (xs : List Sending) → AllByRecursion (λ x. IsTarget n x.target) xs
          → AllByRecursion (λ x. IsMessage (sent s a made x)) xs
          → AllByRecursion (λ x. x.code ≡ 1 → ((16 ≤ target_kind s a out x.target) × (target_kind s a out x.target ≤ 31)) × MovesBelow n x.args) xs
          → AllByRecursion D (map (λ x. MessageDue (sent s a made x)) xs)
      fit_sends [] targets shapes codes = tt
      fit_sends (x ∷ xs) targets shapes codes = (
        message (sent s a made x) shapes.0
            (paid_addressed (hand_ids s a made) (target_id (hand_ids s a made) x.target) x.code x.args (send_slot s a made x.cont) hand_right
            (target_right n (hand_ids s a made) x.target targets.0 hand_right) (paid_cont x.cont))
            (λ e. let m = codes.0 e in
            let k = movable x.target m.0 in
            subst (M (sent s a made x).ids) (sym (ap (renumbered 1) m.1.2))
            (moves (target_id (hand_ids s a made) x.target) _ m.1.0 k.0 k.1 (omega (arith, m.1.1, few)))),
        fit_sends xs targets.1 shapes.1 codes.1,
      )

      fit_replies : (xs : List Reply) → AllByRecursion (λ x. IsMessage (replied s a made x)) xs → AllByRecursion D (map (λ x. MessageDue (rode s a made out x)) xs)
      fit_replies [] shapes = tt
      fit_replies (x ∷ xs) shapes = (
        message (rode s a made out x) (rode_formed s a made out x shapes.0)
            (paid_addressed (hand_ids s a made) (hand_slot s a x.cont).object 3 (Int (pos (hand_slot s a x.cont).number) ∷ x.value ∷ riders (rides s a out x) (length s.ids)) None hand_right (paid_at (hand_slots s a) x.cont slots_paid) tt)
            (λ e. absurd (omega (arith, e))),
        fit_replies xs shapes.1,
      )

      fit_prints : (xs : List (List ℕ)) → AllByRecursion D (map PrintDue xs)
      fit_prints [] = tt
      fit_prints (x ∷ xs) = (print x, fit_prints xs)

      pub fit_due : AllByRecursion D (due_with s a made out)
      fit_due = all_append D (map (λ x. MessageDue (sent s a made x)) out.sends) _ (fit_sends out.sends laws.roots (laws.shapes.sends made) laws.moves.moves)
          (all_append D (map (λ x. MessageDue (rode s a made out x)) out.replies) (map PrintDue out.prints) (fit_replies out.replies (laws.shapes.replies made)) (fit_prints out.prints))
