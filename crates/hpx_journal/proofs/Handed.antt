-- What holds of each id of the hand, and of what an outcome sends to, holds of each id that it leaves.
use Rattle.std.proofs.Common.{ℕ, zero, suc, cond, true, false, Bool, List, [], ◌∷◌, ◌++◌, Option, Some, None, map, length}
use Rattle.std.specs.Prelude.{slice_index_or, pos, codes, ◌==◌}
use Rattle.std.specs.List.{AllByRecursion}
use Rattle.hpx_value.specs.Ids.{Id, bare_id}
use Rattle.hpx_value.specs.Values.{refs_in}
use Rattle.hpx_value.specs.Hands.{Slot, session, id_at, slot_at, own_slot, hand_ids, hand_slot, hand_slots, slot_ids, addressed, answer, target_id, send_slot, sent, state_after, slots_kept}
use Rattle.hpx_value.specs.declared.outcome.Target.{Target}
use Rattle.hpx_value.specs.declared.outcome.Target.TheVariants.{Place, Root}
use Rattle.hpx_value.specs.declared.outcome.SendCont.{SendCont}
use Rattle.hpx_value.specs.declared.outcome.SendCont.TheVariants.{Nothing as NoCont, Own, Made, Here}
use Rattle.hpx_value.specs.declared.outcome.Sending.{Sending}
use Rattle.hpx_value.specs.declared.outcome.Reply.{Reply}
use Rattle.hpx_journal.specs.Data.{Value, Int, Fault, Cont, State, Act, Outcome, Due, MessageDue, PrintDue}
use Rattle.hpx_journal.specs.Entries.{target_of}
use Rattle.hpx_value.specs.Riders.{rides, riders, rode, due_with}
use Rattle.hpx_journal.specs.Local.{failure}
use Rattle.hpx_journal.proofs.Alls.{all-append, all-any}
use Rattle.hpx_journal.proofs.Formed.{all-image}

pub all_at : {X : Type 0} (P : X → Type 0) (xs : List X) (i : ℕ) (d : X) → AllByRecursion P xs → P d → P (slice_index_or xs i d)
all_at P [] i d h e = e
all_at P (x ∷ xs) zero d h e = h.0
all_at P (x ∷ xs) (suc i) d h e = all_at P xs i d h.1 e

-- a root that a target names is as wanted
abbrev pub TargetIs : (Id → Type 0) → Target → Type 0
TargetIs P (Place place) = Unit {0}
TargetIs P (Root kind at) = P (bare_id at kind 1)

-- a send has a target and a code as wanted
abbrev pub SendIs : (Id → Type 0) → (ℕ → Type 0) → Sending → Type 0
SendIs P C x = TargetIs P x.target × C x.code

-- what is due has ids and a code as wanted
abbrev pub DueIs : (Id → Type 0) → (ℕ → Type 0) → Due → Type 0
DueIs P C (MessageDue m) = AllByRecursion P m.ids × C m.code
DueIs P C (PrintDue bytes) = Unit {0}

module _ (P : Id → Type 0) (C : ℕ → Type 0) (one : P session) (set : C 3) where
  id_is : (ids : List Id) (place : ℕ) → AllByRecursion P ids → P (id_at ids place)
  id_is ids place h = all_at P ids place session h one

  own_is : (ids : List Id) (c : Option Cont) → AllByRecursion P ids → AllByRecursion (λ x. P x.object) (own_slot ids c)
  own_is ids None h = tt
  own_is ids (Some c) h = (id_is ids c.place h, tt)

  print_is : (b : Bool) → AllByRecursion (DueIs P C) (cond b (PrintDue (codes "error: credit limit\n") ∷ []) [])
  print_is true = (tt, tt)
  print_is false = tt

  pub failure_is : (act : Act) → AllByRecursion P act.ids → AllByRecursion (DueIs P C) (failure act)
  failure_is act h =
      all-append (DueIs P C) (map (λ x. MessageDue (answer [] x (Fault 5))) (own_slot act.ids act.cont)) _
      (all-image (DueIs P C) (λ x. MessageDue (answer [] x (Fault 5))) (own_slot act.ids act.cont) (fails (own_slot act.ids act.cont) (own_is act.ids act.cont h)))
      (print_is ((target_of act).kind == 1))
    where
      fails : (xs : List Slot) → AllByRecursion (λ x. P x.object) xs → AllByRecursion (λ x. DueIs P C (MessageDue (answer [] x (Fault 5)))) xs
      fails [] h = tt
      fails (x ∷ xs) h = (((h.0, tt), set), fails xs h.1)

  module _ (s : State) (a : Act) (made : List Id) (in_state : AllByRecursion P s.ids) (in_act : AllByRecursion P a.ids)
      (in_made : AllByRecursion P made) where
    hand_is : AllByRecursion P (hand_ids s a made)
    hand_is = all-append P s.ids (a.ids ++ made) in_state (all-append P a.ids made in_act in_made)

    refs_are : (places : List ℕ) → AllByRecursion P (map (id_at (hand_ids s a made)) places)
    refs_are places =
        all-image P (id_at (hand_ids s a made)) places
        (all-any (λ place. P (id_at (hand_ids s a made) place)) (λ place. id_is (hand_ids s a made) place hand_is) places)

    slots_are : AllByRecursion (λ x. P x.object) (hand_slots s a)
    slots_are =
        all-append (λ x. P x.object) (map (slot_at s.ids) s.conts) (own_slot a.ids a.cont)
        (all-image (λ x. P x.object) (slot_at s.ids) s.conts
        (all-any (λ c. P (slot_at s.ids c).object) (λ c. id_is s.ids c.place in_state) s.conts))
        (own_is a.ids a.cont in_act)

    slot_is : (number : ℕ) → P (hand_slot s a number).object
    slot_is number = all_at (λ x. P x.object) (hand_slots s a) number (record { object = session; number = 0 }) slots_are one

    pub state_is : (out : Outcome) → AllByRecursion P (state_after s a made out).ids
    state_is out =
        all-append P (map (id_at (hand_ids s a made)) (refs_in out.state.values)) (map (λ x. x.object) (slots_kept s a out.state))
        (refs_are (refs_in out.state.values))
        (all-image P (λ x. x.object) (slots_kept s a out.state)
        (all-image (λ x. P x.object) (hand_slot s a) out.state.conts
        (all-any (λ i. P (hand_slot s a i).object) slot_is out.state.conts)))

    target_is : (t : Target) → TargetIs P t → P (target_id (hand_ids s a made) t)
    target_is (Place place) h = id_is (hand_ids s a made) place hand_is
    target_is (Root kind at) h = h

    cont_is : (c : SendCont) → AllByRecursion P (slot_ids (send_slot s a made c))
    cont_is NoCont = tt
    cont_is (Own number) = (slot_is number, tt)
    cont_is (Made make slot) = (id_is (hand_ids s a made) _ hand_is, tt)
    cont_is (Here slot) = (one, tt)

    addressed_is : (target : Id) (code : ℕ) (args : List Value) (cont : Option Slot) → P target → AllByRecursion P (slot_ids cont)
        → AllByRecursion P (addressed (hand_ids s a made) target code args cont).ids
    addressed_is target code args cont h i =
        (h, all-append P (map (id_at (hand_ids s a made)) (refs_in args)) (slot_ids cont) (refs_are (refs_in args)) i)

    sends_are : (xs : List Sending) → AllByRecursion (SendIs P C) xs → AllByRecursion (DueIs P C) (map (λ x. MessageDue (sent s a made x)) xs)
    sends_are [] h = tt
    sends_are (x ∷ xs) h = (
      (
        addressed_is (target_id (hand_ids s a made) x.target) x.code x.args (send_slot s a made x.cont) (target_is x.target h.0.0) (cont_is x.cont),
        h.0.1,
      ),
      sends_are xs h.1,
    )

    replies_are : (out : Outcome) (xs : List Reply) → AllByRecursion (DueIs P C) (map (λ x. MessageDue (rode s a made out x)) xs)
    replies_are out [] = tt
    replies_are out (x ∷ xs) = (
      (
        addressed_is (hand_slot s a x.cont).object 3
            (Int (pos (hand_slot s a x.cont).number) ∷ x.value ∷ riders (rides s a out x) (length s.ids)) None (slot_is x.cont) tt,
        set,
      ),
      replies_are out xs,
    )

    pub due_is : (out : Outcome) → AllByRecursion (SendIs P C) out.sends → AllByRecursion (DueIs P C) (due_with s a made out)
    due_is out h =
        all-append (DueIs P C) (map (λ x. MessageDue (sent s a made x)) out.sends) _ (sends_are out.sends h)
        (all-append (DueIs P C) (map (λ x. MessageDue (rode s a made out x)) out.replies) (map PrintDue out.prints) (replies_are out out.replies)
        (all-image (DueIs P C) PrintDue out.prints (all-any (λ bytes. DueIs P C (PrintDue bytes)) (λ bytes. tt) out.prints)))
