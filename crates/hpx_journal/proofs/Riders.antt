-- Riders in a journal: what an action moves, and the slots that an answer claims, are the same without its rider.
use Rattle.std.proofs.Common.{ℕ, suc, Bool, true, false, cond, List, [], ◌∷◌, ◌≡◌, Option, Some, None, length, refl, sym, ap, ◌∙◌}
use Rattle.std.specs.Prelude.{pos, negsuc, ◌==◌, ◌&&◌}
use Rattle.std.specs.List.{remove}
use Rattle.std.proofs.lemmas.Bool.{eqb-true}
use Rattle.hpx_value.specs.Ids.{Id, same_object}
use Rattle.hpx_value.specs.Values.{message_of, named}
use Rattle.hpx_value.specs.declared.outcome.Reply.{Reply}
use Rattle.hpx_value.specs.Hands.{Slot, id_at, hand_ids, hand_slot, answer, replied}
use Rattle.hpx_value.specs.Riders.{rider_in, unridden, plain_message, plain, rides, riders, answer_with, rode}
use Rattle.hpx_value.proofs.Riders.{target_unridden, plain_code}
use Rattle.hpx_journal.specs.Data.{Value, Nothing, Flag, Int, Text, Ref, Fault, Ints, Cont, State, Act, Outcome, MessageDue}
use Rattle.hpx_journal.specs.Entries.{move_to}
use Rattle.hpx_journal.specs.Slots.{answers_of, due_claims, is_pos}
use Rattle.hpx_journal.proofs.Keys.{one_if}

-- ---- a MOVE stays

moves_at : (a : Act) (b : Bool) → (a.code == 3) ≡ b → move_to (plain a) ≡ move_to a
moves_at a true e =
    let code : a.code ≡ 3 = eqb-true a.code 3 e in
    none (rider_in a.args) code ∙ sym (rw code refl)
  where
    none : (p : Option ℕ) → a.code ≡ 3 → move_to (named a.origin a.serial (plain_message (message_of a))) ≡ None
    none p code = rw (plain_code a, code) refl
moves_at a false e = ap (λ m. move_to (named a.origin a.serial m)) (ap (λ b. unridden (message_of a) (cond b (rider_in a.args) None)) e)

pub plain_moves : (a : Act) → move_to (plain a) ≡ move_to a
plain_moves a = moves_at a (a.code == 3) refl

-- ---- it claims what the answer claims

answer_claims : (y : Slot) (hand : List Id) (x : Slot) (v : Value) (b : Bool) (place : ℕ)
    → due_claims y (MessageDue (answer_with hand x v (riders b place))) ≡ due_claims y (MessageDue (answer hand x v))
answer_claims y hand x v true place = refl
answer_claims y hand x v false place = refl

pub rode_claims : (y : Slot) (s : State) (a : Act) (made : List Id) (out : Outcome) (x : Reply)
    → due_claims y (MessageDue (rode s a made out x)) ≡ due_claims y (MessageDue (replied s a made x))
rode_claims y s a made out x = answer_claims y (hand_ids s a made) (hand_slot s a x.cont) x.value (rides s a out x) (length s.ids)

-- ---- it answers what it answered

first_pos : (n : ℕ) (x z : Value) (more : List Value) → is_pos n (x ∷ z ∷ []) ≡ is_pos n (x ∷ z ∷ more)
first_pos n Nothing z more = refl
first_pos n (Flag f) z more = refl
first_pos n (Int (pos m)) z more = refl
first_pos n (Int (negsuc m)) z more = refl
first_pos n (Text t) z more = refl
first_pos n (Ref q) z more = refl
first_pos n (Fault f) z more = refl
first_pos n (Ints ns) z more = refl

answers_same : (y : Slot) (code : ℕ) (x z : Value) (p : ℕ) (a b : Id) → a ≡ b
    → one_if ((code == 3) && (same_object y.object a && is_pos y.number (x ∷ z ∷ [])))
    ≡ one_if ((code == 3) && (same_object y.object b && is_pos y.number (x ∷ z ∷ Ref (suc p) ∷ [])))
answers_same y code x z p a b e =
    ap (λ (o : Id). one_if ((code == 3) && (same_object y.object o && is_pos y.number (x ∷ z ∷ [])))) e
    ∙ ap (λ t. one_if ((code == 3) && (same_object y.object b && t))) (first_pos y.number x z (Ref (suc p) ∷ []))

answers_unridden : (y : Slot) (b : Bool) (code : ℕ) (args : List Value) (cont : Option Cont) (ids : List Id)
    → answers_of y (named 0 0 (unridden (record { code = code; args = args; cont = cont; ids = ids }) (cond b (rider_in args) None)))
    ≡ answers_of y (named 0 0 (record { code = code; args = args; cont = cont; ids = ids }))
answers_unridden y false code args cont ids = refl
answers_unridden y true code (x ∷ z ∷ Ref (suc p) ∷ []) cont ids =
    answers_same y code x z p (id_at (remove ids (suc p)) 0) (id_at ids 0)
    (target_unridden (record { code = code; args = x ∷ z ∷ Ref (suc p) ∷ []; cont = cont; ids = ids }) (Some p))
answers_unridden y true code args cont ids = refl
