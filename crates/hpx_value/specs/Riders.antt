-- Riders: the credit that an action had for its target goes back with the answer to the action.
use Rattle.std.specs.Prelude.{ℕ, suc, pos, Bool, cond, not, is_some, nat_le, List, [], ◌∷◌, ◌++◌, ◌-◌, ◌==◌, ◌&&◌, Option, Some, None, length, map, take, flat_map}
use Rattle.std.specs.List.{list_any, remove}
use Rattle.hpx_value.specs.Ids.{Id}
use Rattle.hpx_value.specs.Values.{Value, Int, Ref, Cont, State, Act, Message, message_of, named}
use Rattle.hpx_value.specs.Hands.{Slot, Reply, Outcome, Due, MessageDue, PrintDue, id_at, hand_ids, hand_slot, addressed, sent}
use Rattle.hpx_value.specs.Mentions.{mentions, state_mentions, send_mentions, reply_mentions}

-- ---- actions without their riders

-- the place of a rider behind the target's: three arguments, of which the third is a Ref
abbrev pub rider_in : List Value → Option ℕ
rider_in (x ∷ y ∷ Ref (suc p) ∷ []) = Some p
rider_in _ = None

-- a SET, code 3, may have one
abbrev pub rider_place : Message → Option ℕ
rider_place m = cond (m.code == 3) (rider_in m.args) None

-- the continuation behind the rider, whose target stands one place earlier without it
abbrev pub less_one : Option Cont → Option Cont
less_one None = None
less_one (Some c) = Some (record { place = c.place - 1; slot = c.slot })

-- the message without the argument and the id of its rider
abbrev pub unridden : Message → Option ℕ → Message
unridden m None = m
unridden m (Some p) = record { code = m.code; args = take 2 m.args; cont = less_one m.cont; ids = remove m.ids (suc p) }

-- a message as its target sees it
abbrev pub plain_message : Message → Message
plain_message m = unridden m (rider_place m)

-- an action as its target sees it
abbrev pub plain : Act → Act
plain a = named a.origin a.serial (plain_message (message_of a))

-- the id of the rider, if there is one
abbrev pub rider_at : List Id → Option ℕ → List Id
rider_at ids None = []
rider_at ids (Some p) = id_at ids (suc p) ∷ []

-- the id of an action's rider, if there is one
abbrev pub rider_of : Act → List Id
rider_of a = rider_at a.ids (rider_place (message_of a))

-- ---- answers that carry one

-- an outcome names the place of the target
abbrev pub names_target : State → Act → Outcome → Bool
names_target s a out = list_any (λ p. p == length s.ids) (mentions s a out)

-- an answer to the action's own continuation may ride, as `named` says whether the target's place is named: the action is no
-- MOVE, its target is managed, and its place is not named
abbrev pub may_ride : Act → Bool → Bool
may_ride a named = is_some a.cont && ((not (a.code == 1) && nat_le 16 (id_at a.ids 0).kind) && not named)

-- a reply rides where one may and it answers the action's own continuation, the last of the hand
abbrev pub rides_with : State → Bool → Reply → Bool
rides_with s may x = may && (x.cont == length s.conts)

-- a reply of an outcome rides
abbrev pub rides : State → Act → Outcome → Reply → Bool
rides s a out x = rides_with s (may_ride a (names_target s a out)) x

-- the argument that it has then: the target, by its place in the hand
abbrev pub riders : Bool → ℕ → List Value
riders b place = cond b (Ref place ∷ []) []

-- the answer with further arguments
abbrev pub answer_with : List Id → Slot → Value → List Value → Message
answer_with hand x v more = addressed hand x.object 3 (Int (pos x.number) ∷ v ∷ more) None

-- the message that a reply leaves due, where it rides or not
abbrev pub rode_with : State → Act → List Id → Bool → Reply → Message
rode_with s a made b x = answer_with (hand_ids s a made) (hand_slot s a x.cont) x.value (riders b (length s.ids))

-- the message that a reply of an outcome leaves due
abbrev pub rode : State → Act → List Id → Outcome → Reply → Message
rode s a made out x = rode_with s a made (rides s a out x) x

-- what an outcome leaves due, in order: sends, replies with their riders, prints
abbrev pub due_with : State → Act → List Id → Outcome → List Due
due_with s a made out =
    map (λ x. MessageDue (sent s a made x)) out.sends
    ++ (map (λ x. MessageDue (rode s a made out x)) out.replies ++ map PrintDue out.prints)

-- ---- what is named with riders

-- the place that a rider names: the target's
abbrev pub rider_places : Bool → ℕ → List ℕ
rider_places b place = cond b (place ∷ []) []

-- what a reply names: where its continuation leads, the Ref that is its value, and its rider
abbrev pub rode_mentions : State → Act → Outcome → Reply → List ℕ
rode_mentions s a out x = reply_mentions s a x ++ rider_places (rides s a out x) (length s.ids)

-- what an outcome names with its riders: the new state's, then each send's in order, then each reply's in order
abbrev pub mentions_with : State → Act → Outcome → List ℕ
mentions_with s a out =
    state_mentions s a out.state ++ (flat_map (send_mentions s a) out.sends ++ flat_map (rode_mentions s a out) out.replies)
