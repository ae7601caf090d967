-- The hand of an action, and what an outcome says of it: the new state, and what is due.
use Rattle.std.specs.Prelude.{ℕ, pos, List, [], ◌∷◌, ◌++◌, ◌+◌, length, map, Option, Some, None}
use Rattle.std.specs.List.{slice_index_or}
use Rattle.hpx_value.specs.Ids.{Id, bare_id}
use Rattle.hpx_value.specs.Values.{Value, Nothing, Flag, Int, Text, Ref, Fault, Ints, Cont, State, Act, Message, refs_in}
pub use Rattle.hpx_value.specs.declared.outcome.Target.{Target}
pub use Rattle.hpx_value.specs.declared.outcome.Target.TheVariants.{Place, Root}
pub use Rattle.hpx_value.specs.declared.outcome.SendCont.{SendCont}
pub use Rattle.hpx_value.specs.declared.outcome.SendCont.TheVariants.{Nothing as NoCont, Own, Made, Here}
pub use Rattle.hpx_value.specs.declared.outcome.NewState.{NewState}
pub use Rattle.hpx_value.specs.declared.outcome.Make.{Make}
pub use Rattle.hpx_value.specs.declared.outcome.Sending.{Sending}
pub use Rattle.hpx_value.specs.declared.outcome.Reply.{Reply}
pub use Rattle.hpx_value.specs.declared.outcome.Outcome.{Outcome}
pub use Rattle.hpx_value.specs.declared.outcome.Due.{Due}
pub use Rattle.hpx_value.specs.declared.outcome.Due.TheVariants.{Message as MessageDue, Print as PrintDue}

-- an object's slot, where an answer goes
pub record Slot : Type 0 where
  pub object : Id
  pub number : ℕ

-- the id of the session: the root of kind 1 at locality 0
abbrev pub session : Id
session = bare_id 0 1 1

-- the id at a place, which is one of the list wherever it is used
abbrev pub id_at : List Id → ℕ → Id
id_at ids place = slice_index_or ids place session

-- where a continuation among these ids leads
abbrev pub slot_at : List Id → Cont → Slot
slot_at ids c = record { object = id_at ids c.place; number = c.slot }

-- where the continuation of an action leads, if it has one
abbrev pub own_slot : List Id → Option Cont → List Slot
own_slot ids None = []
own_slot ids (Some c) = slot_at ids c ∷ []

-- the ids of the hand: the state's, the action's, and those of the objects that are made
abbrev pub hand_ids : State → Act → List Id → List Id
hand_ids s a made = s.ids ++ (a.ids ++ made)

-- the continuations of the hand: those kept in order, and then the action's own
abbrev pub hand_slots : State → Act → List Slot
hand_slots s a = map (slot_at s.ids) s.conts ++ own_slot a.ids a.cont

-- the continuation of the hand under a number
abbrev pub hand_slot : State → Act → ℕ → Slot
hand_slot s a number = slice_index_or (hand_slots s a) number (record { object = session; number = 0 })

-- the values with their Refs numbered from n on
abbrev pub renumbered : ℕ → List Value → List Value
renumbered n [] = []
renumbered n (Ref place ∷ values) = Ref n ∷ renumbered (n + 1) values
renumbered n (Nothing ∷ values) = Nothing ∷ renumbered n values
renumbered n (Flag yes_or_no ∷ values) = Flag yes_or_no ∷ renumbered n values
renumbered n (Int number ∷ values) = Int number ∷ renumbered n values
renumbered n (Text bytes ∷ values) = Text bytes ∷ renumbered n values
renumbered n (Fault code ∷ values) = Fault code ∷ renumbered n values
renumbered n (Ints numbers ∷ values) = Ints numbers ∷ renumbered n values

-- the continuation whose target stands at a place
abbrev pub cont_at : ℕ → Option Slot → Option Cont
cont_at place None = None
cont_at place (Some x) = Some (record { place = place; slot = x.number })

-- the object of a slot, if there is one, as the last id of a message
abbrev pub slot_ids : Option Slot → List Id
slot_ids None = []
slot_ids (Some x) = x.object ∷ []

-- a message whose Refs point into the hand, made one that stands alone
abbrev pub addressed : List Id → Id → ℕ → List Value → Option Slot → Message
addressed hand target code args cont = record {
  code = code;
  args = renumbered 1 args;
  cont = cont_at (length (refs_in args) + 1) cont;
  ids = target ∷ (map (id_at hand) (refs_in args) ++ slot_ids cont);
}

-- the id that a target stands for; a root has number 1
abbrev pub target_id : List Id → Target → Id
target_id hand (Place place) = id_at hand place
target_id hand (Root kind at) = bare_id at kind 1

-- where the answer to a send goes
abbrev pub send_slot : State → Act → List Id → SendCont → Option Slot
send_slot s a made NoCont = None
send_slot s a made (Own number) = Some (hand_slot s a number)
send_slot s a made (Made make slot) =
    Some (record { object = id_at (hand_ids s a made) (length s.ids + length a.ids + make); number = slot })
send_slot s a made (Here slot) = Some (record { object = session; number = slot })

-- the message that a send leaves due
abbrev pub sent : State → Act → List Id → Sending → Message
sent s a made x =
    let hand = hand_ids s a made in addressed hand (target_id hand x.target) x.code x.args (send_slot s a made x.cont)

-- an answer is an action of code 3, SET, with the slot and the value
abbrev pub answer : List Id → Slot → Value → Message
answer hand x v = addressed hand x.object 3 (Int (pos x.number) ∷ v ∷ []) None

-- the message that a reply leaves due
abbrev pub replied : State → Act → List Id → Reply → Message
replied s a made x = answer (hand_ids s a made) (hand_slot s a x.cont) x.value

-- what an outcome leaves due, in order: sends, replies, prints
abbrev pub due_of : State → Act → List Id → Outcome → List Due
due_of s a made out =
    map (λ x. MessageDue (sent s a made x)) out.sends
    ++ (map (λ x. MessageDue (replied s a made x)) out.replies ++ map PrintDue out.prints)

-- kept continuations, whose targets stand from a place on
abbrev pub conts_from : ℕ → List Slot → List Cont
conts_from place [] = []
conts_from place (x ∷ xs) = record { place = place; slot = x.number } ∷ conts_from (place + 1) xs

-- the continuations that the new state keeps, in order
abbrev pub slots_kept : State → Act → NewState → List Slot
slots_kept s a new = map (hand_slot s a) new.conts

-- the state that an outcome leaves
abbrev pub state_after : State → Act → List Id → Outcome → State
state_after s a made out = record {
  drawn = out.state.drawn;
  values = renumbered 0 out.state.values;
  conts = conts_from (length (refs_in out.state.values)) (slots_kept s a out.state);
  ids = map (id_at (hand_ids s a made)) (refs_in out.state.values)
      ++ map (λ x. x.object) (slots_kept s a out.state);
}
