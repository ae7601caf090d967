-- Plain objects over ids: the states that they are, and what is told as messages.
use Rattle.std.specs.Prelude.{ℕ, pos, true, false, List, [], ◌∷◌, ◌++◌, ◌+◌, ◌≤◌, ◌≡◌, ◌⊎◌, Option, Some, None, length, map}
use Rattle.hpx_value.specs.Ids.{Id, bare_id}
use Rattle.hpx_value.specs.declared.value.Value.{Value as Spelled}
use Rattle.hpx_value.specs.declared.value.Value.TheVariants.{Unit as SpelledUnit, Flag as SpelledFlag, Int as SpelledInt, Text as SpelledText, Ref as SpelledRef, Fault as SpelledFault, Ints as SpelledInts}
use Rattle.hpx_value.specs.declared.value.Cont.{Cont}
use Rattle.hpx_value.specs.declared.value.State.{State}
use Rattle.hpx_value.specs.declared.value.Act.{Act}
use Rattle.hpx_value.specs.declared.value.Message.{Message}
use Rattle.hpx_value.specs.declared.outcome.Make.{Make}
use Rattle.hpx_value.specs.declared.outcome.Due.{Due}
use Rattle.hpx_value.specs.declared.outcome.Due.TheVariants.{Message as MessageDue}
use Rattle.hpx_value.specs.Hands.{Slot, id_at, slot_at, conts_from, state_after, due_of}
use Rattle.hpx_calls.specs.Values.{Value, Nothing, Flag, Int, Text, Ref, Fault, Ints, plain, seen}
use Rattle.hpx_calls.specs.Requests.{request_of}
use Rattle.hpx_calls.specs.Contents.{Content, Table, Maker, Size, Number, Row, Promise, Dataflow, Channel, Latch, Barrier, layout, content_of, is_dataflow}
use Rattle.hpx_calls.specs.Effects.{Effect, Makes}
use Rattle.hpx_calls.specs.Outcomes.{has_cont, kind_of, outcome_of}
use Rattle.hpx_calls.specs.Histories.{Call, Object, Told, Answered, Begun, Setting, called_on, next, tells}

-- values over ids, with their Refs numbered from n on
abbrev pub numbered : ℕ → List (Value Id) → List Spelled
numbered n [] = []
numbered n (Nothing ∷ vs) = SpelledUnit ∷ numbered n vs
numbered n (Flag yes_or_no ∷ vs) = SpelledFlag yes_or_no ∷ numbered n vs
numbered n (Int number ∷ vs) = SpelledInt number ∷ numbered n vs
numbered n (Text bytes ∷ vs) = SpelledText bytes ∷ numbered n vs
numbered n (Ref id ∷ vs) = SpelledRef n ∷ numbered (n + 1) vs
numbered n (Fault code ∷ vs) = SpelledFault code ∷ numbered n vs
numbered n (Ints numbers ∷ vs) = SpelledInts numbers ∷ numbered n vs

-- the ids of their Refs, in order
abbrev pub ids_in : List (Value Id) → List Id
ids_in [] = []
ids_in (Nothing ∷ vs) = ids_in vs
ids_in (Flag yes_or_no ∷ vs) = ids_in vs
ids_in (Int number ∷ vs) = ids_in vs
ids_in (Text bytes ∷ vs) = ids_in vs
ids_in (Ref id ∷ vs) = id ∷ ids_in vs
ids_in (Fault code ∷ vs) = ids_in vs
ids_in (Ints numbers ∷ vs) = ids_in vs

-- the values that an object over ids keeps
abbrev pub values_of : Object (Value Id) Slot → List (Value Id)
values_of o = layout (plain Id) o.content

-- the state that an object is: its values, then the slots of those that wait
abbrev pub state_of : ℕ → Object (Value Id) Slot → State
state_of drawn o = record {
  drawn = drawn;
  values = numbered 0 (values_of o);
  conts = conts_from (length (ids_in (values_of o))) o.waiting;
  ids = ids_in (values_of o) ++ map (λ x. x.object) o.waiting;
}

-- an object whose values show its content, as an object of the kind, at n localities
abbrev pub IsReadable : ℕ → ℕ → Object (Value Id) Slot → Type 0
IsReadable n kind o = content_of (plain Id) n kind (length o.waiting) (values_of o) ≡ o.content

-- who waits for the answer to an action
abbrev pub waiter_of : List Id → Option Cont → Option Slot
waiter_of ids None = None
waiter_of ids (Some c) = Some (slot_at ids c)

-- the call that an action is
abbrev pub call_of : Act → Call (Value Id) Slot
call_of a = record { request = request_of (plain Id) a.code (has_cont a.cont) (map (seen (id_at a.ids)) a.args); waiter = waiter_of a.ids a.cont }

-- the message that tells an answer is a SET, and that which starts an action goes to the plain object of the place
abbrev pub message_for : ℕ → Told (Value Id) Slot → Message
message_for here (Answered w v) = record { code = 3; args = numbered 1 (Int (pos w.number) ∷ v ∷ []); cont = None; ids = w.object ∷ ids_in (v ∷ []) }
message_for here (Begun w code args) = record {
  code = code;
  args = numbered 1 args;
  cont = Some (record { place = length (ids_in args) + 1; slot = w.number });
  ids = bare_id here 7 1 ∷ (ids_in args ++ w.object ∷ []);
}

-- what is due where this is told
abbrev pub due_for : ℕ → List (Told (Value Id) Slot) → List Due
due_for here ts = map (λ t. MessageDue (message_for here t)) ts

-- the object that is made by an effect, if one is
abbrev pub makes_for : Effect (Value Id) → List Make
makes_for (Makes x) = record { kind = kind_of x; values = numbered 0 (layout (plain Id) x) } ∷ []
makes_for _ = []

-- objects of a kind at a place, where these ids are those of what is made
abbrev pub setting_of : ℕ → ℕ → List Id → Setting (Value Id)
setting_of kind here made = record { sort = plain Id; here = here; kind = kind; made = Ref (id_at made 0) }

-- the object over ids that a state shows, of a kind, at n localities
abbrev pub object_in : ℕ → ℕ → State → Object (Value Id) Slot
object_in n kind s = record {
  content = content_of (plain Id) n kind (length s.conts) (map (seen (id_at s.ids)) s.values);
  waiting = map (slot_at s.ids) s.conts;
}

-- an action on an object is a call: the state that its outcome leaves is the object after the call and shows it, what is due
-- is what is told, and what is made is what the effect makes
pub record IsCalled (n kind here drawn : ℕ) (o : Object (Value Id) Slot) (a : Act) (made : List Id) : Type 0 where
  pub state : state_after (state_of drawn o) a made (outcome_of n kind here (state_of drawn o) a) ≡ state_of drawn (next (setting_of kind here made) o (call_of a))
  pub due : due_of (state_of drawn o) a made (outcome_of n kind here (state_of drawn o) a)
      ≡ due_for here (tells (setting_of kind here made) (called_on (setting_of kind here made) o (call_of a)).effect o.waiting (call_of a).waiter)
  pub makes : (outcome_of n kind here (state_of drawn o) a).makes ≡ makes_for (called_on (setting_of kind here made) o (call_of a)).effect
  pub shown : IsReadable n kind (next (setting_of kind here made) o (call_of a))

-- what an object of a kind holds at its birth, at n localities
abbrev pub IsBirth : ℕ → ℕ → Content (Value Id) → Type 0
IsBirth n kind (Table pairs) = ((kind ≡ 2) ⊎ (kind ≡ 5)) × (pairs ≡ [])
IsBirth n kind Maker = kind ≡ 3
IsBirth n kind (Size m) = (kind ≡ 4) × (m ≡ n)
IsBirth n kind (Number z) = kind ≡ 16
IsBirth n kind (Row numbers) = (kind ≡ 17) × (1 ≤ length numbers) × (length numbers ≤ 1024)
IsBirth n kind (Promise value) = (kind ≡ 32) × (value ≡ None)
IsBirth n kind (Dataflow code inputs given) = (kind ≡ 33) × (is_dataflow code inputs ≡ true) × (code ≤ 65535) × (inputs ≤ 16) × (given ≡ [])
IsBirth n kind (Channel closed kept) = (kind ≡ 34) × (closed ≡ false) × (kept ≡ [])
IsBirth n kind (Latch left) = (kind ≡ 35) × (left ≤ 1000000)
IsBirth n kind (Barrier m) = (kind ≡ 36) × (1 ≤ m) × (m ≤ 100)
IsBirth n kind _ = ⊥

-- an action that an object was called with, and the ids of what it made
pub record Turn : Type 0 where
  pub act : Act
  pub made : List Id

-- the state after actions, of which the latest stands first, each with its own outcome
abbrev pub lived : ℕ → ℕ → ℕ → State → List Turn → State
lived n kind here s [] = s
lived n kind here s (t ∷ ts) = state_after (lived n kind here s ts) t.act t.made (outcome_of n kind here (lived n kind here s ts) t.act)

-- what the outcome of one more action leaves due
abbrev pub due_then : ℕ → ℕ → ℕ → State → List Turn → Turn → List Due
due_then n kind here s ts t = due_of (lived n kind here s ts) t.act t.made (outcome_of n kind here (lived n kind here s ts) t.act)

-- the calls that actions are
abbrev pub calls_of : List Turn → List (Call (Value Id) Slot)
calls_of [] = []
calls_of (t ∷ ts) = call_of t.act ∷ calls_of ts
