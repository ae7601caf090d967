-- Values, states and actions: the types of the code, and what is read off them.
use Rattle.std.specs.Prelude.{ℕ, List, [], ◌∷◌, map}
use Rattle.hpx_value.specs.Ids.{bare}
pub use Rattle.hpx_value.specs.declared.value.Value.{Value}
pub use Rattle.hpx_value.specs.declared.value.Value.TheVariants.{Unit as Nothing, Flag, Int, Text, Ref, Fault, Ints}
pub use Rattle.hpx_value.specs.declared.value.Cont.{Cont}
pub use Rattle.hpx_value.specs.declared.value.State.{State}
pub use Rattle.hpx_value.specs.declared.value.Act.{Act}
pub use Rattle.hpx_value.specs.declared.value.Message.{Message}

-- the places that the Refs of values point at, in the order of standing
abbrev pub refs_in : List Value → List ℕ
refs_in [] = []
refs_in (Ref place ∷ values) = place ∷ refs_in values
refs_in (Nothing ∷ values) = refs_in values
refs_in (Flag yes_or_no ∷ values) = refs_in values
refs_in (Int number ∷ values) = refs_in values
refs_in (Text bytes ∷ values) = refs_in values
refs_in (Fault code ∷ values) = refs_in values
refs_in (Ints numbers ∷ values) = refs_in values

-- the action without its name
abbrev pub message_of : Act → Message
message_of a = record { code = a.code; args = a.args; cont = a.cont; ids = a.ids }

-- a message under a name
abbrev pub named : ℕ → ℕ → Message → Act
named origin serial m = record { origin = origin; serial = serial; code = m.code; args = m.args; cont = m.cont; ids = m.ids }

-- a state with ids that show no credit
abbrev pub bare_state : State → State
bare_state s = record { drawn = s.drawn; values = s.values; conts = s.conts; ids = map bare s.ids }

-- a message with ids that show no credit
abbrev pub bare_message : Message → Message
bare_message m = record { code = m.code; args = m.args; cont = m.cont; ids = map bare m.ids }

-- an action with ids that show no credit
abbrev pub bare_act : Act → Act
bare_act a = record { origin = a.origin; serial = a.serial; code = a.code; args = a.args; cont = a.cont; ids = map bare a.ids }

-- a state with nothing in it
abbrev pub empty_state : State
empty_state = record { drawn = 0; values = []; conts = []; ids = [] }
