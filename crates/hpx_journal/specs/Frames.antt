-- What a parcel carries: actions and an object with bare ids, and credits.
use Rattle.std.specs.Prelude.{ℕ, Bool, List, [], ◌∷◌, Option, Some, None, map}
use Rattle.hpx_value.specs.Values.{bare_act, bare_state}
use Rattle.hpx_parcel.specs.Credits.{Credit, credits_of, ids_in}
use Rattle.hpx_parcel.specs.Reading.{parcel_of}
use Rattle.hpx_journal.specs.Data.{Id, State, Act, Parcel, Apply, Return, Ask, Give, Move, Go, Shipped, Arrived}
use Rattle.hpx_journal.specs.Entries.{Event, Out, In, Travel, target_of, move_to}
use Rattle.hpx_journal.specs.Tokens.{Token, held, owing}
use Rattle.hpx_journal.specs.declared.cargo.Cargo.{Cargo}

-- the actions in a parcel
abbrev pub acts_in : Option Parcel → List Act
acts_in (Some (Apply act)) = bare_act act ∷ []
acts_in (Some (Move act)) = bare_act act ∷ []
acts_in (Some (Go act)) = bare_act act ∷ []
acts_in (Some (Shipped act state)) = bare_act act ∷ []
acts_in _ = []

-- the target of an action on its way, if there is a place where it goes
abbrev pub travel_of : Act → State → Option ℕ → List Travel
travel_of act state None = []
travel_of act state (Some to) = record { object = target_of act; state = state; to = to } ∷ []

-- the object that a parcel ships, towards the place of its MOVE
abbrev pub travels_in : Option Parcel → List Travel
travels_in (Some (Shipped act state)) = travel_of (bare_act act) (bare_state state) (move_to (bare_act act))
travels_in _ = []

-- the credits in a parcel
abbrev pub credits_with : Parcel → List Credit
credits_with p = credits_of (ids_in p)

-- the tokens of a parcel, as they stand at either end: those of actions and objects are held, the others are owed
abbrev pub tokens_in : Option Parcel → List Token
tokens_in None = []
tokens_in (Some (Return id)) = map owing (credits_with (Return id))
tokens_in (Some (Ask id asker entry)) = map owing (credits_with (Ask id asker entry))
tokens_in (Some (Give id entry)) = map owing (credits_with (Give id entry))
tokens_in (Some (Arrived id place)) = map owing (credits_with (Arrived id place))
tokens_in (Some p) = map held (credits_with p)

-- the objects that an Ask or a Give is about
abbrev pub asks_in : Option Parcel → List Id
asks_in (Some (Ask id asker entry)) = id ∷ []
asks_in (Some (Give id entry)) = id ∷ []
asks_in _ = []

-- ---- in one record

-- a credit as a token, owed or held
abbrev pub credited : Bool → Credit → Token
credited owed c = record { object = c.object; log = c.log; owed = owed }

-- the parcel of the frame that an event sends or accepts
abbrev pub parcel_in : Event → Option Parcel
parcel_in (Out to bytes) = parcel_of bytes
parcel_in (In bytes) = parcel_of bytes
parcel_in _ = None

-- what a parcel carries
abbrev pub cargo_of : Option Parcel → Cargo
cargo_of p = record { acts = acts_in p; travels = travels_in p; tokens = tokens_in p; asks = asks_in p }
