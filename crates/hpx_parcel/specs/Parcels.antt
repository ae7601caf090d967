-- Which parcels there are, and what bytes spell.
use Rattle.std.specs.Prelude.{ℕ, pos, List, [], ◌∷◌, ◌≡◌, ◌≢◌, ◌<◌, ◌≤◌, ◌^◌, Option, Some, None, MatchOption, FitsSigned}
use Rattle.std.specs.Int.{w64}
use Rattle.std.specs.List.{AllByRecursion}
use Rattle.hpx_value.specs.Ids.{IsId}
use Rattle.hpx_value.specs.Shapes.{IsAct, IsState}
use Rattle.hpx_parcel.specs.Types.{Id, Value, Nothing, Flag, Int, Text, Ref, Fault, Ints, Cont, State, Act, Parcel, Apply, Return, Ask, Give, Cached, Move, Go, Object, Landed, Free}
use Rattle.hpx_parcel.specs.Spelling.{text_of}

-- an id has a credit exactly where its kind is 16 or more
abbrev pub HasRightCredit : Id → Type 0
HasRightCredit id = MatchOption id.log (id.kind < 16) (λ log. 16 ≤ id.kind)

-- an id with a credit, whose kind is 16 or more
abbrev pub HasCredit : Id → Type 0
HasCredit id = MatchOption id.log ⊥ (λ log. 16 ≤ id.kind)

-- an id with the least credit
abbrev pub HasLeastCredit : Id → Type 0
HasLeastCredit id = (id.log ≡ Some 0) × (16 ≤ id.kind)

-- an id without credit, of an object that has some elsewhere
abbrev pub IsBare : Id → Type 0
IsBare id = (id.log ≡ None) × (16 ≤ id.kind)

-- an action of a frame
pub record IsSent (a : Act) : Type 0 where
  pub shape : IsAct a
  pub credit : AllByRecursion HasRightCredit a.ids

-- an action that is applied, which is no MOVE
pub record IsApplied (a : Act) : Type 0 where
  pub sent : IsSent a
  pub code : a.code ≢ 1

-- the target is of a movable kind
abbrev pub IsMovable : List Id → Type 0
IsMovable [] = ⊥
IsMovable (target ∷ ids) = (16 ≤ target.kind) × (target.kind ≤ 31)

-- one number, that of a locality
abbrev pub IsPlace : List Value → Type 0
IsPlace args = (t : ℕ) × (t ≤ 63) × (args ≡ Int (pos t) ∷ [])

-- a MOVE, which moves its target
pub record IsMove (a : Act) : Type 0 where
  pub sent : IsSent a
  pub code : a.code ≡ 1
  pub target : IsMovable a.ids
  pub args : IsPlace a.args

-- a state of a frame
pub record IsCarried (s : State) : Type 0 where
  pub shape : IsState s
  pub credit : AllByRecursion HasRightCredit s.ids

-- the parcels that are well formed
abbrev pub IsParcel : Parcel → Type 0
IsParcel (Apply a) = IsApplied a
IsParcel (Return id) = HasCredit id
IsParcel (Ask id asker entry) = HasLeastCredit id
IsParcel (Give id entry) = HasCredit id
IsParcel (Cached id place) = IsBare id
IsParcel (Move a) = IsMove a
IsParcel (Go a) = IsMove a
IsParcel (Object a s) = IsMove a × IsCarried s
IsParcel (Landed id place) = HasCredit id
IsParcel (Free id) = IsBare id

-- numbers are within their types
abbrev pub FitsValue : Value → Type 0
FitsValue Nothing = Unit {0}
FitsValue (Flag yes_or_no) = Unit {0}
FitsValue (Int number) = FitsSigned w64 number
FitsValue (Text bytes) = AllByRecursion (λ b. b < 256) bytes
FitsValue (Ref place) = Unit {0}
FitsValue (Fault code) = Unit {0}
FitsValue (Ints numbers) = AllByRecursion (FitsSigned w64) numbers

-- a slot is within its type
abbrev pub FitsSlot : Cont → Type 0
FitsSlot c = c.slot < 2 ^ 32

-- the same of a continuation
abbrev pub FitsCont : Option Cont → Type 0
FitsCont None = Unit {0}
FitsCont (Some c) = FitsSlot c

-- an action has numbers within their types
pub record FitsAct (a : Act) : Type 0 where
  pub origin : a.origin < 2 ^ 16
  pub serial : a.serial < 2 ^ 64
  pub code : a.code < 2 ^ 16
  pub args : AllByRecursion FitsValue a.args
  pub cont : FitsCont a.cont
  pub ids : AllByRecursion IsId a.ids

-- a state has numbers within their types
pub record FitsState (s : State) : Type 0 where
  pub drawn : s.drawn < 2 ^ 32
  pub values : AllByRecursion FitsValue s.values
  pub conts : AllByRecursion FitsSlot s.conts
  pub ids : AllByRecursion IsId s.ids

-- a parcel has numbers within their types
abbrev pub FitsParcel : Parcel → Type 0
FitsParcel (Apply a) = FitsAct a
FitsParcel (Return id) = IsId id
FitsParcel (Ask id asker entry) = IsId id × (asker < 2 ^ 16) × (entry < 2 ^ 64)
FitsParcel (Give id entry) = IsId id × (entry < 2 ^ 64)
FitsParcel (Cached id place) = IsId id × (place < 2 ^ 16)
FitsParcel (Move a) = FitsAct a
FitsParcel (Go a) = FitsAct a
FitsParcel (Object a s) = FitsAct a × FitsState s
FitsParcel (Landed id place) = IsId id × (place < 2 ^ 16)
FitsParcel (Free id) = IsId id

-- the bytes are the spelling of the parcel
pub record Spells (bytes : List ℕ) (p : Parcel) : Type 0 where
  pub parcel : IsParcel p
  pub fits : FitsParcel p
  pub text : bytes ≡ text_of p

-- the bytes are those of a parcel
abbrev pub IsFrame : List ℕ → Type 0
IsFrame bytes = (p : Parcel) × Spells bytes p
