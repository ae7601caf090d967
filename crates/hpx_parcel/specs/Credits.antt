-- The credits of a frame.
use Rattle.std.specs.Prelude.{ℕ, List, [], ◌∷◌, ◌++◌, ◌≡◌, Option, Some, None}
use Rattle.hpx_value.specs.Ids.{bare}
use Rattle.hpx_parcel.specs.Types.{Id, Parcel, Apply, Return, Ask, Give, Cached, Move, Go, Object, Landed, Free}
use Rattle.hpx_parcel.specs.Spelling.{id_text}
use Rattle.hpx_parcel.specs.Reading.{parcel_of}

-- a credit of 2^log of an object, which its bare id names
pub record Credit : Type 0 where
  pub object : Id
  pub log : ℕ

-- the credit of an id, if it has one
abbrev pub credit_list : Id → Option ℕ → List Credit
credit_list id None = []
credit_list id (Some log) = record { object = bare id; log = log } ∷ []

-- the credits of ids, in order
abbrev pub credits_of : List Id → List Credit
credits_of [] = []
credits_of (id ∷ ids) = credit_list id id.log ++ credits_of ids

-- the ids of a parcel, in the order in which they stand
abbrev pub ids_in : Parcel → List Id
ids_in (Apply a) = a.ids
ids_in (Return id) = id ∷ []
ids_in (Ask id asker entry) = id ∷ []
ids_in (Give id entry) = id ∷ []
ids_in (Cached id place) = id ∷ []
ids_in (Move a) = a.ids
ids_in (Go a) = a.ids
ids_in (Object a s) = a.ids ++ s.ids
ids_in (Landed id place) = id ∷ []
ids_in (Free id) = id ∷ []

-- the credits of a parcel, if there is one
abbrev pub parcel_credits : Option Parcel → List Credit
parcel_credits None = []
parcel_credits (Some p) = credits_of (ids_in p)

-- the credits in bytes: none where they spell no parcel
abbrev pub credits_in : List ℕ → List Credit
credits_in bytes = parcel_credits (parcel_of bytes)

-- the texts of ids stand in bytes, one behind the other
abbrev pub StandIn : List Id → List ℕ → Type 0
StandIn [] bytes = Unit {0}
StandIn (id ∷ ids) bytes = (before : List ℕ) × (after : List ℕ) × (bytes ≡ before ++ (id_text id ++ after)) × StandIn ids after
