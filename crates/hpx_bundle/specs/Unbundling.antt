-- Reading the parts of a frame from the left, with the first fault that is met.
use Rattle.std.specs.Prelude.{◌≡◌, ℕ, zero, suc, Bool, true, false, List, [], ◌∷◌, length, take, drop, Result, Ok, Err, ◌≤◌, ◌+◌, ◌-◌, ◌==◌, ◌&&◌, nat_lt, nat_le, if◌then◌else◌}
use Rattle.byteorder.specs.Endian.{big_number}
use Rattle.hpx_parcel.specs.declared.parcel.Parcel.{Parcel}
use Rattle.hpx_parcel.specs.declared.parcel.FaultAt.{FaultAt}
use Rattle.hpx_parcel.specs.declared.parcel.Why.{Why}
use Rattle.hpx_parcel.specs.declared.parcel.Why.TheVariants.{Long, Cut, BadValue, Trailing}
use Rattle.hpx_parcel.specs.Reading.{reading, are_bytes}
use Rattle.hpx_bundle.specs.declared.unbundle.Place.{Place}
use Rattle.hpx_bundle.specs.Bundles.{behind, Bundles}

-- what comes next, if nothing is wrong so far
infixl 10 ◌>>=◌
abbrev pub ◌>>=◌ : {A B : Type 0} → Result A FaultAt → (A → Result B FaultAt) → Result B FaultAt
(Ok x) >>= f = f x
(Err f) >>= g = Err f

-- a fault in bytes that stand behind so many others
abbrev pub shifted : {A : Type 0} → ℕ → Result A FaultAt → Result A FaultAt
shifted n (Ok x) = Ok x
shifted n (Err f) = Err (record { at = n + f.at; why = f.why })

-- ---- one frame of one parcel in front of other bytes

-- a fault of bytes behind the last field
abbrev pub trails : Why → Bool
trails Trailing = true
trails why = false

-- the frame in front, and the bytes behind it, by what reading all of them gives
abbrev pub front_by : List ℕ → Result Parcel FaultAt → Result (List ℕ × List ℕ) FaultAt
front_by bytes (Ok p) = Ok (bytes, [])
front_by bytes (Err f) = if trails f.why then Ok (take f.at bytes, drop f.at bytes) else Err f

-- the frame that bytes begin with, and the bytes behind it
unfoldable pub front_at : List ℕ → Result (List ℕ × List ℕ) FaultAt
front_at bytes = front_by bytes (reading bytes)

-- ---- several

-- so many parcels, each with a version of its own; the first begins behind so many bytes
unfoldable pub parts_at : ℕ → ℕ → List ℕ → Result (List (List ℕ) × List ℕ) FaultAt
parts_at zero start bytes = Ok ([], bytes)
parts_at (suc n) start bytes = do
  first ← shifted (start - 1) (front_at (1 ∷ bytes))
  others ← parts_at n (start - 1 + length first.0) first.1
  Ok (first.0 ∷ others.0, others.1)

-- from 2 to 64 parts
abbrev pub is_count : ℕ → Bool
is_count n = nat_le 2 n && nat_le n 64

-- how many parts there are, behind the version
unfoldable pub count_at : List ℕ → Result (ℕ × List ℕ) FaultAt
count_at bytes =
    if nat_lt (length bytes) 2 then Err (record { at = 1 + length bytes; why = Cut })
    else (if is_count (big_number 2 bytes) then Ok (big_number 2 bytes, drop 2 bytes) else Err (record { at = 1; why = BadValue }))

-- no bytes are left, of so many in all
abbrev pub ended : ℕ → List (List ℕ) × List ℕ → Result (List (List ℕ)) FaultAt
ended total x = if length x.1 == 0 then Ok x.0 else Err (record { at = total - length x.1; why = Trailing })

-- several parcels, behind the version
unfoldable pub several_at : List ℕ → Result (List (List ℕ)) FaultAt
several_at bytes = do
  count ← count_at bytes
  parts ← parts_at count.0 3 count.1
  ended (1 + length bytes) parts

-- ---- a frame

-- the version is that of several parcels
abbrev pub is_several : List ℕ → Bool
is_several [] = false
is_several (version ∷ bytes) = version == 2

-- the parts, or the first fault from the left; a frame of another version is read as one of one parcel
unfoldable pub unbundling : List ℕ → Result (List (List ℕ)) FaultAt
unbundling bytes =
    if nat_lt 65536 (length bytes) then Err (record { at = 65536; why = Long })
    else (if is_several bytes then several_at (behind bytes) else (reading bytes >>= λ p. Ok (bytes ∷ [])))

-- the parts that were read, if nothing was wrong
abbrev pub parts_in : Result (List (List ℕ)) FaultAt → List (List ℕ)
parts_in (Ok parts) = parts
parts_in (Err f) = []

-- the parts that bytes bundle: none where they are no bundle
unfoldable pub parts_of : List ℕ → List (List ℕ)
parts_of bytes = if are_bytes bytes then parts_in (unbundling bytes) else []

-- the first fault of bytes that bundle nothing
pub record BundlesNothing (bytes : List ℕ) (f : FaultAt) : Type 0 where
  pub first : unbundling bytes ≡ Err f
  pub none : (parts : List (List ℕ)) → Bundles bytes parts → ⊥
  pub unread : parts_of bytes ≡ []

-- ---- parts by their places

-- a part of a frame, with a version of its own
abbrev pub part_text : List ℕ → Place → List ℕ
part_text bytes place = 1 ∷ take (place.end - place.start) (drop place.start bytes)

-- a place in bytes
pub record IsWithin (bytes : List ℕ) (place : Place) : Type 0 where
  pub order : place.start ≤ place.end
  pub inside : place.end ≤ length bytes

-- a part, from a place to its end, and what is behind it, is the next that is read
pub record EndsAt (bytes : List ℕ) (start end : ℕ) : Type 0 where
  pub within : IsWithin bytes (record { start = start; end = end })
  pub read : shifted (start - 1) (front_at (1 ∷ drop start bytes)) ≡ Ok (part_text bytes (record { start = start; end = end }), drop end bytes)
