-- Frames on the road between localities, as their parts.
use Rattle.std.specs.Prelude.{◌≡◌, ◌∷◌, ◌<◌, ℕ, List, [], Option, Some, None, map, drop, length}
use Rattle.std.specs.List.{AllByRecursion, flat_map}
use Rattle.hpx_parcel.specs.declared.parcel.FaultAt.{FaultAt}
use Rattle.hpx_parcel.specs.declared.parcel.DecodeFault.{DecodeFault}
use Rattle.hpx_parcel.specs.declared.parcel.DecodeFault.TheVariants as faults
use Rattle.hpx_bundle.specs.declared.unbundle.Place.{Place}
use Rattle.hpx_bundle.specs.Unbundling.{BundlesNothing, parts_of, part_text, IsWithin}

-- where a frame goes, and its bytes
abbrev pub Frame : Type 0
Frame = ℕ × List ℕ

-- its parts, which go where it goes
abbrev pub opened : Frame → List Frame
opened frame = map (λ part. (frame.0, part)) (parts_of frame.1)

-- the parts of frames, in order
abbrev pub all_opened : List Frame → List Frame
all_opened frames = flat_map opened frames

-- a frame in hand, whole as it was delivered, and how many of its parts were accepted
pub record Held : Type 0 where
  pub frame : Frame
  pub accepted : ℕ

-- the parts in hand that are not accepted yet
abbrev pub parts_left : Option Held → List Frame
parts_left None = []
parts_left (Some held) = drop held.accepted (opened held.frame)

-- the places of the parts of a frame, of which so many were accepted and one at least was not
pub record IsOpen (bytes : List ℕ) (places : List Place) (accepted : ℕ) : Type 0 where
  pub parts : parts_of bytes ≡ map (part_text bytes) places
  pub inside : AllByRecursion (IsWithin bytes) places
  pub left : accepted < length places

-- what is known of a frame in hand: the places of its parts, or that it bundles nothing
abbrev pub IsOpened : List ℕ → List Place → Option FaultAt → ℕ → Type 0
IsOpened bytes places None accepted = IsOpen bytes places accepted
IsOpened bytes places (Some f) accepted = BundlesNothing bytes f × (accepted ≡ 0) × (places ≡ [])

-- why there is no next part; memory is an excuse only where there is one
abbrev pub NoNext : Held → DecodeFault → Type 0
NoNext held faults.OutOfMemory = (part : Frame) × (others : List Frame) × (parts_left (Some held) ≡ part ∷ others)
NoNext held (faults.BadFrame at why) = BundlesNothing held.frame.1 (record { at = at; why = why })
