-- Frames of several parcels to one locality.
use Rattle.std.specs.Prelude.{◌≡◌, ℕ, List, [], ◌∷◌, ◌++◌, length, ◌≤◌, ◌<◌, ◌+◌, ◌-◌, nat_le, if◌then◌else◌, sum_by}
use Rattle.std.specs.List.{AllByRecursion, flat_map}
use Rattle.hpx_parcel.specs.Spelling.{number_text}
use Rattle.hpx_parcel.specs.Parcels.{IsFrame}
use Rattle.hpx_bundle.specs.declared.bundle.Load.{Load}
use Rattle.hpx_bundle.specs.declared.bundle.BundleFault.{BundleFault}
use Rattle.hpx_bundle.specs.declared.bundle.BundleFault.TheVariants as faults

-- a frame without its version
abbrev pub behind : List ℕ → List ℕ
behind [] = []
behind (version ∷ bytes) = bytes

-- one frame is its own bundle; of several, version 2, their number, and each without its version
abbrev pub bundle_text : List (List ℕ) → List ℕ
bundle_text (part ∷ []) = part
bundle_text parts = 2 ∷ (number_text 2 (length parts) ++ flat_map behind parts)

-- from 1 to 64 parts, whose bundle has at most 65,536 bytes
pub record Fits (parts : List (List ℕ)) : Type 0 where
  pub some : 1 ≤ length parts
  pub few : length parts ≤ 64
  pub short : length (bundle_text parts) ≤ 65536

-- the bytes are the bundle of the parts, each of them a frame of one parcel
pub record Bundles (bytes : List ℕ) (parts : List (List ℕ)) : Type 0 where
  pub each : AllByRecursion IsFrame parts
  pub fits : Fits parts
  pub text : bytes ≡ bundle_text parts

-- why parts were not bundled; memory is an excuse only where they fit
abbrev pub Excuses : BundleFault → List (List ℕ) → Type 0
Excuses faults.Empty parts = parts ≡ []
Excuses faults.Many parts = 64 < length parts
Excuses faults.Long parts = 65536 < length (bundle_text parts)
Excuses faults.OutOfMemory parts = Fits parts

-- ---- the longest front that fits

-- what parts come to
abbrev pub load_of : List (List ℕ) → Load
load_of parts = record { parts = length parts; bytes = sum_by length parts }

-- how long the bundle of such parts is
abbrev pub size_of : Load → ℕ
size_of load = if nat_le load.parts 1 then load.bytes else load.bytes - load.parts + 3

-- the front of a list of frames that fits, and fits no more with the next of them
pub record IsLongestFront (front frames : List (List ℕ)) : Type 0 where
  pub rest : List (List ℕ)
  pub split : frames ≡ front ++ rest
  pub fits : Fits front
  pub longest : (next : List ℕ) (others : List (List ℕ)) → rest ≡ next ∷ others → Fits (front ++ next ∷ []) → ⊥
