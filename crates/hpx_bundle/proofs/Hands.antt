-- A frame in hand.
use Rattle.std.proofs.Common.{◌≡◌, ℕ, zero, suc, ◌+◌, ◌<◌, ◌≤◌, List, [], ◌∷◌, length, map, drop, get_or, Option, Some, None, sym, ap, ◌∙◌, arith}
use Rattle.std.specs.List.{AllByRecursion}
use Rattle.std.proofs.lemmas.List.{length-map, drop_all, drop_more, drop-drop, drop-map}
use Rattle.hpx_parcel.specs.declared.parcel.FaultAt.{FaultAt}
use Rattle.hpx_bundle.specs.declared.unbundle.Place.{Place}
use Rattle.hpx_bundle.specs.Bundles.{Bundles}
use Rattle.hpx_bundle.specs.Unbundling.{parts_of, part_text, IsWithin}
use Rattle.hpx_bundle.specs.Roads.{Frame, opened, parts_left, IsOpen, IsOpened}

pub open_new : (bytes : List ℕ) (places : List Place) → Bundles bytes (map (part_text bytes) places) → parts_of bytes ≡ map (part_text bytes) places → AllByRecursion (IsWithin bytes) places → IsOpen bytes places 0
open_new bytes places b parts inside = record { parts = parts; inside = inside; left = let some = b.fits.some in let n = length-map places (part_text bytes) in omega (arith, some, n) }

within_at : (bytes : List ℕ) (places : List Place) (i : ℕ) (d : Place) → AllByRecursion (IsWithin bytes) places → i < length places → IsWithin bytes (get_or places i d)
within_at bytes [] i d all lt = absurd (omega arith)
within_at bytes (p ∷ ps) zero d all lt = all.0
within_at bytes (p ∷ ps) (suc i) d all lt = within_at bytes ps i d all.1 (omega arith)

pub open_within : (bytes : List ℕ) (places : List Place) (accepted : ℕ) (d : Place) → IsOpen bytes places accepted → IsWithin bytes (get_or places accepted d)
open_within bytes places accepted d o = within_at bytes places accepted d o.inside o.left

pub open_next : (to : ℕ) (bytes : List ℕ) (places : List Place) (accepted : ℕ) (d : Place) → IsOpen bytes places accepted
    → (others : List Frame) × (parts_left (Some (record { frame = (to, bytes); accepted = accepted })) ≡ (to, part_text bytes (get_or places accepted d)) ∷ others)
open_next to bytes places accepted d o =
    let pair : List ℕ → Frame = λ part. (to, part) in
    let all : opened (to, bytes) ≡ map pair (map (part_text bytes) places) = ap (λ (ps : List (List ℕ)). map pair ps) o.parts in
    let next : drop accepted places ≡ get_or places accepted d ∷ drop (accepted + 1) places = drop_more places accepted d o.left in
    let outer : drop accepted (map pair (map (part_text bytes) places)) ≡ map pair (drop accepted (map (part_text bytes) places)) = drop-map pair accepted (map (part_text bytes) places) in
    let inner : drop accepted (map (part_text bytes) places) ≡ map (part_text bytes) (drop accepted places) = drop-map (part_text bytes) accepted places in (
      map pair (map (part_text bytes) (drop (accepted + 1) places)),
      ap (λ (fs : List Frame). drop accepted fs) all ∙ (outer ∙ (ap (λ (ps : List (List ℕ)). map pair ps) inner ∙ ap (λ (ps : List Place). map pair (map (part_text bytes) ps)) next)),
    )

pub opened_on : (to : ℕ) (bytes : List ℕ) (accepted : ℕ) → parts_left (Some (record { frame = (to, bytes); accepted = accepted + 1 })) ≡ drop 1 (parts_left (Some (record { frame = (to, bytes); accepted = accepted })))
opened_on to bytes accepted = sym (drop-drop 1 accepted (opened (to, bytes)))

short_parts : (to : ℕ) (bytes : List ℕ) (places : List Place) (fault : Option FaultAt) (accepted : ℕ) → IsOpened bytes places fault accepted → length places ≤ accepted + 1 → length (opened (to, bytes)) ≤ accepted + 1
short_parts to bytes places None accepted o le =
    let pair : List ℕ → Frame = λ part. (to, part) in
    let n = length-map (parts_of bytes) pair in
    let m = ap length o.parts in
    let k = length-map places (part_text bytes) in omega (arith, n, m, k, le)
short_parts to bytes places (Some f) accepted o le =
    let pair : List ℕ → Frame = λ part. (to, part) in
    let n = length-map (parts_of bytes) pair in
    let m = ap length o.0.unread in omega (arith, n, m)

pub opened_last : (to : ℕ) (bytes : List ℕ) (places : List Place) (fault : Option FaultAt) (accepted : ℕ) → IsOpened bytes places fault accepted → length places ≤ accepted + 1
    → parts_left None ≡ drop 1 (parts_left (Some (record { frame = (to, bytes); accepted = accepted })))
opened_last to bytes places fault accepted o le =
    sym (drop-drop 1 accepted (opened (to, bytes)) ∙ drop_all (accepted + 1) (opened (to, bytes)) (short_parts to bytes places fault accepted o le))

pub opened_more : (bytes : List ℕ) (places : List Place) (fault : Option FaultAt) (accepted : ℕ) → IsOpened bytes places fault accepted → accepted + 1 < length places → IsOpened bytes places fault (accepted + 1)
opened_more bytes places None accepted o lt = record { parts = o.parts; inside = o.inside; left = lt }
opened_more bytes places (Some f) accepted o lt = let n = ap length o.2 in absurd (omega (arith, n, lt))
