-- Frames on the road, as their parts.
use Rattle.std.proofs.Common.{◌≡◌, ℕ, ◌+◌, ◌≤◌, List, [], ◌∷◌, ◌++◌, length, map, drop, Some, sym, ap, ◌∙◌, arith}
use Rattle.std.proofs.lemmas.List.{append-nil, length-map, drop_all, drop-drop}
use Rattle.std.proofs.lemmas.List.Concat.{flat_map-append}
use Rattle.hpx_parcel.specs.Parcels.{IsFrame}
use Rattle.hpx_bundle.specs.Bundles.{Bundles}
use Rattle.hpx_bundle.specs.Unbundling.{parts_of}
use Rattle.hpx_bundle.specs.Roads.{Frame, opened, all_opened, Held, parts_left}
use Rattle.hpx_bundle.proofs.Bundled.{alone, bundled_parts}

pub opened_bundle : (to : ℕ) (bytes : List ℕ) (parts : List (List ℕ)) → Bundles bytes parts → opened (to, bytes) ≡ map (λ part. (to, part)) parts
opened_bundle to bytes parts b = ap (λ (ps : List (List ℕ)). map (λ part. (to, part)) ps) (bundled_parts bytes parts b)

pub opened_alone : (to : ℕ) (bytes : List ℕ) → IsFrame bytes → opened (to, bytes) ≡ (to, bytes) ∷ []
opened_alone to bytes f = opened_bundle to bytes (bytes ∷ []) (alone bytes f)

pub opened_last : (frames : List Frame) (frame : Frame) → all_opened (frames ++ frame ∷ []) ≡ all_opened frames ++ opened frame
opened_last frames frame = flat_map-append opened frames (frame ∷ []) ∙ ap (λ (fs : List Frame). all_opened frames ++ fs) (append-nil (opened frame))

pub next_left : (held : Held) (part : Frame) (others : List Frame) → parts_left (Some held) ≡ part ∷ others → parts_left (Some (record held { accepted = held.accepted + 1 })) ≡ others
next_left held part others e = sym (drop-drop 1 held.accepted (opened held.frame)) ∙ ap (λ (fs : List Frame). drop 1 fs) e

pub none_left : (held : Held) → length (parts_of held.frame.1) ≤ held.accepted → parts_left (Some held) ≡ []
none_left held le = drop_all held.accepted (opened held.frame) (let n = length-map {B = Frame} (parts_of held.frame.1) (λ part. (held.frame.0, part)) in omega (arith, n, le))
