-- What the code that takes a frame apart says of its bytes.
use Rattle.std.proofs.Common.{◌≡◌, ℕ, zero, suc, ◌+◌, ◌-◌, ◌<◌, ◌≤◌, Bool, true, false, cond, ltb, eqb, List, [], ◌∷◌, ◌++◌, length, get_or, set, take, drop, map, Result, Ok, Err, refl, sym, ap, subst, ◌∙◌, arith}
use Rattle.std.specs.Prelude.{IfOk, IfErr}
use Rattle.std.specs.List.{AllByRecursion}
use Rattle.std.proofs.lemmas.Bool.{lt-ltb, le-ltb, ltb-false, ne_eqb}
use Rattle.std.proofs.lemmas.List.{length-append, length-take, length-drop, take_all, take_rest, drop_all, drop-set, drop-drop, set-set, set-get_or, map_push}
use Rattle.hpx_parcel.specs.declared.parcel.Parcel.{Parcel}
use Rattle.hpx_parcel.specs.declared.parcel.FaultAt.{FaultAt}
use Rattle.hpx_parcel.specs.declared.parcel.Why.TheVariants.{Long, Trailing}
use Rattle.hpx_parcel.specs.Parcels.{IsFrame}
use Rattle.hpx_parcel.specs.Reading.{reading, placed, whole_of, IsRefused}
use Rattle.hpx_parcel.proofs.Frames.{spelled_read}
use Rattle.hpx_bundle.specs.Bundles.{behind, Bundles}
use Rattle.hpx_bundle.specs.Unbundling.{trails, front_at, parts_at, count_at, several_at, is_several, unbundling, part_text, IsWithin, EndsAt, BundlesNothing, parts_of}
use Rattle.hpx_bundle.specs.declared.unbundle.Place.{Place}
use Rattle.hpx_parcel.proofs.FieldLaws.{IsBytes}
use Rattle.hpx_parcel.proofs.Bytes.{are_tested, are_from_test}
use Rattle.hpx_bundle.proofs.Prefix.{begins}
use Rattle.hpx_bundle.proofs.Took.{trailing}
use Rattle.hpx_bundle.proofs.Parts.{with_front, parts_go_on}
use Rattle.hpx_bundle.proofs.Bundled.{read_bundled, bundled_parts, refused}

abbrev stopped : ℕ → Result (List (List ℕ)) FaultAt
stopped n = Err (record { at = n; why = Trailing })

-- ---- the front

pub front_whole : (bytes : List ℕ) → IsFrame bytes → front_at bytes ≡ Ok (take (length bytes) bytes, drop (length bytes) bytes)
unfolding front_at
front_whole bytes f =
    rw (spelled_read bytes f.0 f.1, take_all (length bytes) bytes (omega arith), drop_all (length bytes) bytes (omega arith)) refl

pub front_some : (bytes : List ℕ) → IsFrame bytes → 1 ≤ length bytes
front_some bytes f = let first = ap length (begins bytes f) in omega (arith, first)

pub front_ends : (bytes : List ℕ) (f : FaultAt) → IsRefused bytes f → f.why ≡ Trailing → front_at bytes ≡ Ok (take f.at bytes, drop f.at bytes)
unfolding front_at
front_ends bytes f r why = rw (r.first, why) refl

pub ends_within : (bytes : List ℕ) (f : FaultAt) → IsBytes bytes → IsRefused bytes f → f.why ≡ Trailing → (1 ≤ f.at) × (f.at ≤ length bytes)
ends_within bytes f fits r why =
    let t = trailing bytes f fits r.first (ap trails why) in
    let some = front_some (take f.at bytes) (t.0) in
    let len = length-take f.at bytes in
    let inside = t.1 in
    (omega (arith, some, len, inside), inside)

pub front_fails : (bytes : List ℕ) (f : FaultAt) → IsRefused bytes f → trails f.why ≡ false → front_at bytes ≡ Err f
unfolding front_at
front_fails bytes f r why = rw (r.first, why) refl

-- ---- how far to the right a fault stands

abbrev fault_of : {A E : Type 0} → Result A E → Type 0
fault_of {A} {E} r = E

abbrev place_in : Result Parcel FaultAt → ℕ
place_in (Ok p) = 0
place_in (Err f) = f.at

placed_low : (n : ℕ) (r : Result Parcel (fault_of (whole_of []))) → place_in (placed n r) ≤ n
placed_low n (Ok p) = omega arith
placed_low n (Err s) = omega arith

low_by : (b : Bool) (n : ℕ) (r : Result Parcel FaultAt) (f : FaultAt) → ltb 65536 n ≡ b → place_in r ≤ n → cond b (Err (record { at = 65536; why = Long })) r ≡ Err f → f.at ≤ 65536
low_by true n r f t low e = let at : 65536 ≡ f.at = ap place_in e in omega (arith, at)
low_by false n r f t low e = let at : place_in r ≡ f.at = ap place_in e in let le : n ≤ 65536 = ltb-false _ _ t in omega (arith, at, low, le)

pub refused_low : (bytes : List ℕ) (f : FaultAt) → IsRefused bytes f → f.at ≤ 65536
unfolding reading
refused_low bytes f r = low_by (ltb 65536 (length bytes)) (length bytes) (placed (length bytes) (whole_of bytes)) f refl (placed_low (length bytes) (whole_of bytes)) (r.first)

-- ---- a part, read with the byte before it lent

pub lent_back : (bytes mid last slice : List ℕ) (i : ℕ) → mid ≡ set bytes i 1 → slice ≡ bytes → last ≡ set mid i (get_or slice i 0) → last ≡ bytes
lent_back bytes mid last slice i lent same back =
    back ∙ (ap (λ (m : List ℕ). set m i (get_or slice i 0)) lent ∙ (ap (λ (s : List ℕ). set (set bytes i 1) i (get_or s i 0)) same ∙ (set-set bytes i 1 (get_or bytes i 0) ∙ set-get_or bytes i 0)))

pub lent_is : (bytes mid : List ℕ) (start : ℕ) → 1 ≤ start → start ≤ length bytes → mid ≡ set bytes (start - 1) 1 → take (length mid - (start - 1)) (drop (start - 1) mid) ≡ 1 ∷ drop start bytes
lent_is bytes mid start some inside is =
    let next : start - 1 + 1 ≡ start = omega arith in
    take_rest mid (start - 1) ∙ (ap (λ (m : List ℕ). drop (start - 1) m) is ∙ (drop-set bytes (start - 1) 1 (omega arith) ∙ ap (λ (k : ℕ). 1 ∷ drop k bytes) next))

pub part_read : (bytes slice : List ℕ) (start len : ℕ) → 1 ≤ start → start ≤ length bytes → slice ≡ 1 ∷ drop start bytes
    → front_at slice ≡ Ok (take len slice, drop len slice) → 1 ≤ len → len ≤ length slice → EndsAt bytes start (start - 1 + len)
part_read bytes slice start zero some inside is read one le = absurd (omega arith)
part_read bytes slice start (suc k) some inside is read one le =
    let tail = length-drop start bytes in
    let size = ap length is in
    let end : start - 1 + suc k ≡ start + k = omega arith in
    let back : start + k - start ≡ k = omega arith in
    let front : front_at (1 ∷ drop start bytes) ≡ Ok (1 ∷ take k (drop start bytes), drop k (drop start bytes)) = subst (λ (s : List ℕ). front_at s ≡ Ok (take (suc k) s, drop (suc k) s)) is read in
    let made : EndsAt bytes start (start + k) = record {
      within = record { order = omega arith; inside = omega (arith, tail, size, le) };
      read = rw (front, back, drop-drop k start bytes) refl;
    } in
    subst (λ (e : ℕ). EndsAt bytes start e) (sym end) made

-- ---- several

pub part_length : (bytes : List ℕ) (start end : ℕ) → 1 ≤ start → IsWithin bytes (record { start = start; end = end }) → start - 1 + length (part_text bytes (record { start = start; end = end })) ≡ end
part_length bytes start end some w =
    let order = w.order in
    let inside = w.inside in
    let tail = length-drop start bytes in
    let len = length-take (end - start) (drop start bytes) in omega (arith, order, inside, tail, len)

pub all_pushed : (bytes : List ℕ) (places : List Place) (place : Place) → AllByRecursion (IsWithin bytes) places → IsWithin bytes place → AllByRecursion (IsWithin bytes) (places ++ place ∷ [])
all_pushed bytes [] place all w = (w, tt)
all_pushed bytes (p ∷ ps) place all w = (all.0, all_pushed bytes ps place all.1 w)

-- one more part was read
pub part_pushed : (bytes : List ℕ) (count start end : ℕ) (places new : List Place) (total : Result (List (List ℕ) × List ℕ) FaultAt) → length places < count → 1 ≤ start → EndsAt bytes start end
    → new ≡ places ++ record { start = start; end = end } ∷ []
    → with_front (map (part_text bytes) places) (parts_at (count - length places) start (drop start bytes)) ≡ total
    → with_front (map (part_text bytes) new) (parts_at (count - length new) end (drop end bytes)) ≡ total
part_pushed bytes count start end places new total lt some ends is so_far =
    let place : Place = record { start = start; end = end } in
    let step = parts_go_on (map (part_text bytes) places) count (length places) start (drop start bytes) (part_text bytes place) (drop end bytes) total lt ends.read so_far in
    let parts : map (part_text bytes) new ≡ map (part_text bytes) places ++ part_text bytes place ∷ [] = ap (λ (ps : List Place). map (part_text bytes) ps) is ∙ map_push (part_text bytes) places place in
    let count' : length new ≡ length places + 1 = ap length is ∙ length-append places (place ∷ []) in
    let moved = subst (λ (k : ℕ). with_front (map (part_text bytes) places ++ part_text bytes place ∷ []) (parts_at (count - (length places + 1)) k (drop end bytes)) ≡ total) (part_length bytes start end some ends.within) step in
    rw (parts, count') moved

pub several_fails : (bytes : List ℕ) (f : FaultAt) → count_at bytes ≡ Err f → several_at bytes ≡ Err f
unfolding several_at
several_fails bytes f e = rw e refl

pub several_stops : (bytes rest : List ℕ) (n : ℕ) (f : FaultAt) → count_at bytes ≡ Ok (n, rest) → parts_at n 3 rest ≡ Err f → several_at bytes ≡ Err f
unfolding several_at
several_stops bytes rest n f c e = rw (c, e) refl

pub several_trails : (frame rest : List ℕ) (n start : ℕ) (parts : List (List ℕ)) → count_at (behind frame) ≡ Ok (n, rest) → parts_at n 3 rest ≡ Ok (parts, drop start frame) → start < length frame
    → several_at (behind frame) ≡ Err (record { at = start; why = Trailing })
unfolding several_at
several_trails [] rest n start parts c e lt = absurd (omega arith)
several_trails (b ∷ bytes) rest n start parts c e lt =
    let len = length-drop start (b ∷ bytes) in
    let some : eqb (length (drop start (b ∷ bytes))) 0 ≡ false = ne_eqb _ _ (λ z. omega (arith, z, len)) in
    let at : 1 + length bytes - length (drop start (b ∷ bytes)) ≡ start = omega (arith, len) in
    rw (c, e, some) (ap (λ (k : ℕ). stopped k) at)

pub several_ends : (frame rest : List ℕ) (n start : ℕ) (parts : List (List ℕ)) → count_at (behind frame) ≡ Ok (n, rest) → parts_at n 3 rest ≡ Ok (parts, drop start frame) → length frame ≤ start
    → several_at (behind frame) ≡ Ok parts
unfolding several_at
several_ends frame rest n start parts c e le =
    let none : eqb (length (drop start frame)) 0 ≡ true = ap (λ (bytes : List ℕ). eqb (length bytes) 0) (drop_all start frame le) in
    rw (c, e, none) refl

-- ---- a frame

pub too_long : (bytes : List ℕ) → 65536 < length bytes → unbundling bytes ≡ Err (record { at = 65536; why = Long })
unfolding unbundling
too_long bytes long = let t : ltb 65536 (length bytes) ≡ true = lt-ltb _ _ long in rw t refl

pub as_several : (bytes : List ℕ) (r : Result (List (List ℕ)) FaultAt) → length bytes ≤ 65536 → is_several bytes ≡ true → several_at (behind bytes) ≡ r → unbundling bytes ≡ r
unfolding unbundling
as_several bytes r short is e = let t : ltb 65536 (length bytes) ≡ false = le-ltb _ _ short in rw (t, is, e) refl

pub as_one : (bytes : List ℕ) → length bytes ≤ 65536 → is_several bytes ≡ false → IsFrame bytes → unbundling bytes ≡ Ok (bytes ∷ [])
unfolding unbundling
as_one bytes short is f = let t : ltb 65536 (length bytes) ≡ false = le-ltb _ _ short in rw (t, is, spelled_read bytes f.0 f.1) refl

pub as_refused : (bytes : List ℕ) (f : FaultAt) → length bytes ≤ 65536 → is_several bytes ≡ false → IsRefused bytes f → unbundling bytes ≡ Err f
unfolding unbundling
as_refused bytes f short is r = let t : ltb 65536 (length bytes) ≡ false = le-ltb _ _ short in rw (t, is, r.first) refl

pub whole_part : (bytes : List ℕ) → IsFrame bytes → part_text bytes (record { start = 1; end = length bytes }) ≡ bytes
whole_part bytes f =
    let first = begins bytes f in
    let len = ap length first in
    let tail : drop 1 bytes ≡ behind bytes = ap (λ (b : List ℕ). drop 1 b) first in
    let all : take (length bytes - 1) (drop 1 bytes) ≡ behind bytes = ap (λ (b : List ℕ). take (length bytes - 1) b) tail ∙ take_all (length bytes - 1) (behind bytes) (omega (arith, len)) in
    ap (λ (b : List ℕ). 1 ∷ b) all ∙ sym first

pub one_place : (bytes : List ℕ) (places : List Place) → IsFrame bytes → places ≡ record { start = 1; end = length bytes } ∷ [] → map (part_text bytes) places ≡ bytes ∷ []
one_place bytes places f is = ap (λ (ps : List Place). map (part_text bytes) ps) is ∙ ap (λ (part : List ℕ). part ∷ []) (whole_part bytes f)

pub one_within : (bytes : List ℕ) (places : List Place) → IsFrame bytes → places ≡ record { start = 1; end = length bytes } ∷ [] → AllByRecursion (IsWithin bytes) places
one_within bytes places f is =
    let within : IsWithin bytes (record { start = 1; end = length bytes }) = record { order = front_some bytes f; inside = omega arith } in
    subst (λ (ps : List Place). AllByRecursion (IsWithin bytes) ps) (sym is) (within, tt)

-- ---- what is answered for a frame of several

pub record OfSeveral (bytes : List ℕ) : Type 0 where
  pub bytes_fit : AllByRecursion (λ b. b < 256) bytes
  pub short : length bytes ≤ 65536
  pub several : is_several bytes ≡ true

fits_of : (bytes : List ℕ) → OfSeveral bytes → IsBytes bytes
fits_of bytes o = are_from_test bytes (are_tested bytes o.bytes_fit)

pub several_bundles : {A : Type 0} (items : A → List Place) (bytes : List ℕ) (r : Result A FaultAt) → OfSeveral bytes → IfOk r (λ x. several_at (behind bytes) ≡ Ok (map (part_text bytes) (items x)))
    → IfOk r (λ x. Bundles bytes (map (part_text bytes) (items x)))
several_bundles items bytes (Ok x) o e = read_bundled bytes (map (part_text bytes) (items x)) (fits_of bytes o) (as_several bytes (Ok (map (part_text bytes) (items x))) o.short o.several e)
several_bundles items bytes (Err f) o e = tt

pub several_parts : {A : Type 0} (items : A → List Place) (bytes : List ℕ) (r : Result A FaultAt) → IfOk r (λ x. Bundles bytes (map (part_text bytes) (items x))) → IfOk r (λ x. parts_of bytes ≡ map (part_text bytes) (items x))
several_parts items bytes (Ok x) b = bundled_parts bytes (map (part_text bytes) (items x)) b
several_parts items bytes (Err f) b = tt

pub several_nothing : {A : Type 0} (bytes : List ℕ) (r : Result A FaultAt) → OfSeveral bytes → IfErr r (λ f. several_at (behind bytes) ≡ Err f) → IfErr r (λ f. BundlesNothing bytes f)
several_nothing bytes (Ok x) o e = tt
several_nothing bytes (Err f) o e = refused bytes f (as_several bytes (Err f) o.short o.several e)
