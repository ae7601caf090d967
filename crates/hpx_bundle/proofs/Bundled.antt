-- Frames of several parcels: what is read is bundled so, and what is bundled so is read.
use Rattle.std.proofs.Common.{◌≡◌, ℕ, ◌<◌, ◌≤◌, Bool, true, false, cond, ltb, eqb, List, [], ◌∷◌, ◌++◌, length, get_or, Result, Ok, Err, refl, sym, ap, subst, ◌∙◌, arith, inl, inr}
use Rattle.std.specs.List.{AllByRecursion, flat_map}
use Rattle.std.proofs.lemmas.Bool.{le-ltb, ltb-false, eqb-true}
use Rattle.std.proofs.lemmas.List.{length-append}
use Rattle.hpx_parcel.specs.declared.parcel.FaultAt.{FaultAt}
use Rattle.hpx_parcel.specs.declared.parcel.Why.TheVariants.{Long}
use Rattle.hpx_parcel.specs.Spelling.{number_text}
use Rattle.hpx_parcel.specs.Parcels.{IsFrame}
use Rattle.hpx_parcel.specs.Reading.{reading, are_bytes}
use Rattle.hpx_parcel.proofs.FieldLaws.{IsBytes, IsBytes-rest, chosen}
use Rattle.hpx_parcel.proofs.Bytes.{AreBytes, are-append, number_bytes, are_tested, are_from_test}
use Rattle.hpx_parcel.proofs.Frames.{read_spelled, spelled_read, spelled_short, spelled_fits}
use Rattle.hpx_bundle.specs.Bundles.{behind, bundle_text, Fits, Bundles}
use Rattle.hpx_bundle.specs.Unbundling.{◌>>=◌, several_at, is_several, unbundling, parts_in, parts_of, BundlesNothing}
use Rattle.hpx_bundle.proofs.Prefix.{begins}
use Rattle.hpx_bundle.proofs.Parts.{ok_is, not_both, bind_ok, guard_ok, several_again, several_are}

-- ---- a bundle is read

one_read : (x : List ℕ) → IsFrame x → unbundling x ≡ Ok (x ∷ [])
unfolding unbundling
one_read x f =
    let short : ltb 65536 (length x) ≡ false = le-ltb _ _ (spelled_short x f.0 f.1) in
    let one : is_several x ≡ false = ap is_several (begins x f) in
    rw (short, one, spelled_read x f.0 f.1) refl

several_read : (parts : List (List ℕ)) → AllByRecursion IsFrame parts → 2 ≤ length parts → length parts ≤ 64
    → length (2 ∷ (number_text 2 (length parts) ++ flat_map behind parts)) ≤ 65536 → unbundling (2 ∷ (number_text 2 (length parts) ++ flat_map behind parts)) ≡ Ok parts
unfolding unbundling
several_read parts all two few short =
    let long : ltb 65536 (length (2 ∷ (number_text 2 (length parts) ++ flat_map behind parts))) ≡ false = le-ltb _ _ short in
    let less : length (flat_map behind parts) < 65536 = let sum = length-append (number_text 2 (length parts)) (flat_map behind parts) in omega arith in
    rw (long, several_again parts all two few less) refl

text_read : (parts : List (List ℕ)) → AllByRecursion IsFrame parts → Fits parts → unbundling (bundle_text parts) ≡ Ok parts
text_read [] all fits = let some = fits.some in absurd (omega arith)
text_read (x ∷ []) all fits = one_read x all.0
text_read (x ∷ (y ∷ zs)) all fits = several_read (x ∷ (y ∷ zs)) all (omega arith) fits.few fits.short

pub bundled_read : (bytes : List ℕ) (parts : List (List ℕ)) → Bundles bytes parts → unbundling bytes ≡ Ok parts
bundled_read bytes parts b = ap unbundling b.text ∙ text_read parts b.each b.fits

-- ---- what is read is a bundle

several_text : (parts : List (List ℕ)) → 2 ≤ length parts → bundle_text parts ≡ 2 ∷ (number_text 2 (length parts) ++ flat_map behind parts)
several_text [] two = absurd (omega arith)
several_text (x ∷ []) two = absurd (omega arith)
several_text (x ∷ (y ∷ zs)) two = refl

one_bundled : (bytes : List ℕ) (parts : List (List ℕ)) → IsBytes bytes → length bytes ≤ 65536 → (reading bytes >>= λ p. Ok (bytes ∷ [])) ≡ Ok parts → Bundles bytes parts
one_bundled bytes parts fits short e =
    let a = bind_ok (reading bytes) (λ p. Ok (bytes ∷ [])) parts e in
    let made : Bundles bytes (bytes ∷ []) = record {
      each = ((a.0, read_spelled bytes a.0 fits a.1), tt);
      fits = record { some = omega arith; few = omega arith; short = short };
      text = refl;
    } in
    subst (λ (ps : List (List ℕ)). Bundles bytes ps) (ok_is (bytes ∷ []) parts a.2) made

several_bundled : (tail : List ℕ) (parts : List (List ℕ)) → IsBytes tail → length (2 ∷ tail) ≤ 65536 → several_at tail ≡ Ok parts → Bundles (2 ∷ tail) parts
several_bundled tail parts fits short e =
    let s = several_are tail parts fits e in
    let two = s.2 in
    let text : 2 ∷ tail ≡ bundle_text parts = ap (λ (bytes : List ℕ). 2 ∷ bytes) (s.0) ∙ sym (several_text parts two) in
    record {
      each = s.1;
      fits = record { some = omega arith; few = s.3; short = subst (λ (bytes : List ℕ). length bytes ≤ 65536) text short };
      text = text;
    }

by_version : (bytes : List ℕ) (parts : List (List ℕ)) → IsBytes bytes → length bytes ≤ 65536
    → cond (is_several bytes) (several_at (behind bytes)) (reading bytes >>= λ p. Ok (bytes ∷ [])) ≡ Ok parts → Bundles bytes parts
by_version [] parts fits short e = one_bundled [] parts fits short e
by_version (version ∷ tail) parts fits short e =
    elim (chosen (eqb version 2) (several_at tail) (reading (version ∷ tail) >>= λ p. Ok ((version ∷ tail) ∷ [])) (Ok parts) e) [
      | inl held ↦
          let is = eqb-true version 2 held.0 in
          subst (λ (v : ℕ). Bundles (v ∷ tail) parts) (sym is) (several_bundled tail parts (IsBytes-rest version tail fits) (omega arith) held.1)
      | inr failed ↦ one_bundled (version ∷ tail) parts fits short (failed.1)
    ]

pub read_bundled : (bytes : List ℕ) (parts : List (List ℕ)) → IsBytes bytes → unbundling bytes ≡ Ok parts → Bundles bytes parts
unfolding unbundling
read_bundled bytes parts fits e =
    let g = guard_ok (ltb 65536 (length bytes)) (record { at = 65536; why = Long }) (cond (is_several bytes) (several_at (behind bytes)) (reading bytes >>= λ p. Ok (bytes ∷ []))) parts e in
    by_version bytes parts fits (ltb-false _ _ g.0) g.1

-- ---- the laws

behind_bytes : (x : List ℕ) → AreBytes x → AreBytes (behind x)
behind_bytes [] h = tt
behind_bytes (b ∷ bytes) h = h.1

all_bytes : (parts : List (List ℕ)) → AllByRecursion IsFrame parts → AreBytes (flat_map behind parts)
all_bytes [] all = tt
all_bytes (x ∷ xs) all = are-append (behind x) (flat_map behind xs) (behind_bytes x (spelled_fits x all.0.0 all.0.1)) (all_bytes xs all.1)

several_bytes : (parts : List (List ℕ)) → AllByRecursion IsFrame parts → AreBytes (2 ∷ (number_text 2 (length parts) ++ flat_map behind parts))
several_bytes parts all = (omega arith, are-append (number_text 2 (length parts)) (flat_map behind parts) (number_bytes 2 (length parts)) (all_bytes parts all))

text_bytes : (parts : List (List ℕ)) → AllByRecursion IsFrame parts → AreBytes (bundle_text parts)
text_bytes [] all = several_bytes [] all
text_bytes (x ∷ []) all = spelled_fits x all.0.0 all.0.1
text_bytes (x ∷ (y ∷ zs)) all = several_bytes (x ∷ (y ∷ zs)) all

pub bundled_bytes : (bytes : List ℕ) (parts : List (List ℕ)) → Bundles bytes parts → AreBytes bytes
bundled_bytes bytes parts b = subst AreBytes (sym b.text) (text_bytes parts b.each)

pub bundled_parts : (bytes : List ℕ) (parts : List (List ℕ)) → Bundles bytes parts → parts_of bytes ≡ parts
unfolding parts_of
bundled_parts bytes parts b =
    let tested : are_bytes bytes ≡ true = are_tested bytes (bundled_bytes bytes parts b) in
    rw (tested, bundled_read bytes parts b) refl

parts_by : (b : Bool) (r : Result (List (List ℕ)) FaultAt) (x : List ℕ) (xs : List (List ℕ)) → cond b (parts_in r) [] ≡ x ∷ xs → (b ≡ true) × (r ≡ Ok (x ∷ xs))
parts_by true (Ok parts) x xs e = (refl, cc)
parts_by true (Err f) x xs e = absurd cc
parts_by false r x xs e = absurd cc

pub parts_bundled : (bytes : List ℕ) (x : List ℕ) (xs : List (List ℕ)) → parts_of bytes ≡ x ∷ xs → Bundles bytes (x ∷ xs)
unfolding parts_of
parts_bundled bytes x xs e =
    let g = parts_by (are_bytes bytes) (unbundling bytes) x xs e in
    read_bundled bytes (x ∷ xs) (are_from_test bytes g.0) g.1

pub one_list : (bytes : List ℕ) (ps qs : List (List ℕ)) → Bundles bytes ps → Bundles bytes qs → ps ≡ qs
one_list bytes ps qs b c = sym (bundled_parts bytes ps b) ∙ bundled_parts bytes qs c

pub one_bundle : (xs ys : List ℕ) (parts : List (List ℕ)) → Bundles xs parts → Bundles ys parts → xs ≡ ys
one_bundle xs ys parts b c = b.text ∙ sym c.text

pub alone : (bytes : List ℕ) → IsFrame bytes → Bundles bytes (bytes ∷ [])
alone bytes f = record {
  each = (f, tt);
  fits = record { some = omega arith; few = omega arith; short = spelled_short bytes f.0 f.1 };
  text = refl;
}

nothing_by : (b : Bool) (r : Result (List (List ℕ)) FaultAt) (f : FaultAt) → r ≡ Err f → cond b (parts_in r) [] ≡ []
nothing_by true (Ok parts) f e = absurd cc
nothing_by true (Err g) f e = refl
nothing_by false r f e = refl

pub refused : (bytes : List ℕ) (f : FaultAt) → unbundling bytes ≡ Err f → BundlesNothing bytes f
unfolding parts_of
refused bytes f e = record {
  first = e;
  none = λ parts b. not_both parts f (sym (bundled_read bytes parts b) ∙ e);
  unread = nothing_by (are_bytes bytes) (unbundling bytes) f e;
}

pub one_fits : (parts : List (List ℕ)) → AllByRecursion IsFrame parts → 1 ≤ length parts → length parts < 2 → Fits parts
one_fits [] all one few = absurd (omega arith)
one_fits (x ∷ []) all one few = record { some = one; few = omega arith; short = spelled_short x all.0.0 all.0.1 }
one_fits (x ∷ (y ∷ zs)) all one few = absurd (omega arith)

pub one_bundles : (parts : List (List ℕ)) (x copy : List ℕ) → AllByRecursion IsFrame parts → 1 ≤ length parts → length parts < 2 → x ≡ get_or parts 0 x → copy ≡ x → Bundles copy parts
one_bundles [] x copy all one few is same = absurd (omega arith)
one_bundles (y ∷ []) x copy all one few is same = subst (λ (bytes : List ℕ). Bundles bytes (y ∷ [])) (sym (same ∙ is)) (alone y all.0)
one_bundles (y ∷ (z ∷ zs)) x copy all one few is same = absurd (omega arith)
