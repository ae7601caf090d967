-- A frame in front of other bytes.
use Rattle.std.proofs.Common.{◌≡◌, ℕ, ◌-◌, ◌<◌, ◌≤◌, ◌^◌, false, ltb, eqb, List, ◌∷◌, ◌++◌, length, Result, Ok, Err, refl, sym, ap, ◌∙◌, append_assoc, arith}
use Rattle.std.proofs.lemmas.Bool.{le-ltb, ne_eqb}
use Rattle.std.proofs.lemmas.List.{length-append}
use Rattle.hpx_value.specs.Ids.{Id, IsId}
use Rattle.hpx_value.specs.declared.value.Act.{Act}
use Rattle.hpx_value.specs.declared.value.State.{State}
use Rattle.hpx_parcel.specs.declared.parcel.Parcel.{Parcel}
use Rattle.hpx_parcel.specs.declared.parcel.Parcel.TheVariants.{Apply, Return, Ask, Give, Cached, Move, Go, Object, Landed, Free}
use Rattle.hpx_parcel.specs.declared.parcel.FaultAt.{FaultAt}
use Rattle.hpx_parcel.specs.declared.parcel.Why.TheVariants.{Trailing}
use Rattle.hpx_parcel.specs.Spelling.{number_text, id_text, act_text, state_text, text_of}
use Rattle.hpx_parcel.specs.Parcels.{HasLeastCredit, IsMove, IsCarried, IsParcel, FitsAct, FitsState, FitsParcel, Spells, IsFrame}
use Rattle.hpx_parcel.specs.Reading.{ask_at, object_at, fields_at, parcel_at, whole_of, reading}
use Rattle.hpx_bundle.specs.Bundles.{behind}
use Rattle.hpx_parcel.proofs.FieldLaws.{number_again, id_again}
use Rattle.hpx_parcel.proofs.ActLaws.{act_again}
use Rattle.hpx_parcel.proofs.StateLaws.{state_again}
use Rattle.hpx_parcel.proofs.Rules.{credited_back, least_back, bare_back, pair_again, applied_back, moved_back}

abbrev stopped : ℕ → Result Parcel FaultAt
stopped n = Err (record { at = n; why = Trailing })

object_again : (a : Act) (s : State) (rest : List ℕ) → IsMove a → IsCarried s → FitsAct a → FitsState s
    → object_at ((act_text a ++ state_text s) ++ rest) ≡ Ok (Object a s, rest)
unfolding object_at
object_again a s rest move carried fits fits' =
    ap object_at (append_assoc (act_text a) (state_text s) rest)
    ∙ rw (act_again _ a (state_text s ++ rest) (moved_back a move fits), state_again s rest carried fits') refl

ask_again : (id : Id) (asker entry : ℕ) (rest : List ℕ) → HasLeastCredit id → IsId id → asker < 2 ^ 16 → entry < 2 ^ 64
    → ask_at ((id_text id ++ (number_text 2 asker ++ number_text 8 entry)) ++ rest) ≡ Ok (Ask id asker entry, rest)
unfolding ask_at
ask_again id asker entry rest is valid fits fits' =
    let regrouped : (id_text id ++ (number_text 2 asker ++ number_text 8 entry)) ++ rest ≡ (id_text id ++ number_text 2 asker) ++ (number_text 8 entry ++ rest) = simp append_assoc in
    ap ask_at regrouped ∙ rw (pair_again _ 2 id asker (number_text 8 entry ++ rest) valid (least_back id is) fits, number_again 8 entry rest fits') refl

parcel_again : (p : Parcel) (rest : List ℕ) → IsParcel p → FitsParcel p → parcel_at (text_of p ++ rest) ≡ Ok (p, rest)
unfolding parcel_at fields_at text_of
parcel_again (Apply a) rest is fits = rw (act_again _ a rest (applied_back a is fits)) refl
parcel_again (Return id) rest is fits = rw (id_again _ id rest fits (credited_back id is)) refl
parcel_again (Ask id asker entry) rest is fits = rw (ask_again id asker entry rest is fits.0 fits.1 fits.2) refl
parcel_again (Give id entry) rest is fits = rw (pair_again _ 8 id entry rest fits.0 (credited_back id is) fits.1) refl
parcel_again (Cached id place) rest is fits = rw (pair_again _ 2 id place rest fits.0 (bare_back id is) fits.1) refl
parcel_again (Move a) rest is fits = rw (act_again _ a rest (moved_back a is fits)) refl
parcel_again (Go a) rest is fits = rw (act_again _ a rest (moved_back a is fits)) refl
parcel_again (Object a s) rest is fits = rw (object_again a s rest is.0 is.1 fits.0 fits.1) refl
parcel_again (Landed id place) rest is fits = rw (pair_again _ 2 id place rest fits.0 (credited_back id is) fits.1) refl
parcel_again (Free id) rest is fits = rw (id_again _ id rest fits (bare_back id is)) refl

-- bytes behind a frame are its only fault
pub reading_behind : (x : List ℕ) (p : Parcel) (b : ℕ) (more : List ℕ) → Spells x p → length (x ++ b ∷ more) ≤ 65536
    → reading (x ++ b ∷ more) ≡ Err (record { at = length x; why = Trailing })
unfolding reading whole_of
reading_behind x p b more s short =
    let t : ltb 65536 (length (x ++ b ∷ more)) ≡ false = le-ltb _ _ short in
    let read : parcel_at (x ++ b ∷ more) ≡ Ok (p, b ∷ more) = ap (λ (text : List ℕ). parcel_at (text ++ b ∷ more)) s.text ∙ parcel_again p (b ∷ more) s.parcel s.fits in
    let some : eqb (length (b ∷ more)) 0 ≡ false = ne_eqb _ _ (λ e. omega (arith, e)) in
    let at : length (x ++ b ∷ more) - length (b ∷ more) ≡ length x = omega (arith, length-append x (b ∷ more)) in
    rw (t, read, some) (ap (λ (n : ℕ). stopped n) at)

-- a frame begins with version 1
versioned : (p : Parcel) → text_of p ≡ 1 ∷ behind (text_of p)
unfolding text_of
versioned (Apply a) = refl
versioned (Return id) = refl
versioned (Ask id asker entry) = refl
versioned (Give id entry) = refl
versioned (Cached id place) = refl
versioned (Move a) = refl
versioned (Go a) = refl
versioned (Object a s) = refl
versioned (Landed id place) = refl
versioned (Free id) = refl

pub begins : (x : List ℕ) → IsFrame x → x ≡ 1 ∷ behind x
begins x f = f.1.text ∙ (versioned f.0 ∙ ap (λ (text : List ℕ). 1 ∷ behind text) (sym f.1.text))
