-- What `parse` reads is the number of a word.
use Rattle.std.proofs.Common.{◌≡◌, ◌≢◌, ℕ, zero, suc, ◌≤◌, ◌<◌, ◌^◌, nat_eq, Bool, true, false, ◌&&◌, List, [], ◌∷◌, length, get_or, Some, None, Result, Ok, Err, refl, ap, arith}
use Rattle.std.proofs.Math.IntN.{ℤ, pos, neg_ℤ}
use Rattle.std.proofs.lemmas.Bool.{eqb-true, eqb-false, ltb-true, lt-ltb, and_parts}
use Rattle.std.proofs.lemmas.Str.Parse.{IsNumeralModel, numerals_by_value, tells_all_ascii_digits, parse_signed_plain, parse_signed_minus}
use Rattle.std.proofs.lemmas.Str.{IsUtf8-from_ascii}
use Rattle.std.proofs.lemmas.Fmt.{IsAscii-from_digits}
use Rattle.std.specs.Result.{OkIff, result_ok}
use Rattle.std.specs.Int.{w64}
use Rattle.std.specs.List.{starts_with}
use Rattle.std.specs.Str.{all_ascii_digits, IsUtf8, IsAscii}
use Rattle.std.specs.Str.Parse.{ParsesSigned, digits_value}
use Rattle.app_console.specs.Console.{is_filled, fits, signed, number_of}

digits : IsNumeralModel (λ ds. all_ascii_digits ds ≡ true) (digits_value 10)
digits = numerals_by_value _ tells_all_ascii_digits

some_from_length : (ds : List ℕ) → 0 < length ds → is_filled ds ≡ true
some_from_length [] h = absurd (omega arith)
some_from_length (d ∷ ds) h = refl

length_from_some : (ds : List ℕ) → is_filled ds ≡ true → 0 < length ds
length_from_some [] h = cc
length_from_some (d ∷ ds) h = omega arith

both : (x y : Bool) → x ≡ true → y ≡ true → (x && y) ≡ true
both x y p q = cc

-- where a text is read exactly if it is digits and the number fits, the reading is `signed`
read_signed : {E : Type 0} (sign : ℕ → ℤ) (ds : List ℕ) (r : Result ℤ E) (Q : Type 0)
    → OkIff r ((all_ascii_digits ds ≡ true) × (0 < length ds) × Q) (sign (digits_value 10 ds))
    → (Q → fits (sign (digits_value 10 ds)) ≡ true) → (fits (sign (digits_value 10 ds)) ≡ true → Q)
    → result_ok r ≡ signed sign ds
read_signed sign ds (Ok z) Q h in_range back =
    let some : is_filled ds ≡ true = some_from_length ds h.0.1 in
    let good : (is_filled ds && all_ascii_digits ds) ≡ true = both _ _ some h.0.0 in
    let fit : fits (sign (digits_value 10 ds)) ≡ true = in_range h.0.2 in
    rw good (rw fit (ap Some h.1))
read_signed sign ds (Err e) Q h in_range back = read_bad (is_filled ds && all_ascii_digits ds) refl (fits (sign (digits_value 10 ds))) refl
  where
    read_bad : (good : Bool) → (is_filled ds && all_ascii_digits ds) ≡ good → (fit : Bool) → fits (sign (digits_value 10 ds)) ≡ fit
        → None ≡ signed sign ds
    read_bad false g fit f = rw g refl
    read_bad true g false f = rw g (rw f refl)
    read_bad true g true f =
        let parts : (is_filled ds ≡ true) × (all_ascii_digits ds ≡ true) = and_parts _ _ g in
        absurd (h (parts.1, length_from_some ds parts.0, back f))

fits_pos : (n : ℕ) → n < 2 ^ 63 → fits (pos n) ≡ true
fits_pos n h = lt-ltb n (2 ^ 63) h

pos_fits : (n : ℕ) → fits (pos n) ≡ true → n < 2 ^ 63
pos_fits n h = ltb-true n (2 ^ 63) h

fits_neg : (n : ℕ) → n ≤ 2 ^ 63 → fits (neg_ℤ (pos n)) ≡ true
fits_neg zero h = refl
fits_neg (suc n) h = lt-ltb n (2 ^ 63) (omega arith)

neg_fits : (n : ℕ) → fits (neg_ℤ (pos n)) ≡ true → n ≤ 2 ^ 63
neg_fits zero h = omega arith
neg_fits (suc n) h = let below : n < 2 ^ 63 = ltb-true n (2 ^ 63) h in omega arith

-- bytes that do not start with a plus
pub no_plus : (word : List ℕ) → false ≡ starts_with nat_eq word (43 ∷ []) → get_or word 0 0 ≢ 43
no_plus [] h e = cc
no_plus (b ∷ bs) h e = let is_plus : b ≡ 43 = e in let same : false ≡ starts_with nat_eq (43 ∷ bs) (43 ∷ []) = rw is_plus at h in cc

pub parsed : {E : Type 0} (word : List ℕ) (r : Result ℤ E) → get_or word 0 0 ≢ 43 → ParsesSigned w64 10 word r
    → result_ok r ≡ number_of word
parsed [] (Ok z) plus h = absurd (omega (arith, h.0.0.0))
parsed [] (Err e) plus h = refl
parsed (b ∷ bs) r plus h = by_sign (nat_eq b 45) refl
  where
    by_sign : (minus : Bool) → nat_eq b 45 ≡ minus → result_ok r ≡ number_of (b ∷ bs)
    by_sign true m =
        rw m (read_signed (λ n. neg_ℤ (pos n)) bs r (digits_value 10 bs ≤ 2 ^ 63)
        (parse_signed_minus digits w64 (b ∷ bs) r h (eqb-true b 45 m)) (fits_neg _) (neg_fits _))
    by_sign false m =
        rw m (read_signed pos (b ∷ bs) r (digits_value 10 (b ∷ bs) < 2 ^ 63)
        (parse_signed_plain digits w64 (b ∷ bs) r h plus (eqb-false b 45 m)) (fits_pos _) (pos_fits _))

ascii_more : (b : ℕ) (bs : List ℕ) → b < 128 → IsAscii bs → IsAscii (b ∷ bs)
ascii_more b bs h more zero = h
ascii_more b bs h more (suc i) = more i

-- no sign and digits, where these are not ASCII
no_digits : (sign : ℕ → ℤ) (ds : List ℕ) → (IsAscii ds → ⊥) → None ≡ signed sign ds
no_digits sign ds h = by_test (is_filled ds && all_ascii_digits ds) refl
  where
    by_test : (good : Bool) → (is_filled ds && all_ascii_digits ds) ≡ good → None ≡ signed sign ds
    by_test false g = rw g refl
    by_test true g = let parts : (is_filled ds ≡ true) × (all_ascii_digits ds ≡ true) = and_parts _ _ g in
        absurd (h (IsAscii-from_digits ds (digits.to ds parts.1)))

-- bytes that are no text are no number
pub not_text : (word : List ℕ) → (IsUtf8 word → ⊥) → None ≡ number_of word
not_text [] h = refl
not_text (b ∷ bs) h = by_sign (nat_eq b 45) refl
  where
    by_sign : (minus : Bool) → nat_eq b 45 ≡ minus → None ≡ number_of (b ∷ bs)
    by_sign true m =
        let is_minus : b ≡ 45 = eqb-true b 45 m in
        rw m (no_digits (λ n. neg_ℤ (pos n)) bs (λ ascii. h (IsUtf8-from_ascii _ (ascii_more b bs (omega arith) ascii))))
    by_sign false m = rw m (no_digits pos (b ∷ bs) (λ ascii. h (IsUtf8-from_ascii _ ascii)))
