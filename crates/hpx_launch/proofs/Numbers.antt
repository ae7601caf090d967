-- What `parse` reads is the number of a text.
use Rattle.std.proofs.Common.{◌≡◌, ◌≢◌, ℕ, ◌≤◌, ◌<◌, ◌^◌, Bool, true, false, ◌&&◌, cond, List, [], ◌∷◌, length, get_or, Some, None, Result, Ok, Err, nat_eq, nat_le, refl, sym, ◌∙◌, arith}
use Rattle.std.proofs.lemmas.Bool.{and_parts, leb-true, eqb-true}
use Rattle.std.proofs.lemmas.Str.Parse.{IsNumeralModel, numerals_by_value, tells_all_ascii_digits, parse_plain}
use Rattle.std.specs.List.{starts_with}
use Rattle.std.specs.Str.{all_ascii_digits}
use Rattle.std.specs.Str.Parse.{ParsesUnsigned, digits_value}
use Rattle.hpx_launch.specs.Lines.{is_filled, number_in}

digits : IsNumeralModel (λ ds. all_ascii_digits ds ≡ true) (digits_value 10)
digits = numerals_by_value _ tells_all_ascii_digits

-- bytes that do not start with a plus
pub no_plus : (text : List ℕ) → false ≡ starts_with nat_eq text (43 ∷ []) → get_or text 0 0 ≢ 43
no_plus [] h e = cc
no_plus (b ∷ bs) h e = let is_plus : b ≡ 43 = e in let same : false ≡ starts_with nat_eq (43 ∷ bs) (43 ∷ []) = rw is_plus at h in cc

-- bytes that start with one are no number
pub plus : (greatest : ℕ) (text : List ℕ) → true ≡ starts_with nat_eq text (43 ∷ []) → None ≡ number_in greatest text
plus greatest [] h = cc
plus greatest (b ∷ bs) h =
    let parts = and_parts (nat_eq 43 b) true (sym h) in
    let is_plus : b ≡ 43 = sym (eqb-true 43 b parts.0) in
    rw is_plus refl

none_from : (good low high : Bool) (v : ℕ) → (good ≡ true → high ≡ true → ⊥) → None ≡ cond ((good && low) && high) (Some v) None
none_from false low high v h = refl
none_from true false high v h = refl
none_from true true false v h = refl
none_from true true true v h = absurd (h refl refl)

filled : (ds : List ℕ) → 0 < length ds → is_filled ds ≡ true
filled [] h = absurd (omega arith)
filled (d ∷ ds) h = refl

length_from_filled : (ds : List ℕ) → is_filled ds ≡ true → 0 < length ds
length_from_filled [] h = cc
length_from_filled (d ∷ ds) h = omega arith

-- a text that is read
pub parsed : {E : Type 0} (greatest n : ℕ) (text : List ℕ) (r : Result ℕ E) → r ≡ Ok n → get_or text 0 0 ≢ 43 → ParsesUnsigned 16 10 text r →
    number_in greatest text ≡ cond (nat_le 1 n && nat_le n greatest) (Some n) None
parsed greatest n text (Err e) is first h = cc
parsed {E = E} greatest n text (Ok m) is first h =
    let read = parse_plain digits {E = E} 16 text (Ok m) h first in
    let some : is_filled text ≡ true = filled text read.0.1 in
    let same : m ≡ n = cc in
    let value : digits_value 10 text ≡ n = sym read.1 ∙ same in
    rw (some, read.0.0, value) refl

-- a text that is not
pub unparsed : {E : Type 0} (greatest : ℕ) (e : E) (text : List ℕ) → greatest < 2 ^ 16 → get_or text 0 0 ≢ 43 → ParsesUnsigned 16 10 text (Err e) →
    None ≡ number_in greatest text
unparsed greatest e text small first h =
    let read = parse_plain digits 16 text (Err e) h first in
    none_from (is_filled text && all_ascii_digits text) (nat_le 1 (digits_value 10 text)) (nat_le (digits_value 10 text) greatest) (digits_value 10 text)
    (λ good high.
    let parts = and_parts (is_filled text) (all_ascii_digits text) good in
    let below : digits_value 10 text ≤ greatest = leb-true _ _ high in
    read (parts.1, length_from_filled text parts.0, omega arith))
