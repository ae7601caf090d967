-- Words, numbers, and the texts of numbers and faults.
use Rattle.std.specs.Prelude.{ℕ, ℤ, pos, negsuc, Bool, true, false, nat_lt, List, [], ◌∷◌, ◌++◌, ◌^◌, ◌==◌, ◌&&◌, ◌||◌, Option, Some, None, codes, if◌then◌else◌}
use Rattle.std.specs.List.{filter, slice_split}
use Rattle.std.specs.Str.{all_ascii_digits}
use Rattle.std.specs.Str.Parse.{digits_value}
use Rattle.std.specs.Fmt.{signed_decimal}
use Rattle.std.proofs.Math.IntN.{neg_ℤ}

-- ---- words

-- a space or a tab
abbrev pub is_blank : ℕ → Bool
is_blank b = (b == 32) || (b == 9)

-- at least one byte
abbrev pub is_filled : List ℕ → Bool
is_filled [] = false
is_filled (b ∷ bs) = true

-- the runs of bytes between blanks
abbrev pub words_of : List ℕ → List (List ℕ)
words_of line = filter is_filled (slice_split is_blank line)

-- ---- numbers

-- a number with a sign that 64 bits hold
abbrev pub fits : ℤ → Bool
fits (pos n) = nat_lt n (2 ^ 63)
fits (negsuc n) = nat_lt n (2 ^ 63)

-- the number, where it fits
abbrev pub if_fits : ℤ → Option ℤ
if_fits z = if fits z then Some z else None

-- one or more digits, and the number under a sign
abbrev pub signed : (ℕ → ℤ) → List ℕ → Option ℤ
signed sign digits = if is_filled digits && all_ascii_digits digits then if_fits (sign (digits_value 10 digits)) else None

-- an optional minus, and digits
abbrev pub number_of : List ℕ → Option ℤ
number_of [] = None
number_of (b ∷ bs) = if b == 45 then signed (λ n. neg_ℤ (pos n)) bs else signed pos (b ∷ bs)

-- ---- texts

-- what stands before a line
abbrev pub prompt : List ℕ
prompt = codes "> "

-- a number, in digits
abbrev pub number_text : ℤ → List ℕ
number_text z = signed_decimal z ++ codes "\n"

-- the faults from 1 to 11, and no other
abbrev pub fault_word : ℕ → List ℕ
fault_word code =
    if code == 1 then codes "overflow"
    else if code == 2 then codes "taken"
    else if code == 3 then codes "no such name"
    else if code == 4 then codes "no such kind"
    else if code == 5 then codes "credit limit"
    else if code == 6 then codes "already set"
    else if code == 7 then codes "no such slot"
    else if code == 8 then codes "closed"
    else if code == 9 then codes "spent"
    else if code == 10 then codes "full"
    else if code == 11 then codes "wrong kind"
    else []

-- printed for a fault
abbrev pub fault_text : ℕ → List ℕ
fault_text code = codes "error: " ++ fault_word code ++ codes "\n"
