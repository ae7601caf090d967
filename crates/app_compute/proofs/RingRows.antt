-- The rows of a ring are short.
use Rattle.std.specs.Prelude.{ℕ, zero, suc, ℤ, pos, List, [], ◌∷◌, ◌++◌, ◌≡◌, ◌+◌, ◌*◌, ◌/◌, ◌≤◌, ◌+ℤ◌, length, codes, refl, if◌then◌else◌}
use Rattle.std.specs.List.{AllByRecursion}
use Rattle.std.specs.Fmt.{signed_decimal}
use Rattle.std.proofs.Common.{sym, ap, ◌∙◌, subst, arith, lit≤, length-append}
use Rattle.std.proofs.Math.Nat.{suc-mul}
use Rattle.std.proofs.lemmas.Bool.{le-leb}
use Rattle.std.proofs.lemmas.Fmt.{length-decimal-le_wide}
use Rattle.hpx_calls.specs.Tables.{half, stepped}
use Rattle.app_compute.specs.Ring.{first_or, joined, last_or, points_from, ring_step, row_text, row_texts, row_words, stencil_texts}
use Rattle.app_compute.specs.StencilSession.{first_rows, printed}
use Rattle.app_compute.specs.Texts.{fault_text}

-- a number below 1,024, as all numbers of a ring are
abbrev pub IsLow : ℤ → Type 0
IsLow z = (k : ℕ) × (z ≡ pos k) × (k ≤ 1023)

abbrev pub AreLow : List ℤ → Type 0
AreLow xs = AllByRecursion IsLow xs

pub low_points : (first count : ℕ) → first + count ≤ 1024 → AreLow (points_from first count)
low_points first zero h = tt
low_points first (suc count) h = ((first, refl, omega arith), low_points (first + 1) count (omega arith))

half_low : (a b : ℕ) → a ≤ 1023 → b ≤ 1023 → (a + b) / 2 ≤ 1023
half_low a b h k = omega arith

low_half : (x y : ℤ) → IsLow x → IsLow y → IsLow (half (x +ℤ y))
low_half x y h k =
    ((h.0 + k.0) / 2, ap (λ z. half (z +ℤ y)) h.1 ∙ ap (λ z. half (pos h.0 +ℤ z)) k.1, half_low h.0 k.0 h.2 k.2)

pub low_stepped : (left : ℤ) (xs : List ℤ) (right : ℤ) → IsLow left → AreLow xs → IsLow right → AreLow (stepped left xs right)
low_stepped left [] right l h r = tt
low_stepped left (x ∷ []) right l h r = (low_half left right l r, tt)
low_stepped left (x ∷ y ∷ xs) right l h r = (low_half left y l h.1.0, low_stepped x (y ∷ xs) right h.0 h.1 r)

pub length-stepped : (left : ℤ) (xs : List ℤ) (right : ℤ) → length (stepped left xs right) ≡ length xs
length-stepped left [] right = refl
length-stepped left (x ∷ []) right = refl
length-stepped left (x ∷ y ∷ xs) right = ap suc (length-stepped x (y ∷ xs) right)

low_last : (xs : List ℤ) (x : ℤ) → AreLow xs → IsLow x → IsLow (last_or xs x)
low_last [] x h l = l
low_last (y ∷ xs) x h l = low_last xs y h.1 h.0

low_first : (xs : List ℤ) (x : ℤ) → AreLow xs → IsLow x → IsLow (first_or xs x)
low_first [] x h l = l
low_first (y ∷ xs) x h l = h.0

low_zero : IsLow (pos 0)
low_zero = (0, refl, lit≤ tt)

pub low_step : (xs : List ℤ) → AreLow xs → AreLow (ring_step xs)
low_step xs h = low_stepped (last_or xs (pos 0)) xs (first_or xs (pos 0)) (low_last xs (pos 0) h low_zero) h (low_first xs (pos 0) h low_zero)

pub length-step : (xs : List ℤ) → length (ring_step xs) ≡ length xs
length-step xs = length-stepped (last_or xs (pos 0)) xs (first_or xs (pos 0))

-- ---- texts

low_word : (x : ℤ) → IsLow x → length (signed_decimal x) ≤ 4
low_word x h =
    let low = h.2 in
    let short = length-decimal-le_wide 4 h.0 (lit≤ tt) (omega arith) (omega arith) in
    subst (λ z. length (signed_decimal z) ≤ 4) (sym h.1) short

low_words : (xs : List ℤ) → AreLow xs → length (row_words xs) ≤ 5 * length xs
low_words [] h = lit≤ tt
low_words (x ∷ []) h = let one = low_word x h.0 in omega arith
low_words (x ∷ y ∷ xs) h =
    let one = low_word x h.0 in
    let rest = low_words (y ∷ xs) h.1 in
    let all = length-append (signed_decimal x) (codes " " ++ row_words (y ∷ xs)) in
    omega arith

pub row_short : (xs : List ℤ) → AreLow xs → length xs ≤ 1024 → length (row_text xs) ≤ 16384
row_short xs h few =
    let words = low_words xs h in
    let all = length-append (row_words xs) (codes "\n") in
    omega arith

pub row_printed : (xs : List ℤ) → AreLow xs → length xs ≤ 1024 → printed xs ≡ row_text xs ∷ []
row_printed xs h few = ap (λ b. (if b then row_text xs else fault_text 10) ∷ []) (le-leb (length (row_text xs)) 16384 (row_short xs h few))

pub texts_short : (xs : List ℤ) (steps : ℕ) → AreLow xs → length xs ≤ 1024 → AllByRecursion (λ text. length text ≤ 16384) (row_texts xs steps)
texts_short xs zero h few = tt
texts_short xs (suc steps) h few =
    let same = length-step xs in
    (row_short (ring_step xs) (low_step xs h) (omega arith), texts_short (ring_step xs) steps (low_step xs h) (omega arith))

pub length-points : (first count : ℕ) → length (points_from first count) ≡ count
length-points first zero = refl
length-points first (suc count) = ap suc (length-points (first + 1) count)

pub stencil_short : (p s : ℕ) → p ≤ 1024 → AllByRecursion (λ text. length text ≤ 16384) (stencil_texts p s)
stencil_short p s few = let many = length-points 0 p in texts_short (points_from 0 p) s (low_points 0 p (omega arith)) (omega arith)

-- ---- the points of all parts

points_split : (first m k : ℕ) → points_from first (m + k) ≡ points_from first m ++ points_from (first + m) k
points_split first zero k =
    ap (points_from first) (let e : zero + k ≡ k = omega arith in e) ∙ ap (λ f. points_from f k) (let e : first ≡ first + zero = omega arith in e)
points_split first (suc m) k =
    ap (λ j. points_from first j) (let e : suc m + k ≡ suc (m + k) = omega arith in e)
    ∙ ap (λ xs. pos first ∷ xs) (points_split (first + 1) m k ∙ ap (λ f. points_from (first + 1) m ++ points_from f k) (let e : first + 1 + m ≡ first + suc m = omega arith in e))

pub points_joined : (size q count : ℕ) → joined (first_rows size q count) ≡ points_from (q * size) (count * size)
points_joined size q zero = ap (points_from (q * size)) (let e : 0 ≡ 0 * size = omega arith in e)
points_joined size q (suc count) =
    let next : (q + 1) * size ≡ q * size + size = omega arith in
    let all : size + count * size ≡ suc count * size = let m = suc-mul count size in omega arith in
    ap (λ xs. points_from (q * size) size ++ xs) (points_joined size (q + 1) count ∙ ap (λ f. points_from f (count * size)) next)
    ∙ (sym (points_split (q * size) size (count * size)) ∙ ap (points_from (q * size)) all)
