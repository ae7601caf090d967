-- Words of a line, and numbers that are read as they were written.
use Rattle.std.specs.Prelude.{ℕ, zero, suc, Bool, true, false, cond, nat_le, List, [], ◌∷◌, ◌++◌, ◌≡◌, ◌+◌, ◌-◌, ◌*◌, ◌/◌, ◌%◌, ◌^◌, ◌<◌, ◌≤◌, ◌==◌, ◌&&◌, Some, None, length, refl, if◌then◌else◌}
use Rattle.std.specs.List.{slice_split, onto_first}
use Rattle.std.specs.Fmt.{decimal, digits, digits_onto, digit_glyph}
use Rattle.std.proofs.Common.{ap, ◌∙◌, arith}
use Rattle.std.proofs.Math.Nat.{pow-suc, mod-lt}
use Rattle.std.proofs.lemmas.Bool.{and_parts, eqb-true, le-leb, lt-ltb, ne_eqb}
use Rattle.std.proofs.lemmas.Nat.{div-add-mod'}
use Rattle.app_compute.specs.Lines.{is_space, number_from, number_in}

abbrev pub is_word : List ℕ → Bool
is_word [] = true
is_word (b ∷ bs) = (if is_space b then false else true) && is_word bs

not_space : (b : Bool) → (if b then false else true) ≡ true → b ≡ false
not_space true h = cc
not_space false h = refl

pub split_at : (xs ys : List ℕ) → is_word xs ≡ true → slice_split is_space (xs ++ 32 ∷ ys) ≡ xs ∷ slice_split is_space ys
split_at [] ys h = refl
split_at (x ∷ xs) ys h =
    let parts = and_parts (if is_space x then false else true) (is_word xs) h in
    ap (λ b. cond b ([] ∷ slice_split is_space (xs ++ 32 ∷ ys)) (onto_first x (slice_split is_space (xs ++ 32 ∷ ys)))) (not_space (is_space x) parts.0)
    ∙ ap (onto_first x) (split_at xs ys parts.1)

pub split_none : (xs : List ℕ) → is_word xs ≡ true → slice_split is_space xs ≡ xs ∷ []
split_none [] h = refl
split_none (x ∷ xs) h =
    let parts = and_parts (if is_space x then false else true) (is_word xs) h in
    ap (λ b. cond b ([] ∷ slice_split is_space xs) (onto_first x (slice_split is_space xs))) (not_space (is_space x) parts.0)
    ∙ ap (onto_first x) (split_none xs parts.1)

-- ---- digits

abbrev glyph : ℕ → ℕ
glyph d = digit_glyph false d

glyph_is : (d : ℕ) → d < 10 → glyph d ≡ 48 + d
glyph_is d h = ap (λ b. if b then 48 + d else 87 + d) (lt-ltb d 10 h)

last_small : (n : ℕ) → n % 10 < 10
last_small n = mod-lt n (omega arith)

glyph_word : (d : ℕ) (acc : List ℕ) → d < 10 → is_word acc ≡ true → is_word (glyph d ∷ acc) ≡ true
glyph_word d acc low h =
    ap (λ b. (if is_space b then false else true) && is_word acc) (glyph_is d low)
    ∙ (ap (λ b. (if b then false else true) && is_word acc) (ne_eqb (48 + d) 32 (omega arith)) ∙ h)

word_onto : (k n : ℕ) (acc : List ℕ) → is_word acc ≡ true → is_word (digits_onto k 10 false n acc) ≡ true
word_onto zero n acc h = h
word_onto (suc k) n acc h =
    by (n / 10 == 0) (glyph_word (n % 10) acc (last_small n) h) (word_onto k (n / 10) (glyph (n % 10) ∷ acc) (glyph_word (n % 10) acc (last_small n) h))
  where
    by : (b : Bool) → is_word (glyph (n % 10) ∷ acc) ≡ true → is_word (digits_onto k 10 false (n / 10) (glyph (n % 10) ∷ acc)) ≡ true
        → is_word (if b then glyph (n % 10) ∷ acc else digits_onto k 10 false (n / 10) (glyph (n % 10) ∷ acc)) ≡ true
    by true one more = one
    by false one more = more

pub decimal_word : (n : ℕ) → is_word (decimal n) ≡ true
unfolding digits
decimal_word n = word_onto 64 n [] refl

-- ---- what is read

-- one digit more
read_digit : (most value d : ℕ) (bs : List ℕ) → d < 10 → value * 10 + d ≤ most → number_from most value (glyph d ∷ bs) ≡ number_from most (value * 10 + d) bs
read_digit most value d bs low fits =
    let less : 48 + d - 48 ≡ d = omega arith in
    ap (λ b. number_from most value (b ∷ bs)) (glyph_is d low)
    ∙ (ap (λ b. if (b && nat_le (48 + d) 57) && nat_le (value * 10 + (48 + d - 48)) most then number_from most (value * 10 + (48 + d - 48)) bs else None) (le-leb 48 (48 + d) (omega arith))
    ∙ (ap (λ b. if b && nat_le (value * 10 + (48 + d - 48)) most then number_from most (value * 10 + (48 + d - 48)) bs else None) (le-leb (48 + d) 57 (omega arith))
    ∙ (ap (λ e. if nat_le (value * 10 + e) most then number_from most (value * 10 + e) bs else None) less
    ∙ ap (λ b. if b then number_from most (value * 10 + d) bs else None) (le-leb (value * 10 + d) most fits))))

div_low : (n w : ℕ) → n < w * 10 → n / 10 < w
div_low n w h = omega arith

read_onto : (most k n : ℕ) (acc : List ℕ) → n < 10 ^ k → n ≤ most → number_from most 0 (digits_onto k 10 false n acc) ≡ number_from most n acc
read_onto most zero n acc low fits = ap (λ v. number_from most v acc) (let e : 0 ≡ n = omega arith in e)
read_onto most (suc k) n acc low fits =
    by (n / 10 == 0) refl (read_onto most k (n / 10) (glyph (n % 10) ∷ acc) (div_low n (10 ^ k) (let p = pow-suc 10 k in omega arith)) (omega arith))
  where
    whole : n / 10 * 10 + n % 10 ≡ n
    whole = div-add-mod' n 10

    by : (b : Bool) → (n / 10 == 0) ≡ b → number_from most 0 (digits_onto k 10 false (n / 10) (glyph (n % 10) ∷ acc)) ≡ number_from most (n / 10) (glyph (n % 10) ∷ acc)
        → number_from most 0 (if n / 10 == 0 then glyph (n % 10) ∷ acc else digits_onto k 10 false (n / 10) (glyph (n % 10) ∷ acc)) ≡ number_from most n acc
    by true e more =
        let none = eqb-true (n / 10) 0 e in
        ap (λ b. number_from most 0 (if b then glyph (n % 10) ∷ acc else digits_onto k 10 false (n / 10) (glyph (n % 10) ∷ acc))) e
        ∙ (read_digit most 0 (n % 10) acc (last_small n) (omega arith) ∙ ap (λ v. number_from most v acc) (let z : 0 * 10 + n % 10 ≡ n = omega arith in z))
    by false e more =
        ap (λ b. number_from most 0 (if b then glyph (n % 10) ∷ acc else digits_onto k 10 false (n / 10) (glyph (n % 10) ∷ acc))) e
        ∙ (more ∙ (read_digit most (n / 10) (n % 10) acc (last_small n) (omega arith) ∙ ap (λ v. number_from most v acc) whole))

-- a word is read digit by digit
in_from : (most : ℕ) (bs : List ℕ) (n : ℕ) → 1 ≤ length bs → number_from most 0 bs ≡ Some n → number_in most bs ≡ Some n
in_from most [] n h e = absurd (omega arith)
in_from most (b ∷ bs) n h e = e

onto_some : (k n : ℕ) (acc : List ℕ) → 1 ≤ length acc → 1 ≤ length (digits_onto k 10 false n acc)
onto_some zero n acc h = h
onto_some (suc k) n acc h = by (n / 10 == 0) (onto_some k (n / 10) (glyph (n % 10) ∷ acc) (omega arith))
  where
    by : (b : Bool) → 1 ≤ length (digits_onto k 10 false (n / 10) (glyph (n % 10) ∷ acc))
        → 1 ≤ length (if b then glyph (n % 10) ∷ acc else digits_onto k 10 false (n / 10) (glyph (n % 10) ∷ acc))
    by true more = omega arith
    by false more = more

digits_some : (k n : ℕ) → 1 ≤ k → 1 ≤ length (digits_onto k 10 false n [])
digits_some zero n h = absurd (omega arith)
digits_some (suc k) n h = by (n / 10 == 0) (onto_some k (n / 10) (glyph (n % 10) ∷ []) (omega arith))
  where
    by : (b : Bool) → 1 ≤ length (digits_onto k 10 false (n / 10) (glyph (n % 10) ∷ []))
        → 1 ≤ length (if b then glyph (n % 10) ∷ [] else digits_onto k 10 false (n / 10) (glyph (n % 10) ∷ []))
    by true more = omega arith
    by false more = more

-- a number up to the bound, as it is written
pub number_read : (most n : ℕ) → n ≤ most → n < 10 ^ 64 → number_in most (decimal n) ≡ Some n
unfolding digits
number_read most n fits wide = in_from most (digits_onto 64 10 false n []) n (digits_some 64 n (omega arith)) (read_onto most 64 n [] wide fits)
