-- Texts are short enough to be printed.
use Rattle.std.specs.Prelude.{ℕ, zero, suc, ℤ, pos, negsuc, Bool, false, nat_le, ◌/◌, ◌%◌, List, [], ◌∷◌, ◌++◌, ◌+◌, ◌≤◌, ◌==◌, codes, length, if◌then◌else◌}
use Rattle.std.specs.List.{AllByRecursion, filter, slice_split, onto_first}
use Rattle.std.specs.Fmt.{digits, digits_onto, digit_glyph, decimal}
use Rattle.std.proofs.Common.{arith, length-append, lit≤}
use Rattle.std.proofs.lemmas.Bool.{cond_both, leb-true}
use Rattle.hpx_calls.specs.Values.{Value, Nothing, Flag, Int, Text, Ref, Fault, Ints}
use Rattle.app_console.specs.Types.{Console, Space, AccumulatorConsole, Own, Refusal, BadCommand, BadName, NameInUse, UnknownName, NotReady, NoSuchLocality, BadNumber, NotMovable, TooManyNames, TooManyPending, What, NotSaid, Told, Released, Bound}
use Rattle.app_console.specs.Console.{number_text, fault_word, fault_text, is_filled, is_blank, words_of}
use Rattle.app_console.specs.Commands.{help_of, refusal_word, refusal_text, clipped, told_text, good_text, answer_text}
use Rattle.app_console.specs.Session.{printed}

abbrev pub IsPrint : List ℕ → Type 0
IsPrint text = length text ≤ 16384

length-digits_onto : (k base : ℕ) (upper : Bool) (n : ℕ) (acc : List ℕ) → length (digits_onto k base upper n acc) ≤ k + length acc
length-digits_onto zero base upper n acc = omega arith
length-digits_onto (suc k) base upper n acc =
    cond_both (n / base == 0) _ _ (λ bytes. length bytes ≤ suc k + length acc) (λ e. omega arith)
    (λ e. let more = length-digits_onto k base upper (n / base) (digit_glyph upper (n % base) ∷ acc) in omega arith)

length-decimal : (n : ℕ) → length (decimal n) ≤ 64
unfolding digits
length-decimal n = length-digits_onto 64 10 false n []

number_fits : (z : ℤ) → IsPrint (number_text z)
number_fits (pos n) = let digits_fit = length-decimal n in omega (arith, length-append (decimal n) (codes "\n"))
number_fits (negsuc n) = let digits_fit = length-decimal (suc n) in omega (arith, length-append (decimal (suc n)) (codes "\n"))

abbrev word_fits : List ℕ → Type 0
word_fits word = length word ≤ 20

either_word : (b : Bool) (x y : List ℕ) → word_fits x → word_fits y → word_fits (if b then x else y)
either_word b x y p q = cond_both b x y word_fits (λ e. p) (λ e. q)

fault_word_fits : (code : ℕ) → word_fits (fault_word code)
fault_word_fits code =
    either_word (code == 1) _ _ (lit≤ tt) (either_word (code == 2) _ _ (lit≤ tt) (either_word (code == 3) _ _ (lit≤ tt)
    (either_word (code == 4) _ _ (lit≤ tt) (either_word (code == 5) _ _ (lit≤ tt) (either_word (code == 6) _ _ (lit≤ tt)
    (either_word (code == 7) _ _ (lit≤ tt) (either_word (code == 8) _ _ (lit≤ tt) (either_word (code == 9) _ _ (lit≤ tt)
    (either_word (code == 10) _ _ (lit≤ tt) (either_word (code == 11) _ _ (lit≤ tt) (lit≤ tt)))))))))))

error_fits : (word : List ℕ) → word_fits word → IsPrint (codes "error: " ++ word ++ codes "\n")
error_fits word h = omega (arith, length-append (codes "error: " ++ word) (codes "\n"), length-append (codes "error: ") word)

pub fault_fits : (code : ℕ) → IsPrint (fault_text code)
fault_fits code = error_fits (fault_word code) (fault_word_fits code)

refusal_word_fits : (r : Refusal) → word_fits (refusal_word r)
refusal_word_fits BadCommand = lit≤ tt
refusal_word_fits BadName = lit≤ tt
refusal_word_fits NameInUse = lit≤ tt
refusal_word_fits UnknownName = lit≤ tt
refusal_word_fits NotReady = lit≤ tt
refusal_word_fits NoSuchLocality = lit≤ tt
refusal_word_fits BadNumber = lit≤ tt
refusal_word_fits NotMovable = lit≤ tt
refusal_word_fits TooManyNames = lit≤ tt
refusal_word_fits TooManyPending = lit≤ tt

pub refusal_fits : (r : Refusal) → IsPrint (refusal_text r)
refusal_fits r = error_fits (refusal_word r) (refusal_word_fits r)

pub help_fits : (c : Console) → IsPrint (help_of c)
help_fits Space = lit≤ tt
help_fits AccumulatorConsole = lit≤ tt
help_fits Own = lit≤ tt

clipped_fits : (text : List ℕ) → IsPrint (clipped text)
clipped_fits text = cond_both (nat_le (length text) 16384) _ _ IsPrint (λ e. leb-true (length text) 16384 e) (λ e. fault_fits 10)

told_fits : {R : Type 0} (v : Value R) → IsPrint (told_text v)
told_fits (Int z) = number_fits z
told_fits (Text bytes) = clipped_fits (bytes ++ codes "\n")
told_fits _ = lit≤ tt

good_fits : {R : Type 0} (what : What) (v : Value R) → IsPrint (good_text what v)
good_fits NotSaid v = lit≤ tt
good_fits Told v = told_fits v
good_fits Released v = lit≤ tt
good_fits (Bound name) v = lit≤ tt

pub answer_fits : {R : Type 0} (what : What) (v : Value R) → IsPrint (answer_text what v)
answer_fits what (Fault code) = fault_fits code
answer_fits what Nothing = good_fits what Nothing
answer_fits what (Flag b) = good_fits what (Flag b)
answer_fits what (Int z) = good_fits what (Int z)
answer_fits what (Text t) = good_fits what (Text t)
answer_fits what (Ref r) = good_fits what (Ref r)
answer_fits what (Ints zs) = good_fits what (Ints zs)

pub printed_fits : (text : List ℕ) → IsPrint text → AllByRecursion (λ bytes. length bytes ≤ 16384) (printed text)
printed_fits [] h = tt
printed_fits (b ∷ bs) h = (h, tt)

pub printed_few : (text : List ℕ) → length (printed text) ≤ 16
printed_few [] = lit≤ tt
printed_few (b ∷ bs) = lit≤ tt

-- ---- words

all_weaker : (m n : ℕ) (ws : List (List ℕ)) → m ≤ n → AllByRecursion (λ w. length w ≤ m) ws → AllByRecursion (λ w. length w ≤ n) ws
all_weaker m n [] low h = tt
all_weaker m n (w ∷ ws) low h = let short = h.0 in (omega arith, all_weaker m n ws low h.1)

onto_fits : (m x : ℕ) (ws : List (List ℕ)) → AllByRecursion (λ w. length w ≤ m) ws → AllByRecursion (λ w. length w ≤ suc m) (onto_first x ws)
onto_fits m x [] h = (omega arith, tt)
onto_fits m x (w ∷ ws) h = let short = h.0 in (omega arith, all_weaker m (suc m) ws (omega arith) h.1)

split_fits : (p : ℕ → Bool) (xs : List ℕ) → AllByRecursion (λ w. length w ≤ length xs) (slice_split p xs)
split_fits p [] = (omega arith, tt)
split_fits p (x ∷ xs) =
    cond_both (p x) _ _ (AllByRecursion (λ w. length w ≤ suc (length xs)))
    (λ e. (omega arith, all_weaker (length xs) (suc (length xs)) (slice_split p xs) (omega arith) (split_fits p xs))) (λ e. onto_fits (length xs) x (slice_split p xs) (split_fits p xs))

filter_fits : (m : ℕ) (q : List ℕ → Bool) (ws : List (List ℕ)) → AllByRecursion (λ w. length w ≤ m) ws → AllByRecursion (λ w. length w ≤ m) (filter q ws)
filter_fits m q [] h = tt
filter_fits m q (w ∷ ws) h = cond_both (q w) _ _ (AllByRecursion (λ w. length w ≤ m)) (λ e. (h.0, filter_fits m q ws h.1)) (λ e. filter_fits m q ws h.1)

-- no word is longer than its line
pub words_fit : (line : List ℕ) → AllByRecursion (λ w. length w ≤ length line) (words_of line)
words_fit line = filter_fits (length line) is_filled (slice_split is_blank line) (split_fits is_blank line)
