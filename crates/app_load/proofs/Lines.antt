-- The lines of a made session are short, and few.
use Rattle.std.specs.Prelude.{zero, suc, false, nat_le, is_some, List, [], ◌∷◌, ◌++◌, ◌≡◌, ◌+◌, ◌/◌, ◌%◌, ◌≤◌, ◌<◌, ◌==◌, ℕ, length, codes, refl}
use Rattle.std.specs.List.{AllByRecursion}
use Rattle.std.specs.Fmt.{decimal}
use Rattle.std.proofs.Common.{ap, arith, lit≤, length-append}
use Rattle.std.proofs.Math.Nat.{mod-lt}
use Rattle.std.proofs.lemmas.Bool.{cond_both, le-ltb}
use Rattle.std.proofs.lemmas.Fmt.{length-decimal-le_wide}
use Rattle.app_console.specs.Desks.{seek}
use Rattle.app_console.specs.Lines.{is_long}
use Rattle.app_console.specs.Plain.{Plain}
use Rattle.app_compute.specs.Load.{next_number, line_with, line_by, line_of, lines_from, objects_from, generated}
use Rattle.app_load.specs.Load.{queries, names, session_lines, end_of}

abbrev Fits : List ℕ → Type 0
Fits line = is_long line ≡ false

fits : (line : List ℕ) → length line ≤ 1024 → Fits line
fits line h = le-ltb 1024 (length line) h

with_fits : (word : List ℕ) (j number : ℕ) → length word ≤ 10 → j < 1000 → number < 1000 → Fits (line_with word j number)
with_fits word j number short first second = fits (line_with word j number) (omega (
  arith,
  length-decimal-le_wide 3 j (lit≤ tt) first (omega arith),
  length-decimal-le_wide 3 number (lit≤ tt) second (omega arith),
  length-append word (codes " o" ++ (decimal j ++ (codes " " ++ decimal number))),
  length-append (codes " o") (decimal j ++ (codes " " ++ decimal number)),
  length-append (decimal j) (codes " " ++ decimal number),
  length-append (codes " ") (decimal number),
))

by_fits : (does j place number : ℕ) → j < 8 → place < 64 → number < 100 → Fits (line_by does j place number)
by_fits does j place number first second third =
    let last : Fits (codes "drop o" ++ decimal j) = fits (codes "drop o" ++ decimal j) (omega (
      arith,
      length-decimal-le_wide 3 j (lit≤ tt) (omega arith) (omega arith),
      length-append (codes "drop o") (decimal j),
    )) in
    let at : (word : List ℕ) → length word ≤ 10 → Fits (line_with word j place) = λ word short. with_fits word j place short (omega arith) (omega arith) in
    cond_both (does == 0) _ _ Fits (λ e. at (codes "new") (lit≤ tt))
    (λ e. cond_both (nat_le does 3) _ _ Fits (λ f. with_fits (codes "add") j number (lit≤ tt) (omega arith) (omega arith))
    (λ f. cond_both (does == 4) _ _ Fits (λ g. at (codes "move") (lit≤ tt))
    (λ g. cond_both (does == 5) _ _ Fits (λ h. at (codes "share") (lit≤ tt))
    (λ h. cond_both (does == 6) _ _ Fits (λ i. at (codes "unshare") (lit≤ tt)) (λ i. last)))))

line_fits : (n r : ℕ) → 1 ≤ n → n ≤ 64 → Fits (line_of n r)
line_fits n r some few =
    let place = mod-lt (r / 64) some in
    by_fits (r / 8 % 8) (r % 8) (r / 64 % n) (r % 100) (mod-lt r (lit≤ tt)) (omega arith) (mod-lt r (lit≤ tt))

lines_fit : (n x count : ℕ) → 1 ≤ n → n ≤ 64 → AllByRecursion Fits (lines_from n x count)
lines_fit n x zero some few = tt
lines_fit n x (suc count) some few = (line_fits n (next_number x / 65536) some few, lines_fit n (next_number x) count some few)

objects_fit : (n j count : ℕ) → 1 ≤ n → n ≤ 64 → j + count ≤ 8 → AllByRecursion Fits (objects_from n j count)
objects_fit n j zero some few h = tt
objects_fit n j (suc count) some few h =
    let place = mod-lt j some in
    (with_fits (codes "new") j (j % n) (lit≤ tt) (omega arith) (omega arith), objects_fit n (j + 1) count some few (omega arith))

queries_fit : (v : Plain) (names : List (List ℕ)) → AllByRecursion (λ name. length name ≤ 10) names → AllByRecursion Fits (queries v names)
queries_fit v [] short = tt
queries_fit v (name ∷ names) short =
    let query : Fits (codes "query " ++ name) = fits (codes "query " ++ name) (let low = short.0 in omega (arith, length-append (codes "query ") name)) in
    cond_both (is_some (seek name v.names)) _ _ (AllByRecursion Fits) (λ e. (query, queries_fit v names short.1)) (λ e. queries_fit v names short.1)

both_fit : (xs ys : List (List ℕ)) → AllByRecursion Fits xs → AllByRecursion Fits ys → AllByRecursion Fits (xs ++ ys)
both_fit [] ys h k = k
both_fit (x ∷ xs) ys h k = (h.0, both_fit xs ys h.1 k)

pub session_fits : (start count n : ℕ) → 1 ≤ n → n ≤ 64 → AllByRecursion Fits (session_lines start count n)
session_fits start count n some few =
    let few_bytes : length (codes "o0") ≤ 10 = lit≤ tt in
    both_fit (generated start count n) (queries (end_of start count n) names)
    (both_fit (objects_from n 0 8) (lines_from n start count) (objects_fit n 0 8 some few (lit≤ tt)) (lines_fit n start count some few))
    (queries_fit (end_of start count n) names (few_bytes, (few_bytes, (few_bytes, (few_bytes, (few_bytes, (few_bytes, (few_bytes, (few_bytes, tt)))))))))

-- ---- how many there are

pub count_lines : (n x count : ℕ) → length (lines_from n x count) ≡ count
count_lines n x zero = refl
count_lines n x (suc count) = ap suc (count_lines n (next_number x) count)

few_queries : (v : Plain) (names : List (List ℕ)) → length (queries v names) ≤ length names
few_queries v [] = lit≤ tt
few_queries v (name ∷ names) =
    let behind = few_queries v names in
    cond_both (is_some (seek name v.names)) _ _ (λ (xs : List (List ℕ)). length xs ≤ length (name ∷ names)) (λ e. omega arith) (λ e. omega arith)

pub session_few : (start count n : ℕ) → count ≤ 20000 → length (session_lines start count n) < 4000000000
session_few start count n few = omega (
  arith,
  count_lines n start count,
  few_queries (end_of start count n) names,
  length-append (generated start count n) (queries (end_of start count n) names),
  length-append (objects_from n 0 8) (lines_from n start count),
)
