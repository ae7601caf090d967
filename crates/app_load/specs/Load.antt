-- What a made session of `space` comes to by the plain space: how many of its lines fail, how many objects are named in the end, and the sum of what these hold.
use Rattle.std.specs.Prelude.{ℕ, ℤ, zero, suc, pos, Bool, false, is_some, List, [], ◌∷◌, ◌++◌, ◌+◌, ◌-◌, ◌+ℤ◌, ◌==◌, ◌||◌, Option, Some, None, take, length, codes, if◌then◌else◌}
use Rattle.std.specs.List.{list_any}
use Rattle.std.specs.Str.{bytes_eq}
use Rattle.std.specs.Fmt.{decimal, signed_decimal}
use Rattle.hpx_calls.specs.Values.{Ref}
use Rattle.hpx_calls.specs.declared.content.Pair.{Pair}
use Rattle.hpx_calls.specs.declared.content.Content.{Content}
use Rattle.hpx_calls.specs.declared.content.Content.TheVariants.{Table}
use Rattle.app_console.specs.declared.table.Console.TheVariants.{Space}
use Rattle.app_console.specs.declared.desk.Naming.{Naming}
use Rattle.app_console.specs.Console.{number_of}
use Rattle.app_console.specs.Desks.{seek}
use Rattle.app_console.specs.Plain.{Plain, Datum, RootOf, Thing, at_boot, line_end, texts_of}
use Rattle.app_compute.specs.Load.{generated, objects_from, lines_from}

-- ---- the lines

-- the space after some lines
abbrev pub after : ℕ → Plain → List (List ℕ) → Plain
after n v [] = v
after n v (line ∷ lines) = after n (line_end Space n v line).plain lines

-- the space in which the eight objects have been made
abbrev pub made : ℕ → Plain
made n = after n (at_boot n) (objects_from n 0 8)

-- the space in the end
abbrev pub end_of : ℕ → ℕ → ℕ → Plain
end_of start count n = after n (made n) (lines_from n start count)

-- a query of each of some names that stands for an object
abbrev pub queries : Plain → List (List ℕ) → List (List ℕ)
queries v [] = []
queries v (name ∷ names) = if is_some (seek name v.names) then (codes "query " ++ name) ∷ queries v names else queries v names

-- the names of the eight objects
abbrev pub names : List (List ℕ)
names = codes "o0" ∷ codes "o1" ∷ codes "o2" ∷ codes "o3" ∷ codes "o4" ∷ codes "o5" ∷ codes "o6" ∷ codes "o7" ∷ []

-- all lines that are fed: those that are made, and the queries
abbrev pub session_lines : ℕ → ℕ → ℕ → List (List ℕ)
session_lines start count n = generated start count n ++ queries (end_of start count n) names

-- ---- what they print

-- the text tells of a refusal or a fault
abbrev pub is_error : List ℕ → Bool
is_error text = bytes_eq (take 7 text) (codes "error: ")

abbrev pub errors_in : List (List ℕ) → ℕ
errors_in [] = 0
errors_in (text ∷ texts) = (if is_error text then 1 else 0) + errors_in texts

abbrev pub number_or_0 : Option ℤ → ℤ
number_or_0 (Some z) = z
number_or_0 None = pos 0

-- the sum of the numbers in texts, each before a newline
abbrev pub sum_in : List (List ℕ) → ℤ
sum_in [] = pos 0
sum_in (text ∷ texts) = number_or_0 (number_of (take (length text - 1) text)) +ℤ sum_in texts

-- what the made lines print behind the first eight, and what the queries print
abbrev pub texts_made : ℕ → ℕ → ℕ → List (List ℕ)
texts_made start count n = texts_of Space n (made n) (lines_from n start count)

abbrev pub texts_asked : ℕ → ℕ → ℕ → List (List ℕ)
texts_asked start count n = texts_of Space n (end_of start count n) (queries (end_of start count n) names)

-- ---- what is left

-- the value is the object that was made as the k-th
abbrev pub is_thing : ℕ → Datum → Bool
is_thing k (Ref (Thing m)) = k == m
is_thing k _ = false

abbrev pub is_thing_if : ℕ → Option Datum → Bool
is_thing_if k (Some v) = is_thing k v
is_thing_if k None = false

-- the object stands under a key
abbrev pub holds : ℕ → Content Datum → Bool
holds k (Table pairs) = list_any (λ (x : Pair Datum). is_thing k x.to) pairs
holds k _ = false

-- the object stands on one of so many shelves; 5 is the kind of shelves
abbrev pub is_shelved : Plain → ℕ → ℕ → Bool
is_shelved v zero k = false
is_shelved v (suc n) k = holds k (v.items (RootOf 5 n)).held.content || is_shelved v n k

-- a name, the symbols, whose kind is 2, or a shelf has the object
abbrev pub is_live : ℕ → Plain → ℕ → Bool
is_live n v k = list_any (λ (x : Naming Datum). is_thing_if k x.to) v.names || (holds k (v.items (RootOf 2 0)).held.content || is_shelved v n k)

-- how many of the first so many objects are live
abbrev pub live_below : ℕ → Plain → ℕ → ℕ
live_below n v zero = 0
live_below n v (suc k) = live_below n v k + (if is_live n v k then 1 else 0)

-- ---- the one line

abbrev pub summary_of : ℕ → ℕ → ℕ → ℤ → List ℕ
summary_of lines errors live sum =
    codes "lines " ++ (decimal lines ++ (codes " errors " ++ (decimal errors ++ (codes " live " ++ (decimal live ++ (codes " sum " ++ (signed_decimal sum ++ codes "\n")))))))

-- what `load` prints for a number to start with and so many lines, at n localities
abbrev pub summary : ℕ → ℕ → ℕ → List ℕ
summary start count n =
    summary_of count (errors_in (texts_made start count n)) (live_below n (end_of start count n) (end_of start count n).count) (sum_in (texts_asked start count n))
