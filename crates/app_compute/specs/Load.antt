-- A long session that is made from a number.
use Rattle.std.specs.Prelude.{ℕ, zero, suc, nat_le, List, [], ◌∷◌, ◌++◌, ◌+◌, ◌*◌, ◌/◌, ◌%◌, ◌==◌, ◌^◌, codes, if◌then◌else◌}
use Rattle.std.specs.Fmt.{decimal}

-- the next of the numbers, each of 31 bits
abbrev pub next_number : ℕ → ℕ
next_number x = (x * 1103515245 + 12345) % 2 ^ 31

-- a word, the name of an object, a space, and a number
abbrev pub line_with : List ℕ → ℕ → ℕ → List ℕ
line_with word j number = word ++ (codes " o" ++ (decimal j ++ (codes " " ++ decimal number)))

-- what is done, of eight: an object is made, added to three times as often, moved, put on a shelf and off it, and dropped
abbrev pub line_by : ℕ → ℕ → ℕ → ℕ → List ℕ
line_by does j place number =
    if does == 0 then line_with (codes "new") j place
    else if nat_le does 3 then line_with (codes "add") j number
    else if does == 4 then line_with (codes "move") j place
    else if does == 5 then line_with (codes "share") j place
    else if does == 6 then line_with (codes "unshare") j place
    else codes "drop o" ++ decimal j

-- the line of a number r at n localities: 3 bits say which object, 3 what is done, and the rest where
abbrev pub line_of : ℕ → ℕ → List ℕ
line_of n r = line_by (r / 8 % 8) (r % 8) (r / 64 % n) (r % 100)

-- so many lines, by the high bits of the numbers that follow x
abbrev pub lines_from : ℕ → ℕ → ℕ → List (List ℕ)
lines_from n x zero = []
lines_from n x (suc count) = line_of n (next_number x / 65536) ∷ lines_from n (next_number x) count

-- objects from the j-th on, so many, in turn at all localities
abbrev pub objects_from : ℕ → ℕ → ℕ → List (List ℕ)
objects_from n j zero = []
objects_from n j (suc count) = line_with (codes "new") j (j % n) ∷ objects_from n (j + 1) count

-- eight objects are made, and then come the lines
abbrev pub generated : ℕ → ℕ → ℕ → List (List ℕ)
generated start lines n = objects_from n 0 8 ++ lines_from n start lines
