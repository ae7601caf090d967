-- Rings of points, whole and in parts, and the text of their steps.
use Rattle.std.specs.Prelude.{ℕ, zero, suc, ℤ, pos, List, [], ◌∷◌, ◌++◌, ◌+◌, codes}
use Rattle.std.specs.Fmt.{signed_decimal}
use Rattle.hpx_calls.specs.Tables.{stepped}

-- the first number, or another where there is none
abbrev pub first_or : List ℤ → ℤ → ℤ
first_or [] other = other
first_or (x ∷ xs) other = x

-- the last number, or another where there is none
abbrev pub last_or : List ℤ → ℤ → ℤ
last_or [] other = other
last_or (x ∷ xs) other = last_or xs x

-- each point becomes half the sum of its neighbours, as they were; the last and the first are neighbours
abbrev pub ring_step : List ℤ → List ℤ
ring_step xs = stepped (last_or xs (pos 0)) xs (first_or xs (pos 0))

-- ---- the text

-- the numbers from one on, so many
abbrev pub points_from : ℕ → ℕ → List ℤ
points_from first zero = []
points_from first (suc count) = pos first ∷ points_from (first + 1) count

-- numbers with one space between
abbrev pub row_words : List ℤ → List ℕ
row_words [] = []
row_words (x ∷ []) = signed_decimal x
row_words (x ∷ y ∷ xs) = signed_decimal x ++ (codes " " ++ row_words (y ∷ xs))

abbrev pub row_text : List ℤ → List ℕ
row_text xs = row_words xs ++ codes "\n"

-- a row for each step
abbrev pub row_texts : List ℤ → ℕ → List (List ℕ)
row_texts xs zero = []
row_texts xs (suc steps) = row_text (ring_step xs) ∷ row_texts (ring_step xs) steps

-- the texts of `stencil`: point i begins at i
abbrev pub stencil_texts : ℕ → ℕ → List (List ℕ)
stencil_texts points steps = row_texts (points_from 0 points) steps

-- ---- parts

-- the steps of parts in a row, with numbers at its sides: each part has the nearest numbers of those beside it
abbrev pub parts_stepped : ℤ → List (List ℤ) → ℤ → List (List ℤ)
parts_stepped left [] right = []
parts_stepped left (x ∷ []) right = stepped left x right ∷ []
parts_stepped left (x ∷ y ∷ rows) right = stepped left x (first_or y right) ∷ parts_stepped (last_or x left) (y ∷ rows) right

-- the first number of the first part, and the last of the last
abbrev pub first_of : List (List ℤ) → ℤ
first_of [] = pos 0
first_of (x ∷ rows) = first_or x (pos 0)

abbrev pub last_of : List (List ℤ) → ℤ
last_of [] = pos 0
last_of (x ∷ []) = last_or x (pos 0)
last_of (x ∷ y ∷ rows) = last_of (y ∷ rows)

-- one step of a ring that lies in parts
abbrev pub ring_stepped : List (List ℤ) → List (List ℤ)
ring_stepped rows = parts_stepped (last_of rows) rows (first_of rows)

-- the numbers of all parts
abbrev pub joined : List (List ℤ) → List ℤ
joined [] = []
joined (x ∷ rows) = x ++ joined rows

-- a part has a point
abbrev pub IsFilled : List ℤ → Type 0
IsFilled [] = ⊥
IsFilled (x ∷ xs) = Unit {0}
