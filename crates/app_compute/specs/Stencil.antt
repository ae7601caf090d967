-- The line `stencil P Q S`, and what a session keeps of the ring that it steps.
use Rattle.std.specs.Prelude.{ℕ, ℤ, pos, true, nat_le, List, [], ◌∷◌, ◌++◌, ◌*◌, ◌%◌, ◌==◌, ◌&&◌, Option, Some, None, codes, length, if◌then◌else◌}
use Rattle.std.specs.List.{slice_split}
use Rattle.std.specs.Str.{bytes_eq}
use Rattle.std.specs.Fmt.{decimal}
use Rattle.hpx_calls.specs.Contents.{both, count_in}
use Rattle.app_compute.specs.Types.{Value, Nothing, Flag, Int, Ref, Ints}
use Rattle.app_compute.specs.declared.shape.Shape.{Shape}
use Rattle.app_compute.specs.declared.ring.Part.{Part}
use Rattle.app_compute.specs.declared.ring.Ring.{Ring}
use Rattle.app_compute.specs.Lines.{is_space, number_in}

-- ---- the line

-- `stencil P Q S`: P points in Q parts, S steps
abbrev pub stencil_line : ℕ → ℕ → ℕ → List ℕ
stencil_line p q s = codes "stencil " ++ (decimal p ++ (codes " " ++ (decimal q ++ (codes " " ++ decimal s))))

-- from 1 to 1,024 points, in from 1 to 32 parts of the same size, and up to 1,000 steps
abbrev pub shape_by : Option ℕ → Option ℕ → Option ℕ → Option Shape
shape_by (Some p) (Some q) (Some s) =
    if nat_le 1 p && (nat_le 1 q && (p % q == 0)) then Some (record { points = p; parts = q; steps = s }) else None
shape_by _ _ _ = None

abbrev pub shape_in : List (List ℕ) → Option Shape
shape_in (word ∷ p ∷ q ∷ s ∷ []) =
    if bytes_eq word (codes "stencil") then shape_by (number_in 1024 p) (number_in 32 q) (number_in 1000 s) else None
shape_in _ = None

-- the ring that a line asks for
abbrev pub shape_of : List ℕ → Option Shape
shape_of line = shape_in (slice_split is_space line)

-- ---- what the session keeps

-- for each part its object, and its numbers, once they have come
abbrev pub to_out : Option ℕ → Value
to_out None = Nothing
to_out (Some place) = Ref place

abbrev pub row_out : Option (List ℤ) → Value
row_out None = Nothing
row_out (Some numbers) = Ints numbers

abbrev pub parts_out : List Part → List Value
parts_out [] = []
parts_out (x ∷ parts) = to_out x.to ∷ row_out x.row ∷ parts_out parts

-- how many rows are to come, the slot of the first part's answer, how many points a part has, and the parts
abbrev pub ring_out : Ring → List Value
ring_out x = Flag true ∷ Int (pos x.rows) ∷ Int (pos x.first) ∷ Int (pos x.size) ∷ parts_out x.parts

abbrev pub to_in : Value → Option (Option ℕ)
to_in Nothing = Some None
to_in (Ref place) = Some (Some place)
to_in _ = None

-- a part has so many numbers
abbrev pub row_in : ℕ → Value → Option (Option (List ℤ))
row_in size Nothing = Some None
row_in size (Ints numbers) = if length numbers == size then Some (Some numbers) else None
row_in size _ = None

abbrev pub part_by : Option (Option ℕ) → Option (Option (List ℤ)) → Option Part
part_by (Some to) (Some row) = Some (record { to = to; row = row })
part_by _ _ = None

abbrev pub parts_in : ℕ → List Value → Option (List Part)
parts_in size [] = Some []
parts_in size (v ∷ []) = None
parts_in size (v ∷ w ∷ vs) = both (part_by (to_in v) (row_in size w)) (parts_in size vs)

-- up to 32 parts of 1,024 points together
abbrev pub ring_by : ℕ → ℕ → ℕ → Option (List Part) → Option Ring
ring_by rows first size (Some parts) =
    if nat_le (length parts) 32 && nat_le (size * length parts) 1024
    then Some (record { rows = rows; first = first; size = size; parts = parts }) else None
ring_by rows first size None = None

abbrev pub ring_sized : Option ℕ → Option ℕ → Option ℕ → List Value → Option Ring
ring_sized (Some rows) (Some first) (Some size) vs = ring_by rows first size (parts_in size vs)
ring_sized _ _ _ vs = None

-- the ring that a session's values show
abbrev pub ring_in : List Value → Option Ring
ring_in (Flag true ∷ Int rows ∷ Int first ∷ Int size ∷ vs) = ring_sized (count_in 1000 rows) (count_in 4294967295 first) (count_in 1024 size) vs
ring_in _ = None
