-- The lines of a made session, one by one, by which of the eight names stand for an object; no plain space is computed.
use Rattle.std.specs.Prelude.{ℕ, zero, suc, Bool, true, false, nat_le, List, [], ◌∷◌, ◌++◌, ◌+◌, ◌-◌, ◌/◌, ◌%◌, ◌==◌, ◌≡◌, ◌≤◌, ◌<◌, Option, Some, None, codes, drop, set, if◌then◌else◌}
use Rattle.std.specs.Fmt.{decimal}
use Rattle.app_compute.specs.Load.{next_number, lines_from, objects_from}
use Rattle.app_load.specs.declared.session.position.Position.{Position}

-- after `new` a name stands for an object, after `drop` for none, and no other line changes what stands
abbrev pub standing_by : ℕ → ℕ → List Bool → List Bool
standing_by does j xs = if does == 0 then set xs j true else if nat_le does 6 then xs else set xs j false

-- which names stand after the line of a number
abbrev pub standing_behind : ℕ → List Bool → List Bool
standing_behind r xs = standing_by (r / 8 % 8) (r % 8) xs

-- which names stand after so many lines, by the numbers that follow x
abbrev pub standing_after : ℕ → ℕ → List Bool → List Bool
standing_after x zero xs = xs
standing_after x (suc count) xs = standing_after (next_number x) count (standing_behind (next_number x / 65536) xs)

-- the query of an object
abbrev pub query_line : ℕ → List ℕ
query_line j = codes "query o" ++ decimal j

-- the queries of those that stand, from the j-th name on
abbrev pub queries_from : ℕ → List Bool → List (List ℕ)
queries_from j [] = []
queries_from j (stands ∷ xs) = if stands then query_line j ∷ queries_from (j + 1) xs else queries_from (j + 1) xs

-- the next name that is asked about, from the j-th on
abbrev pub IsAsked : Option ℕ → ℕ → List Bool → Type 0
IsAsked (Some k) j xs = (k < 8) × (queries_from j (drop j xs) ≡ query_line k ∷ queries_from (k + 1) (drop (k + 1) xs))
IsAsked None j xs = queries_from j (drop j xs) ≡ []

-- the lines that are left: those that make objects, those that follow from a number, and the queries in the end
abbrev pub lines_left : Position → List (List ℕ)
lines_left p =
    objects_from p.localities p.objects (8 - p.objects)
    ++ (lines_from p.localities p.number p.left ++ queries_from p.asked (drop p.asked (standing_after p.number p.left p.standing.names)))

-- there is a locality, and of eight objects so many were made, and asked about
pub record IsPosition (p : Position) : Type 0 where
  pub some : 1 ≤ p.localities
  pub made : p.objects ≤ 8
  pub asked : p.asked ≤ 8

-- the first of the lines is handed out, or there is none
abbrev pub IsNext : Option (List ℕ) → List (List ℕ) → List (List ℕ) → Type 0
IsNext (Some line) lines left = lines ≡ line ∷ left
IsNext None lines left = (lines ≡ []) × (left ≡ [])
