-- Where keys stand in a table.
use Rattle.std.specs.Prelude.{ℕ, List, [], ◌∷◌, ◌+◌, if◌then◌else◌}
use Rattle.std.specs.Str.{bytes_eq}
use Rattle.hpx_calls.specs.declared.content.Pair.{Pair}
use Rattle.hpx_calls.specs.Contents.{precedes}

-- how many keys a new one comes after
abbrev pub place_of : {V : Type 0} → List ℕ → List (Pair V) → ℕ
place_of key [] = 0
place_of key (x ∷ xs) = if precedes key x.key then 0 else place_of key xs + 1

-- how many keys stand before this one
abbrev pub index_of : {V : Type 0} → List ℕ → List (Pair V) → ℕ
index_of key [] = 0
index_of key (x ∷ xs) = if bytes_eq key x.key then 0 else index_of key xs + 1

-- a space before what comes next, if anything does
abbrev pub gap : {V : Type 0} → List (Pair V) → List ℕ
gap [] = []
gap (x ∷ xs) = 32 ∷ []
