-- Places for items, filled or empty.
use Rattle.std.specs.Prelude.{List, [], ◌∷◌, Option, Some, None}

-- what stands in the places that are filled
abbrev pub filled : {Q : Type 0} → List (Option Q) → List Q
filled [] = []
filled (None ∷ places) = filled places
filled (Some x ∷ places) = x ∷ filled places
