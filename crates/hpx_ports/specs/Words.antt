-- The words of a command line.
use Rattle.std.specs.Prelude.{ℕ, Option, Some, None, List, ⊤, ◌≡◌}
use Rattle.std.specs.List.{slice_get}

-- the word at a place, from 0, of those that are told; none behind the last
abbrev pub IsWordAt : Option (List (List ℕ)) → ℕ → Option (List ℕ) → Type 0
IsWordAt None place word = ⊤
IsWordAt (Some words) place word = word ≡ slice_get words place
