-- What stands at boot.
use Rattle.std.specs.Prelude.{ℕ, pos, cond, List, [], ◌∷◌, ◌++◌, ◌==◌}
use Rattle.hpx_value.specs.Ids.{bare_id}
use Rattle.hpx_journal.specs.Data.{Value, Int}
use Rattle.hpx_journal.specs.Entries.{Standing}

-- a root of this kind, with these values
abbrev pub root : ℕ → ℕ → List Value → Standing
root k kind values = record { object = bare_id k kind 1; state = record { drawn = 0; values = values; conts = []; ids = [] } }

-- the session, the symbols and the localities
abbrev pub roots_of_first : ℕ → List Standing
roots_of_first n = root 0 1 [] ∷ root 0 2 [] ∷ root 0 4 (Int (pos n) ∷ []) ∷ []

-- what stands at k of n localities: those of the first, then components, shelf and plain
abbrev pub roots : ℕ → ℕ → List Standing
roots n k = cond (k == 0) (roots_of_first n) [] ++ (root k 3 [] ∷ root k 5 [] ∷ root k 7 [] ∷ [])
