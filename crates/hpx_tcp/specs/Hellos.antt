-- The first body in each direction: who speaks, and of how many members.
use Rattle.std.specs.Prelude.{ℕ, List, ◌∷◌, ◌++◌}
use Rattle.std.specs.Int.{w16, to_be_bytes}

-- one of n members says which one it is
abbrev pub hello_of : ℕ → ℕ → List ℕ
hello_of n node = 243 ∷ to_be_bytes w16 n ++ to_be_bytes w16 node
