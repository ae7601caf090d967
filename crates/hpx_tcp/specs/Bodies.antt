-- Bodies as they stand in a stream: each behind its length.
use Rattle.std.specs.Prelude.{ℕ, Option, Some, None, IfSome, List, [], ◌≡◌, ◌≤◌, ◌++◌, length}
use Rattle.std.specs.Int.{w32, to_be_bytes}
use Rattle.hpx_ports.specs.Told.{preceded}

-- a body: at least one byte, and at most 65,536
pub record IsBody (body : List ℕ) : Type 0 where
  pub some : 1 ≤ length body
  pub most : length body ≤ 65536

-- a body behind its length
abbrev pub framed : List ℕ → List ℕ
framed body = to_be_bytes w32 (length body) ++ body

-- A body was taken from the front of what is told to be left; none only where nothing was left.
abbrev pub Comes : Option (List ℕ) → Option (List ℕ) → Option (List ℕ) → Type 0
Comes None old new = IfSome old (λ xs. xs ≡ [])
Comes (Some body) old new = IsBody body × (old ≡ preceded (framed body) new)
