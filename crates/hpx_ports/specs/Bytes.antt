-- What a call that reads or writes does to the bytes of a source or a sink.
use Rattle.std.specs.Prelude.{ℕ, Option, IfSome, List, [], ◌≡◌, ◌≤◌, ◌<◌, length, take}
use Rattle.hpx_ports.specs.Told.{followed, preceded}

-- A read put n bytes at the front of the buffer. Where the source tells, they were the next ones, and nothing is read
-- into a buffer with room only where nothing was left.
pub record Reads (n : ℕ) (buf : List ℕ) (old new : Option (List ℕ)) : Type 0 where
  pub fits : n ≤ length buf
  pub next : old ≡ preceded (take n buf) new
  pub at_end : n ≡ 0 → 0 < length buf → IfSome old (λ xs. xs ≡ [])

-- A write took the first n bytes of a piece, at least one if there is one. Where the sink tells, it holds them behind
-- the others.
pub record Writes (n : ℕ) (piece : List ℕ) (old new : Option (List ℕ)) : Type 0 where
  pub fits : n ≤ length piece
  pub takes_some : 0 < length piece → 1 ≤ n
  pub held : new ≡ followed old (take n piece)

-- some first bytes were written, and not all
pub record WritesPart (bytes : List ℕ) (old new : Option (List ℕ)) : Type 0 where
  pub count : ℕ
  pub short : count < length bytes
  pub held : new ≡ followed old (take count bytes)
