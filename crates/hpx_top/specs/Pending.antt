-- Bytes in which lines are looked for.
use Rattle.std.specs.Prelude.{ℕ, Option, IfSome, List, [], ◌∷◌, ◌++◌, ◌≡◌, ◌+◌, ◌≤◌, length, take, drop}
use Rattle.hpx_ports.specs.Told.{preceded}
use Rattle.app_console.specs.Lines.{IsPiece}

-- the bytes behind `start` are pending, and the first `clear` of them are no newlines
pub record IsSearched (bytes : List ℕ) (start clear : ℕ) : Type 0 where
  pub within : start + clear ≤ length bytes
  pub none : IsPiece (take clear (drop start bytes))

-- the first newline stands at n
pub record IsNewlineAt (bytes : List ℕ) (n : ℕ) : Type 0 where
  pub whole : IsPiece (take n bytes)
  pub is : bytes ≡ take n bytes ++ 10 ∷ drop (n + 1) bytes

-- n bytes were read from a source onto the end of others. Where it tells, they were the next ones, and none are read only
-- where nothing is left.
pub record ReadsOnto (n : ℕ) (old new : List ℕ) (left later : Option (List ℕ)) : Type 0 where
  pub more : List ℕ
  pub count : length more ≡ n
  pub onto : new ≡ old ++ more
  pub next : left ≡ preceded more later
  pub at_end : n ≡ 0 → IfSome later (λ bytes. bytes ≡ [])
