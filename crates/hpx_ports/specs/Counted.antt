-- What an adapter over a reader or a writer tells and counts.
use Rattle.std.specs.Prelude.{ℕ, Option, List}

-- the bytes that are left, where the reader tells; those that were read, and how many reads failed
pub record Readings : Type 0 where
  pub left : Option (List ℕ)
  pub taken : ℕ
  pub faults : ℕ

-- the bytes that are held, where the writer tells, and how many writes failed
pub record Writings : Type 0 where
  pub held : Option (List ℕ)
  pub faults : ℕ
