-- What a source in memory has left, and has given.
use Rattle.std.specs.Prelude.{ℕ, List}
use Rattle.hpx_ports.specs.declared.plan.Plan.{Plan}

-- bytes that are left, and how many were taken
pub record Unread : Type 0 where
  pub left : List ℕ
  pub taken : ℕ

-- and the reads that are to fail, and how many did
pub record Supply : Type 0 where
  pub left : List ℕ
  pub taken : ℕ
  pub reads : Plan
  pub faults : ℕ
