-- What a sink in memory holds.
use Rattle.std.specs.Prelude.{ℕ, List}
use Rattle.hpx_ports.specs.declared.plan.Plan.{Plan}

-- the bytes, and how many writes failed
pub record Kept : Type 0 where
  pub held : List ℕ
  pub faults : ℕ

-- and the writes that are to fail
pub record Holding : Type 0 where
  pub held : List ℕ
  pub writes : Plan
  pub faults : ℕ
