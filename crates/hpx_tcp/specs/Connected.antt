-- What a link over sockets keeps.
use Rattle.std.specs.Prelude.{ℕ}
use Rattle.hpx_ports.specs.declared.link.Latest.{Latest}

-- what the last receive answered, and how many calls failed
pub record Connected : Type 0 where
  pub latest : Latest
  pub faults : ℕ
