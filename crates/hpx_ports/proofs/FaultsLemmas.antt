-- The count over several calls.
use Rattle.std.proofs.Common.{ℕ, ◌^◌, ◌<◌, ◌≤◌, arith}
use Rattle.hpx_ports.specs.Faults.{Rose, raised}

-- what rose has risen later too
pub Rose-later : (a b c : ℕ) → Rose a b → b ≤ c → Rose a c
Rose-later a b c r h = omega arith

-- what rose has risen since earlier too
pub Rose-earlier : (a b c : ℕ) → a ≤ b → Rose b c → Rose a c
Rose-earlier a b c h r = omega arith

-- one more
pub Rose-raised : (n : ℕ) → Rose n (raised n)
Rose-raised n = omega arith

-- a count that fits stays one, and doesn't fall
pub raised-above : (n : ℕ) → n < 2 ^ 64 → n ≤ raised n
raised-above n h = omega arith
