-- The line of `stencil`, and its texts.
use Rattle.std.specs.Prelude.{ℕ, List, ◌∷◌, ◌≡◌, ◌≤◌, ◌%◌}
use Rattle.app_compute.specs.Stencil.{stencil_line}

-- from 1 to 1,024 points, in from 1 to 32 parts of the same size, and up to 1,000 steps
pub record IsAsked (p q s : ℕ) : Type 0 where
  pub points : 1 ≤ p
  pub few_points : p ≤ 1024
  pub parts : 1 ≤ q
  pub few_parts : q ≤ 32
  pub whole : p % q ≡ 0
  pub steps : s ≤ 1000

-- the one line of `stencil`, after its mark
abbrev pub ring_fed : ℕ → ℕ → ℕ → List ℕ
ring_fed p q s = 99 ∷ stencil_line p q s
