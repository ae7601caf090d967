-- Which contents accumulators and partitions have, and what stands at the sides of a number.
use Rattle.std.specs.Prelude.{ℤ, List, [], ◌∷◌}
use Rattle.hpx_calls.specs.declared.content.Content.{Content}
use Rattle.hpx_calls.specs.declared.content.Content.TheVariants.{Number, Row, Unreadable}

-- those of accumulators and partitions
abbrev pub IsNumeral : {V : Type 0} → Content V → Type 0
IsNumeral (Number number) = Unit {0}
IsNumeral (Row numbers) = Unit {0}
IsNumeral (Unreadable values) = Unit {0}
IsNumeral _ = ⊥

-- the first number, or another where there is none
abbrev pub ahead : ℤ → List ℤ → ℤ
ahead other [] = other
ahead other (x ∷ xs) = x
