-- Lists that are read by a key: a definition's bag, and the code's list in its own order.
use Rattle.std.specs.Prelude.{Bool, List, ◌≡◌, ◌≤◌}
use Rattle.std.specs.List.{find, count_by}

-- the same elements, each key once
pub record Agree {K X : Type 0} (test : K → X → Bool) (xs ys : List X) : Type 0 where
  pub single : (k : K) → count_by (test k) xs ≤ 1
  pub counts : (k : K) → count_by (test k) xs ≡ count_by (test k) ys
  pub finds : (k : K) → find (test k) xs ≡ find (test k) ys
