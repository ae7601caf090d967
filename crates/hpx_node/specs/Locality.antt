-- A locality as clauses see it.
use Rattle.std.specs.Prelude.{List, map, ℕ}
use Rattle.hpx_node.specs.Names.{Tables}

pub record Locality : Type 0 where
  pub tables : Tables  -- what it keeps
  pub spare : ℕ  -- for how much more of each it has memory

-- what each keeps
abbrev pub tables_of : List Locality → List Tables
tables_of = map (λ n. n.tables)
