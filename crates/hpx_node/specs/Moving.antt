-- The moves of a locality.
use Rattle.std.specs.Prelude.{ℕ, List}
use Rattle.hpx_journal.specs.Data.{Parcel}
use Rattle.hpx_tables.specs.declared.kept.Arrival.{Arrival}

-- moves that were granted, messages that stay for good, the moves with which objects came, and for how many more of each there is memory
pub record Moving : Type 0 where
  pub leaving : List Parcel
  pub stray : List Parcel
  pub came : List Arrival
  pub spare : ℕ
