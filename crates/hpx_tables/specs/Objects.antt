-- Objects under the keys that their ids are.
use Rattle.std.specs.Prelude.{ℕ, List, ◌≡◌}
use Rattle.hpx_value.specs.Ids.{Id, bare, bare_id}
use Rattle.hpx_part.specs.Data.{Standing}
use Rattle.hpx_tables.specs.declared.object.Object.{Object}

-- the bare id that a key is
abbrev pub id_of : Object → Id
id_of o = bare_id o.home o.kind o.number

-- an object is under its key
abbrev pub IsUnder : Object × Standing → Type 0
IsUnder e = id_of e.0 ≡ bare e.1.object

-- the objects in their order, and how many more there is room for
pub record Shelf : Type 0 where
  pub items : List Standing
  pub spare : ℕ
