-- Keys, seen as ids.
use Rattle.std.specs.Prelude.{ℕ}
use Rattle.hpx_value.specs.Ids.{Id, bare_id}
use Rattle.hpx_cache.specs.declared.cache.Object.{Object}

-- the bare id that a key is
abbrev pub id_of : Object → Id
id_of o = bare_id o.home o.kind o.number

-- an entry, seen with its id
abbrev pub shown : Object × ℕ → Id × ℕ
shown e = (id_of e.0, e.1)
