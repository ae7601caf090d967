-- Records by rising number.
use Rattle.std.specs.Prelude.{ℕ, ◌<◌, List, [], ◌∷◌, Option, find, cond}
use Rattle.hpx_value.specs.Ids.{Id, same_object}
use Rattle.hpx_agas.specs.declared.record.Record.{Record}

-- the record of an object
abbrev pub find_record : Id → List Record → Option Record
find_record id records = find (λ r. same_object id r.gid) records

-- the numbers rise, from above this one
abbrev pub Rises : ℕ → List Record → Type 0
Rises low [] = Unit {0}
Rises low (r ∷ rs) = (low < r.gid.number) × Rises r.gid.number rs

-- these records, with what this makes of the record of an object in its place
abbrev pub remade : Id → (Record → Record) → List Record → List Record
remade id made [] = []
remade id made (r ∷ rs) = cond (same_object id r.gid) (made r ∷ rs) (r ∷ remade id made rs)
