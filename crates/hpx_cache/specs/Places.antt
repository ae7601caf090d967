-- Where objects were last said to be.
use Rattle.std.specs.Prelude.{ℕ, ◌≤◌, ◌-◌, List, ◌∷◌, length, take, is_some, if◌then◌else◌}
use Rattle.std.specs.List.{IsDistinct}
use Rattle.std.specs.Map.{keys_of, lookup, remove_entry}
use Rattle.hpx_value.specs.Ids.{Id, bare, same_object}

-- each object with its place, the latest first, and how many there may be
pub record Places : Type 0 where
  pub entries : List (Id × ℕ)
  pub size : ℕ

-- no object comes twice, and there are not too many
pub record IsSound (c : Places) : Type 0 where
  pub distinct : IsDistinct same_object (keys_of c.entries)
  pub most : length c.entries ≤ c.size

-- the entries after an object was said to be at a place: an entry that is there moves to the front, and else the last leaves a full cache
abbrev pub learned : Places → Id → ℕ → List (Id × ℕ)
learned c id place =
    (bare id, place)
    ∷ (if is_some (lookup (same_object id) c.entries) then remove_entry (same_object id) c.entries else take (c.size - 1) c.entries)
