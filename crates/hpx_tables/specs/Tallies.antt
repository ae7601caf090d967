-- How many ids with credit there are of each object.
use Rattle.std.specs.Prelude.{ℕ, Bool, false, List, ◌≡◌, ◌+◌, ◌&&◌, is_some}
use Rattle.std.specs.List.{count_by, sum_by}
use Rattle.std.specs.Map.{lookup}
use Rattle.std.specs.Option.{option_map_or}
use Rattle.hpx_value.specs.Ids.{Id, same_object}
use Rattle.hpx_tables.specs.declared.object.Object.{Object}
use Rattle.hpx_tables.specs.declared.tally.Tally.{Tally}
use Rattle.hpx_tables.specs.Objects.{id_of}

-- an id with credit of an object
abbrev pub has_credit : Id → Id → Bool
has_credit o id = same_object o id && is_some id.log

-- how many of these ids
abbrev pub many_in : Id → List Id → ℕ
many_in o ids = count_by (has_credit o) ids

-- the number of an object among entries, 0 where it has none
abbrev pub number_in : List (Object × ℕ) → Id → ℕ
number_in es o = option_map_or (λ n. n) (lookup (λ k. same_object o (id_of k)) es) 0

abbrev pub number_of : Tally → Id → ℕ
number_of t o = number_in t.numbers.entries o

-- unless it lost count, it has these ids more
abbrev pub Adds : Tally → List Id → Tally → Type 0
Adds t ids u = u.lost ≡ false → (t.lost ≡ false) × ((o : Id) → number_of u o ≡ number_of t o + many_in o ids)

-- unless it lost count, it has these ids less
abbrev pub Takes : Tally → List Id → Tally → Type 0
Takes t ids u = u.lost ≡ false → (t.lost ≡ false) × ((o : Id) → number_of t o ≡ number_of u o + many_in o ids)

-- unless it lost count, its numbers are those of the ids of these
abbrev pub Counts : {X : Type 0} → Tally → (X → List Id) → List X → Type 0
Counts t ids xs = t.lost ≡ false → (o : Id) → number_of t o ≡ sum_by (λ x. many_in o (ids x)) xs
