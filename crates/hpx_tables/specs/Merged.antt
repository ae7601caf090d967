-- A rider is merged: one of the ids of a state has its credit too.
use Rattle.std.specs.Prelude.{ℕ, Bool, false, cond, nat_lt, List, [], ◌∷◌, ◌+◌, ◌==◌, ◌&&◌, Option, Some, None}
use Rattle.std.specs.List.{list_any}
use Rattle.hpx_value.specs.Ids.{same_object}
use Rattle.hpx_journal.specs.Data.{Id}
use Rattle.hpx_part.specs.Data.{Standing}

-- a credit of this log
abbrev pub has_log : ℕ → Option ℕ → Bool
has_log log None = false
has_log log (Some n) = n == log

-- an id of the object of a rider, with a credit of the rider's log
abbrev pub is_like : Id → ℕ → Id → Bool
is_like rider log id = same_object rider id && has_log log id.log

-- a rider of this log may be merged into one of these ids: its log is below that of a new object, and one is like it
abbrev pub may_merge : ℕ → Id → ℕ → List Id → Bool
may_merge most rider log ids = nat_lt log most && list_any (is_like rider log) ids

-- these ids, the first that is like it with the log above
abbrev pub merged : Id → ℕ → List Id → List Id
merged rider log [] = []
merged rider log (id ∷ ids) = cond (is_like rider log id) (record id { log = Some (log + 1) } ∷ ids) (id ∷ merged rider log ids)

-- an object with it merged into its state
abbrev pub merged_in : Id → ℕ → Standing → Standing
merged_in rider log x = record { object = x.object; state = record x.state { ids = merged rider log x.state.ids } }
