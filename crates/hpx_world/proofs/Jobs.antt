-- No job is out: of each node, and of all.
use Rattle.std.proofs.Common.{List, [], ◌∷◌, ◌≡◌, ◌≢◌, refl}
use Rattle.std.specs.List.{AllByRecursion}
use Rattle.hpx_journal.specs.Data.{Act}
use Rattle.hpx_tables.specs.Tables.{Tables}
use Rattle.hpx_world.specs.Quiet.{NoneRuns}

-- a node of which no job is out
abbrev pub HasNoJob : Tables → Type 0
HasNoJob t = t.running ≡ []

pub all_none : (xs : List Tables) → AllByRecursion HasNoJob xs → NoneRuns xs
all_none [] h = tt
all_none (x ∷ xs) h = (h.0, all_none xs h.1)

pub none_all : (xs : List Tables) → NoneRuns xs → AllByRecursion HasNoJob xs
none_all [] h = tt
none_all (x ∷ xs) h = (h.0, none_all xs h.1)

pub empty_of : (xs : List Act) → (xs ≢ [] → ⊥) → xs ≡ []
empty_of [] h = refl
empty_of (x ∷ xs) h = absurd (h (λ e. cc))
